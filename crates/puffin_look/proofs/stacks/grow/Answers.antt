-- The times of the path at the place have grown, and no others.
use Rattle.std.proofs.Common.{sym, ap, ◌∙◌}
use Rattle.std.specs.Option.{option_copied_mut}
use Rattle.puffin_look.specs.inner.Stacks.{rows_in}
use Rattle.indexmap.specs.IndexMap.{set_value_at}
use Rattle.puffin_look.specs.declared.stacks.Times.{Times}
use Rattle.puffin_look.proofs.StackRows.{part_added, no_place}
use Rattle.puffin_look.proofs.stacks.grow.Goals as goal

pub returns-in-Some : goal.returns-in-Some
returns-in-Some c = λ path at.
    let value = sym c.get_index_mut.ensures.value ∙ ap option_copied_mut c.in-Some.is in
    ap (λ (t : Times). rows_in (set_value_at c.args.rows.now.entries c.args.place t)) c.with.ensures
    ∙ part_added (record { path = path; whole = c.args.whole; nested = c.args.nested }) c.args.rows.now.entries c.args.place
    c.in-Some.times.now at value c.get_index_mut.ensures.unique

pub returns-in_default : goal.returns-in_default
returns-in_default c = λ path at.
    let none = sym c.get_index_mut.ensures.value ∙ ap option_copied_mut c.in_default.is in
    absurd (no_place c.args.rows.now.entries c.args.place path none at)
