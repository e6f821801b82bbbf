-- The time was added to the name at the place, and to no others.
use Rattle.std.proofs.Common.{false, sym, ap, ◌∙◌}
use Rattle.std.specs.Option.{option_copied_mut}
use Rattle.puffin_look.proofs.TallyRows.{row_grown, no_place}
use Rattle.puffin_look.proofs.tallies.add_nested.Goals as goal

pub returns-in-Some : goal.returns-in-Some
returns-in-Some c = λ name at.
    let value = sym c.get_index_mut.ensures.value ∙ ap option_copied_mut c.in-Some.is in
    row_grown (record { name = name; is_call = false; time = c.args.time }) c.args.rows.now.entries c.args.place
    c.in-Some.tally.now c.add_nested.new.self c.add_nested.ensures at value c.get_index_mut.ensures.unique

pub returns-in_default : goal.returns-in_default
returns-in_default c = λ name at.
    let none = sym c.get_index_mut.ensures.value ∙ ap option_copied_mut c.in_default.is in
    absurd (no_place c.args.rows.now.entries c.args.place name none at)
