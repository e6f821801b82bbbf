-- The path at the place was appended.
use Rattle.std.proofs.Common.{ℕ, List, ◌++◌, codes, sym, ap, ◌∙◌}
use Rattle.std.specs.Option.{option_map}
use Rattle.std.specs.Map.Iter.{deref_pair}
use Rattle.std.proofs.lemmas.Result.{on_ok_weaker}
use Rattle.puffin_look.proofs.StackRows.{front_none, front_some}
use Rattle.puffin_look.proofs.Pushed.{pushed2, appended_if}
use Rattle.puffin_look.proofs.stacks.push_outer.Goals as goal

pub returns-in_default-get_index : goal.returns-in_default-get_index
returns-in_default-get_index c =
    front_none c.args.rows.now.entries c.args.place c.in-Some.place c.args.text.now.items c.in-Some.is
    (sym c.get_index.ensures.entry ∙ ap (option_map deref_pair) c.in_default-get_index.is)

pub returns : goal.returns
returns c =
    let at = sym c.get_index.ensures.entry ∙ ap (option_map deref_pair) c.in-Some-get_index.is in
    let one = c.in_ok-extend_from_slice.ensures.items ∙ ap (λ (bs : List ℕ). c.args.text.now.items ++ bs) c.deref.ensures.value in
    let whole = front_some c.args.rows.now.entries c.args.place c.in-Some.place _ _ c.in-Some.is at in
    on_ok_weaker c.extend_from_slice-2.result (λ two. pushed2 _ _ _ _ _ one two ∙ ap (λ (bs : List ℕ). c.args.text.now.items ++ bs) whole)
    (appended_if c.extend_from_slice-2.result c.extend_from_slice-2.new.self.items c.extend_from_slice.new.self.items
    (codes ";") c.extend_from_slice-2.ensures.items)
