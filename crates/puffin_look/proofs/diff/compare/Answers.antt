-- The row of one more name was added, if only the new file has it.
--
-- `item`: the row is the one at this place, so the rows that are `done` are those before and it.
use Rattle.std.proofs.Common.{◌≡◌, List, ℕ, ◌∷◌, [], ◌++◌, map, get_or, take, ap, sym, ◌∙◌, arith}
use Rattle.std.proofs.lemmas.List.{take_more}
use Rattle.puffin_look.specs.Diff.{entry_of, old_entries, new_entries}
use Rattle.puffin_look.specs.inner.Diffs.{new_entry_in}
use Rattle.puffin_look.specs.declared.top.TopRow.{TopRow}
use Rattle.puffin_look.proofs.PartsHeld.{new_more}
use Rattle.puffin_look.proofs.diff.compare.Goals as goal

pub loop-row-2-preserved : goal.loop-row-2-preserved
loop-row-2-preserved c =
    let old = c.args.old.now in
    let new = c.args.new.now in
    let rows = new.rows.items in
    let at = c.loop-row-2.row-index in
    let row = c.row-item-in-loop-row-2.result in
    let item : get_or rows at row ≡ row = ap (λ (rs : List TopRow). get_or rs at row) (sym c.deref-row-items-2.ensures.value)
    ∙ sym c.row-item-in-loop-row-2.is in
    let done = take_more rows at row (omega (arith, c.loop-row-2-test.true, c.deref-row-items-2.ensures.len))
    ∙ ap (λ (r : TopRow). take at rows ++ r ∷ []) item in
    let step = c.in_ok-add_new.ensures
    ∙ ap (λ (n : List ℕ). map entry_of c.loop-row-2.rows.items
    ++ new_entry_in c.in_ok-parts_of.field-0.entries c.in_ok-parts_of-2.field-0.entries n)
    c.deref-in-loop-row-2.ensures.value in
    new_more old new c.in_ok-parts_of.field-0.entries c.in_ok-parts_of-2.field-0.entries c.in_ok-parts_of.ensures
    c.in_ok-parts_of-2.ensures (take at rows) row _ _ _ c.loop-row-2.invariant step
    ∙ ap (λ (rs : List TopRow). old_entries old new old.rows.items ++ new_entries old new rs) (sym done)
