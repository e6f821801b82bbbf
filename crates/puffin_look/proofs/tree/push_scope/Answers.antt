-- The line's parts, one after the other.
--
-- A time that fits `i64` is the one that its 64 bits stand for (`to_z-of_z`).
use Rattle.std.proofs.Common.{List, ◌++◌, ◌-ℤ◌, ap, ◌∙◌, w64, arith}
use Rattle.std.specs.List.{flat_map}
use Rattle.std.specs.Prelude.{unsigned_abs}
use Rattle.std.proofs.lemmas.Int.{ints, to_z-of_z}
use Rattle.std.proofs.lemmas.Result.{on_ok_weaker}
use Rattle.puffin_look.specs.Cells.{Cell, row_cell}
use Rattle.puffin_look.specs.FrameTree.{scope_cells}
use Rattle.puffin_look.proofs.Pushed.{pushed3}
use Rattle.puffin_look.proofs.tree.push_scope.Goals as goal

pub returns-clause-text : goal.returns-clause-text
returns-clause-text c =
    let begin = to_z-of_z w64 c.args.begin c.ranges.begin in
    let start = to_z-of_z w64 c.args.scope.now.start (omega (arith, ints)) in
    let stop = to_z-of_z w64 c.args.scope.now.stop (omega (arith, ints)) in
    let time = c.abs_diff-time.ensures ∙ (λ i. unsigned_abs (stop i -ℤ start i)) in
    let cells = c.in_ok-push_cells.ensures
    ∙ ap (λ (cells : List Cell). c.args.text.now.items ++ flat_map row_cell cells)
    (c.cells_of-cells.ensures ∙ (λ i. scope_cells (begin i) (start i) (time i) c.args.outer.time)) in
    on_ok_weaker c.push_label.result (pushed3 _ _ _ _ _ _ _ cells c.in_ok-extend_from_slice.ensures.items) c.push_label.ensures.text
