-- The cells so far and those that are left are all cells.
use Rattle.std.proofs.Common.{◌≡◌, ◌++◌, drop, map}
use Rattle.std.specs.List.{flat_map}
use Rattle.puffin_look.specs.Cells.{row_cell}
use Rattle.puffin_look.specs.inner.Rows.{cell_of}
use Rattle.puffin_look.proofs.rows.push_cells.Given as goal

abbrev pub invariant-loop-cell : goal.invariant-loop-cell
invariant-loop-cell l =
    l.text.items ++ flat_map row_cell (map cell_of (drop l.cell-index l.cells)) ≡ l.initial.text.items ++ flat_map row_cell
    (map cell_of l.cells)
