-- The names so far and those that are left are all names.
use Rattle.std.proofs.Common.{◌≡◌, ◌++◌, drop, map}
use Rattle.puffin_look.specs.Cells.{heading}
use Rattle.puffin_look.specs.inner.Rows.{cell_of}
use Rattle.puffin_look.proofs.rows.push_heading.Given as goal

abbrev pub invariant-loop-cell : goal.invariant-loop-cell
invariant-loop-cell l =
    l.text.items ++ heading (map cell_of (drop l.cell-index l.cells)) ≡ l.initial.text.items ++ heading (map cell_of l.cells)
