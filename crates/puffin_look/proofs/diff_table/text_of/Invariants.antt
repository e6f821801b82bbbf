-- The lines so far and those of the rows that are left are all lines.
use Rattle.std.proofs.Common.{◌++◌, drop, map}
use Rattle.puffin_look.specs.Forms.{opening, lines_text}
use Rattle.puffin_look.specs.DiffTable.{diff_row, column_names}
use Rattle.puffin_look.proofs.Lined.{Lists}
use Rattle.puffin_look.proofs.diff_table.text_of.Given as goal

abbrev pub invariant-loop-row : goal.invariant-loop-row
invariant-loop-row l =
    Lists l.lines (map (diff_row l.form) (drop l.row-index l.diff.rows.items))
    (opening l.form column_names ++ lines_text l.form (map (diff_row l.form) l.diff.rows.items))
