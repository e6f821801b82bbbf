-- The lines so far and those of the frames that are left are all lines.
use Rattle.std.proofs.Common.{[], ◌++◌, drop, map}
use Rattle.puffin_look.specs.Forms.{opening, lines_text}
use Rattle.puffin_look.specs.declared.slow_frames.SlowFrame.{SlowFrame}
use Rattle.puffin_look.proofs.Lined.{Lists}
use Rattle.puffin_look.proofs.slow_frames.list_of.Given as goal

abbrev pub invariant-loop-row : goal.invariant-loop-row
invariant-loop-row l =
    Lists l.lines (map (λ (row : SlowFrame). row.text.items) (drop l.row-index l.rows))
    (opening l.form [] ++ lines_text l.form (map (λ (row : SlowFrame). row.text.items) l.rows))
