-- What the rows so far have is under their names.
use Rattle.std.proofs.Common.{take}
use Rattle.puffin_look.specs.inner.Diffs.{HasParts}
use Rattle.puffin_look.proofs.diff.parts_of.Given as goal

abbrev pub invariant-loop-row : goal.invariant-loop-row
invariant-loop-row l = HasParts l.top.frames (take l.row-index l.top.rows.items) l.parts.entries
