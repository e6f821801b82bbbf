-- The lines so far and those of the paths that are left are all lines.
use Rattle.std.proofs.Common.{◌≡◌, ◌++◌}
use Rattle.std.specs.List.{flat_map}
use Rattle.puffin_look.specs.inner.Stacks.{rows_in, row_text}
use Rattle.puffin_look.proofs.folded.lines_of.Given as goal

abbrev pub invariant-rows : goal.invariant-rows
invariant-rows l = l.text.items ++ flat_map row_text (rows_in l.path-iterator) ≡ flat_map row_text (rows_in l.stacks.rows.entries)
