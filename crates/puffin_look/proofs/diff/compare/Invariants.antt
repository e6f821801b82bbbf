-- The rows so far have their entries.
use Rattle.std.proofs.Common.{◌≡◌, ◌++◌, take, map}
use Rattle.puffin_look.specs.Diff.{entry_of, old_entries, new_entries}
use Rattle.puffin_look.proofs.diff.compare.Given as goal

abbrev pub invariant-loop-row : goal.invariant-loop-row
invariant-loop-row l = map entry_of l.rows.items ≡ old_entries l.old l.new (take l.row-index l.old.rows.items)

abbrev pub invariant-loop-row-2 : goal.invariant-loop-row-2
invariant-loop-row-2 l =
    map entry_of l.rows.items ≡ old_entries l.old l.new l.old.rows.items ++ new_entries l.old l.new
    (take l.row-index l.new.rows.items)
