-- What was read so far comes before what the lines say that are left.
use Rattle.std.proofs.Common.{◌≡◌, ℕ, ◌+◌, List, [], length}
use Rattle.puffin_replay.specs.Script.Statements.{Meaning}
use Rattle.puffin_replay.specs.Script.{lines_in, threads_after, statements_from}
use Rattle.puffin_replay.specs.inner.ScriptReading.{lines_left, IsReading}
use Rattle.puffin_replay.proofs.Scripts.{after}
use Rattle.puffin_replay.proofs.replay.script.script_of.Given as goal

abbrev pub invariant-lines : goal.invariant-lines
invariant-lines l = record {
  so_far : (before : List (ℕ × Meaning)) × IsReading l.reading before
      × (statements_from 1 [] (lines_in l.bytes)
      ≡ after before (statements_from (l.number + 1) (threads_after [] before) (lines_left l.lines)));
  counted : l.number + length (lines_left l.lines) ≡ length (lines_in l.bytes);
}

abbrev pub decreases-lines : goal.decreases-lines
decreases-lines l = length (lines_left l.lines)
