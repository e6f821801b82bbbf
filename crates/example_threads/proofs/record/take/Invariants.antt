-- The frames so far are those that the share was handed.
use Rattle.example_threads.specs.Recorded.{HasTaken}
use Rattle.example_threads.proofs.record.take.Given as goal

abbrev pub invariant-loop : goal.invariant-loop
invariant-loop g l = HasTaken l.frames.items l.share
