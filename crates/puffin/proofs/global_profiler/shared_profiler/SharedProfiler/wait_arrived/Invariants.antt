-- While it waits, the share doesn't change.
use Rattle.std.specs.Prelude.{◌≡◌}
use Rattle.puffin.proofs.global_profiler.shared_profiler.SharedProfiler.wait_arrived.Given as goal

abbrev pub invariant-loop : goal.invariant-loop
invariant-loop g l = l.share ≡ l.fn.share
