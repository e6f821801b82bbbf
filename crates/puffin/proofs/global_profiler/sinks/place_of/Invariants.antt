-- No sink before this one has the number.
use Rattle.std.specs.Prelude.{◌≢◌, take, All}
use Rattle.puffin.proofs.global_profiler.sinks.place_of.Given as goal

abbrev pub invariant-loop-at : goal.invariant-loop-at
invariant-loop-at g l = All (λ e. e.id ≢ l.id) (take l.at l.entries)
