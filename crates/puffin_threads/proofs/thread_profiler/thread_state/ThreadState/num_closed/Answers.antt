-- The closed scopes are those that have begun, without the open ones.
use Rattle.std.proofs.Common.{ap, arith}
use Rattle.puffin_threads.specs.Thread.Calls.{Thread, num_ended}
use Rattle.puffin_threads.proofs.ThreadStates.{closed_in}
use Rattle.puffin_threads.proofs.thread_profiler.thread_state.ThreadState.num_closed.Goals as goal

pub overflow_sub-result : goal.overflow_sub-result
overflow_sub-result c = omega (arith, closed_in c.self.inside c.self.invariant)

pub returns : goal.returns
returns c =
    omega (arith, closed_in c.self.inside c.self.invariant, ap (λ (t : Thread). num_ended t.word) c.self.view_is)
