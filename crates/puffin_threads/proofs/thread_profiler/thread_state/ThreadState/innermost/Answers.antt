-- The offset that is kept is the first of the open scopes' offsets.
use Rattle.std.proofs.Common.{ap, ◌∙◌, arith, slice_get}
use Rattle.std.proofs.lemmas.Bool.Decides.{nat_tests}
use Rattle.puffin_threads.specs.Thread.Calls.{Thread, offsets_of}
use Rattle.puffin_threads.proofs.ThreadStates.{innermost_none, innermost_some}
use Rattle.puffin_threads.proofs.thread_profiler.thread_state.ThreadState.innermost.Goals as goal

pub returns-then-self-eq0 : goal.returns-then-self-eq0
returns-then-self-eq0 c =
    innermost_none c.self.inside c.self.invariant (grind (arith, nat_tests))
    ∙ ap (λ (t : Thread). slice_get (offsets_of t) 0) c.self.view_is

pub returns : goal.returns
returns c =
    innermost_some c.self.inside c.self.invariant (grind (arith, nat_tests))
    ∙ ap (λ (t : Thread). slice_get (offsets_of t) 0) c.self.view_is
