-- A stream has bytes exactly if its word has events.
use Rattle.std.proofs.Common.{◌==◌, length, ap, ◌∙◌}
use Rattle.puffin_threads.specs.Thread.Calls.{Thread}
use Rattle.puffin_threads.proofs.ThreadStates.{empty_in}
use Rattle.puffin_threads.proofs.thread_profiler.thread_state.ThreadState.is_empty.Goals as goal

pub returns : goal.returns
returns c =
    c.is_empty.ensures
    ∙ empty_in c.self.inside c.self.invariant
    ∙ ap (λ (t : Thread). length t.word == 0) c.self.view_is
