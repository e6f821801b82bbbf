-- The number that is kept is that of the word's open scopes.
use Rattle.std.proofs.Common.{ap, ◌∙◌}
use Rattle.puffin_data.specs.Forest.Words.{open_after}
use Rattle.puffin_threads.specs.Thread.Calls.{Thread}
use Rattle.puffin_threads.proofs.thread_profiler.thread_state.ThreadState.depth.Goals as goal

pub returns : goal.returns
returns c = c.self.invariant.num_open ∙ ap (λ (t : Thread). open_after 0 t.word) c.self.view_is
