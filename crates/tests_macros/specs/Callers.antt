-- What functions with guards of their own leave of a thread.
use Rattle.std.specs.Prelude.{ℕ, ℤ, ◌≡◌, List, []}
use Rattle.puffin_data.specs.declared.error.Error.{Error}
use Rattle.puffin_data.specs.Honesty.{StreamFacts}
use Rattle.puffin_threads.specs.declared.thread_profiler.reporter.Closed.{Closed}
use Rattle.puffin_threads.specs.Thread.Calls.{Thread, after_begin, after_end}
use Rattle.puffin_threads.specs.Thread.Closing.{Closes}
use Rattle.puffin_threads.specs.Thread.ThreadKey.{ThreadKey}
use Rattle.puffin_threads.specs.Details.{Details}

-- a scope without a text was begun and ended
pub record IsOneScope (id : ℕ) (old new : Thread) : Type 0 where
  pub start : ℤ
  pub stop : ℤ
  pub is : new ≡ after_end (after_begin old id [] start) stop

-- such a scope was begun and ended, as the profiler's own calls do
pub record IsEndedScope {R : Type 0} (accepts : R → ThreadKey → List Details → StreamFacts → R → Type 0)
    (refuses : R → ThreadKey → List Details → StreamFacts → Error → R → Type 0)
    (id : ℕ) (old new : Thread) (before after : R) (closed : Closed) : Type 0 where
  pub start : ℤ
  pub stop : ℤ
  pub closes : Closes accepts refuses (after_begin old id [] start) new stop before after closed
