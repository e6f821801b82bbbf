-- What the end of a guard does to the profiler that it borrowed, and to the reporter.
use Rattle.std.specs.Prelude.{ℕ, ◌≡◌, ◌≢◌, ℤ, pos, ◌≤ℤ◌, List, Option, Some, None, Result, Ok, Err, slice_get}
use Rattle.puffin_data.specs.declared.error.Error.{Error}
use Rattle.puffin_data.specs.declared.error.Error.TheVariants.{MismatchedEnd}
use Rattle.puffin_data.specs.Honesty.{StreamFacts}
use Rattle.puffin_threads.specs.declared.thread_profiler.profiler.ThreadProfiler.{ThreadProfiler}
use Rattle.puffin_threads.specs.declared.thread_profiler.reporter.Closed.{Closed}
use Rattle.puffin_threads.specs.Thread.ThreadProfiler.{thread_of, clock_of}
use Rattle.puffin_threads.specs.Thread.Calls.{after_end, offsets_of}
use Rattle.puffin_threads.specs.Thread.Closing.{Closes}
use Rattle.puffin_threads.specs.Thread.ThreadKey.{ThreadKey}
use Rattle.puffin_threads.specs.Details.{Details}

-- the offset of the innermost open scope's size
abbrev pub innermost_of : {Clock : Type 0} → ThreadProfiler Clock → Option ℕ
innermost_of profiler = slice_get (offsets_of (thread_of profiler)) 0

-- no scope was ended, because the one at this offset isn't the innermost
pub record IsMismatched {Clock Reporter : Type 0} (offset : ℕ) (old new : ThreadProfiler Clock)
    (before after : Reporter) (cause : Error) : Type 0 where
  pub mismatched : cause ≡ MismatchedEnd
  pub not_innermost : innermost_of old ≢ Some offset
  pub unchanged : new ≡ old
  pub reporter : after ≡ before

-- `answers` is the clock's contract: its state before a reading, the time, and its state after
module _ {Clock : Type 0} (answers : Clock → ℤ → Clock → Type 0) where
  -- the innermost scope was ended at a time that the clock gave, and stays with the thread
  pub record IsClosed (old new : ThreadProfiler Clock) : Type 0 where
    pub at : ℤ
    pub answered : answers (clock_of old) at (clock_of new)
    pub never_negative : pos 0 ≤ℤ at
    pub ended : thread_of new ≡ after_end (thread_of old) at

  -- the scope at this offset was ended if it was the innermost; else nothing changed
  pub record IsDroppedAt (offset : ℕ) (old new : ThreadProfiler Clock) : Type 0 where
    pub innermost : innermost_of old ≡ Some offset → IsClosed old new
    pub other : innermost_of old ≢ Some offset → new ≡ old

  -- What dropping a guard does, if it has a scope at this offset, or no scope. Nothing is reported.
  abbrev pub IsDropped : (guard_offset : Option ℕ) → (old new : ThreadProfiler Clock) → Type 0
  IsDropped None old new = new ≡ old
  IsDropped (Some offset) old new = IsDroppedAt offset old new

  -- `accepts` and `refuses` are the reporter's contracts: its state before a report, what is reported, and its state after
  module _ {Reporter : Type 0}
      (accepts : Reporter → ThreadKey → List Details → StreamFacts → Reporter → Type 0)
      (refuses : Reporter → ThreadKey → List Details → StreamFacts → Error → Reporter → Type 0) where
    -- The scope at this offset was ended, just as the profiler's own call ends one. The reporter changed from `before` to `after`.
    pub record IsEnded (offset : ℕ) (old new : ThreadProfiler Clock) (before after : Reporter)
        (closed : Closed) : Type 0 where
      pub innermost : innermost_of old ≡ Some offset
      pub at : ℤ
      pub answered : answers (clock_of old) at (clock_of new)
      pub never_negative : pos 0 ≤ℤ at
      pub closes : Closes accepts refuses (thread_of old) (thread_of new) at before after closed

    -- What `end` does and returns, if the guard has a scope at this offset, or no scope.
    abbrev pub Ends : (guard_offset : Option ℕ) → (old new : ThreadProfiler Clock) →
        (before after : Reporter) → Result (Option Closed) Error → Type 0
    Ends None old new before after result = (result ≡ Ok None) × (new ≡ old) × (after ≡ before)
    Ends (Some offset) old new before after (Ok None) = ⊥
    Ends (Some offset) old new before after (Ok (Some closed)) =
        IsEnded offset old new before after closed
    Ends (Some offset) old new before after (Err cause) =
        IsMismatched offset old new before after cause
