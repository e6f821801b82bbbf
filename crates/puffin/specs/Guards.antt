-- What beginning and ending a scope at a `Place` does to a thread.
use Rattle.std.specs.Prelude.{ℕ, ◌+◌, ◌<◌, ◌≤◌, ◌≡◌, ◌≢◌, ◌⊎◌, ℤ, pos, ◌≤ℤ◌, Bool, List, Option, Some, None, Result}
use Rattle.puffin_data.specs.declared.error.Error.{Error}
use Rattle.puffin_data.specs.declared.error.Error.TheVariants.{Memory, MissingId}
use Rattle.puffin_data.specs.Honesty.{StreamFacts}
use Rattle.puffin_data.specs.Text.{cut_text}
use Rattle.puffin_data.specs.Forest.Spelling.{size_offset}
use Rattle.puffin_data.specs.Forest.Words.{word_size}
use Rattle.puffin_threads.specs.declared.thread_profiler.profiler.ThreadProfiler.{ThreadProfiler}
use Rattle.puffin_threads.specs.declared.thread_profiler.reporter.Closed.{Closed}
use Rattle.puffin_threads.specs.Thread.ThreadProfiler.{thread_of, clock_of}
use Rattle.puffin_threads.specs.Thread.Calls.{after_begin}
use Rattle.puffin_threads.specs.Thread.Closing.{Closes, Reports}
use Rattle.puffin_threads.specs.Thread.ThreadKey.{ThreadKey}
use Rattle.puffin_threads.specs.Details.{Details}
use Rattle.puffin_scopes.specs.Guards.Ending.{innermost_of}
use Rattle.puffin_scopes.specs.declared.guard_state.GuardState.{GuardState}
use Rattle.puffin_scopes.specs.declared.guard_state.GuardState.TheVariants.{On, Off, Refused}
use Rattle.puffin.specs.declared.light.scopes.Place.{Place}
use Rattle.puffin.specs.declared.light.thread.Thread.{Thread}
use Rattle.puffin.specs.LightThread.{profiler_of, reporter_of, scopes_of, refused_of}
use Rattle.puffin.specs.Places.{num_known}
use Rattle.puffin.specs.Taking.{one_more}

-- A scope with this id began at the clock's time, and is now the innermost.
pub record Began {C : Type 0} (answers : C → ℤ → C → Type 0) (id : ℕ)
    (old : ThreadProfiler C) (text : List ℕ) (offset : ℕ) (new : ThreadProfiler C) : Type 0 where
  pub at : ℤ
  pub answered : answers (clock_of old) at (clock_of new)
  pub never_negative : pos 0 ≤ℤ at
  pub begun : thread_of new
      ≡ after_begin (thread_of old) id (cut_text (thread_of old).form text) at
  pub offset_is : offset
      ≡ word_size (thread_of old).form (thread_of old).word
      + size_offset (thread_of old).form (cut_text (thread_of old).form text)

-- A thread's profiler after a `begin` with this outcome, where the thread knows the places up to this number. A place beyond
-- them is refused, and only such a place is refused with `MissingId`.
abbrev pub Begins : {C : Type 0} → (C → ℤ → C → Type 0) → (known : ℕ) → (id : ℕ) →
    ThreadProfiler C → List ℕ → GuardState → ThreadProfiler C → Type 0
Begins answers known id old text (On offset) new =
    (id ≤ known) × Began answers id old text offset new
Begins answers known id old text Off new = new ≡ old
Begins answers known id old text (Refused error) new =
    (new ≡ old) × (((error ≡ MissingId) × (known < id)) ⊎ ((error ≡ Memory) × (id ≤ known)))

-- the number of refused scopes after a `begin` with this outcome
abbrev pub refused_after : ℕ → GuardState → ℕ
refused_after refused (On offset) = refused
refused_after refused Off = refused
refused_after refused (Refused error) = one_more refused

-- The innermost scope was ended at the clock's time. If no other scope was open, all closed scopes were reported.
pub record Ended {C R : Type 0} (answers : C → ℤ → C → Type 0)
    (accepts : R → ThreadKey → List Details → StreamFacts → R → Type 0)
    (refuses : R → ThreadKey → List Details → StreamFacts → Error → R → Type 0)
    (old new : ThreadProfiler C) (before after : R) : Type 0 where
  pub closed : Closed
  pub at : ℤ
  pub answered : answers (clock_of old) at (clock_of new)
  pub never_negative : pos 0 ≤ℤ at
  pub closes : Closes accepts refuses (thread_of old) (thread_of new) at before after closed

-- the scope at this offset was ended if it was the innermost; otherwise nothing changed
pub record EndsAt {C R : Type 0} (answers : C → ℤ → C → Type 0)
    (accepts : R → ThreadKey → List Details → StreamFacts → R → Type 0)
    (refuses : R → ThreadKey → List Details → StreamFacts → Error → R → Type 0) (offset : ℕ)
    (old new : ThreadProfiler C) (before after : R) : Type 0 where
  pub innermost : innermost_of old ≡ Some offset →
      Ended answers accepts refuses old new before after
  pub other : innermost_of old ≢ Some offset → (new ≡ old) × (after ≡ before)

-- the thread after the drop of a guard that has a scope at this offset, or no scope
abbrev pub Leaves : {T : Type 0} → (T → ℕ → T → Type 0) → Option ℕ → T → T → Type 0
Leaves ends None old new = new ≡ old
Leaves ends (Some offset) old new = ends old offset new

-- What `begin` does to a light thread that has room, or none: nothing is reported, the scopes that it knows stay, and a refused
-- scope is counted.
pub record BeginsThere {C R : Type 0} (answers : C → ℤ → C → Type 0) (old : Thread C R)
    (place : Place) (text : List ℕ) (state : GuardState) (new : Thread C R) : Type 0 where
  pub begins : Begins answers (num_known (scopes_of old)) place.id (profiler_of old) text state
      (profiler_of new)
  pub reporter : reporter_of new ≡ reporter_of old
  pub scopes : scopes_of new ≡ scopes_of old
  pub refused : refused_of new ≡ refused_after (refused_of old) state

-- The thread tried to report what waits, so that there may be room: that was accepted, or it still waits.
pub record MakesRoom {C R : Type 0}
    (accepts : R → ThreadKey → List Details → StreamFacts → R → Type 0)
    (refuses : R → ThreadKey → List Details → StreamFacts → Error → R → Type 0)
    (old new : Thread C R) : Type 0 where
  pub answer : Result Bool Error
  pub reports : Reports accepts refuses (thread_of (profiler_of old)) (thread_of (profiler_of new))
      (reporter_of old) (reporter_of new) answer
  pub clock : clock_of (profiler_of new) ≡ clock_of (profiler_of old)
  pub scopes : scopes_of new ≡ scopes_of old
  pub refused : refused_of new ≡ refused_of old

-- What `begin` does to a light thread: where there is no room, and no scope is open, what waits is reported, and the scope is
-- tried once more.
abbrev pub BeginsAt : {C R : Type 0} → (C → ℤ → C → Type 0) →
    (R → ThreadKey → List Details → StreamFacts → R → Type 0) →
    (R → ThreadKey → List Details → StreamFacts → Error → R → Type 0) →
    Thread C R → Place → List ℕ → GuardState → Thread C R → Type 0
BeginsAt {C} {R} answers accepts refuses old place text state new =
    (ready : Thread C R)
    × ((ready ≡ old) ⊎ MakesRoom accepts refuses old ready)
    × BeginsThere answers ready place text state new

-- what `end` does to a light thread: the scopes that it knows, and the number of refused ones, stay
pub record EndsIn {C R : Type 0} (answers : C → ℤ → C → Type 0)
    (accepts : R → ThreadKey → List Details → StreamFacts → R → Type 0)
    (refuses : R → ThreadKey → List Details → StreamFacts → Error → R → Type 0)
    (old : Thread C R) (offset : ℕ) (new : Thread C R) : Type 0 where
  pub ends : EndsAt answers accepts refuses offset (profiler_of old) (profiler_of new)
      (reporter_of old) (reporter_of new)
  pub scopes : scopes_of new ≡ scopes_of old
  pub refused : refused_of new ≡ refused_of old
