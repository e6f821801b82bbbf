-- Each scope that ends is counted: as reported, or as waiting for a report.
use Rattle.std.specs.Prelude.{◌≡◌, ◌≢◌, ℕ, ◌+◌, ℤ, List, Some, Result, Bool}
use Rattle.puffin_data.specs.declared.error.Error.{Error}
use Rattle.puffin_data.specs.Honesty.{StreamFacts}
use Rattle.puffin_threads.specs.Thread.ThreadProfiler.{thread_of}
use Rattle.puffin_threads.specs.Thread.ThreadKey.{ThreadKey}
use Rattle.puffin_threads.specs.Thread.Calls.{num_ended}
use Rattle.puffin_threads.specs.Thread.Closing.{Reports}
use Rattle.puffin_threads.specs.Details.{Details}
use Rattle.puffin_scopes.specs.declared.guard_state.GuardState.{GuardState}
use Rattle.puffin_scopes.specs.Guards.Ending.{innermost_of}
use Rattle.puffin.specs.declared.light.scopes.Place.{Place}
use Rattle.puffin.specs.declared.light.thread.Thread.{Thread}
use Rattle.puffin.specs.LightThread.{profiler_of, reporter_of}
use Rattle.puffin.specs.Guards.{BeginsAt, EndsIn}

-- `reported` is a number of a reporter that an accepted report raises by the number of its scopes, and that a refused one leaves as
-- it is.
pub record CountsReports {R : Type 0}
    (accepts : R → ThreadKey → List Details → StreamFacts → R → Type 0)
    (refuses : R → ThreadKey → List Details → StreamFacts → Error → R → Type 0)
    (reported : R → ℕ) : Type 0 where
  pub accepted : (old : R) (key : ThreadKey) (details : List Details) (report : StreamFacts) (new : R) →
      accepts old key details report new → reported new ≡ reported old + report.num_scopes
  pub refused : (old : R) (key : ThreadKey) (details : List Details) (report : StreamFacts) (error : Error)
      (new : R) →
      refuses old key details report error new → reported new ≡ reported old

-- the scopes of a thread that were reported, and those that ended and wait
abbrev pub counted_by : {C R : Type 0} → (R → ℕ) → Thread C R → ℕ
counted_by reported thread =
    reported (reporter_of thread) + num_ended (thread_of (profiler_of thread)).word

-- For any such number: the end of a scope raises what is counted by one, and no other call changes it.
pub record CountsEnds {C R : Type 0} (answers : C → ℤ → C → Type 0)
    (accepts : R → ThreadKey → List Details → StreamFacts → R → Type 0)
    (refuses : R → ThreadKey → List Details → StreamFacts → Error → R → Type 0) : Type 0 where
  pub ends : (reported : R → ℕ) → CountsReports accepts refuses reported →
      (old : Thread C R) (offset : ℕ) (new : Thread C R) →
      EndsIn answers accepts refuses old offset new →
      innermost_of (profiler_of old) ≡ Some offset →
      counted_by reported new ≡ counted_by reported old + 1
  pub leaves : (reported : R → ℕ) → (old : Thread C R) (offset : ℕ) (new : Thread C R) →
      EndsIn answers accepts refuses old offset new →
      innermost_of (profiler_of old) ≢ Some offset →
      counted_by reported new ≡ counted_by reported old
  pub begins : (reported : R → ℕ) → CountsReports accepts refuses reported →
      (old : Thread C R) (place : Place) (text : List ℕ) (state : GuardState)
      (new : Thread C R) → BeginsAt answers accepts refuses old place text state new →
      counted_by reported new ≡ counted_by reported old
  pub reports : (reported : R → ℕ) → CountsReports accepts refuses reported →
      (old new : Thread C R) (result : Result Bool Error) →
      Reports accepts refuses (thread_of (profiler_of old)) (thread_of (profiler_of new))
      (reporter_of old) (reporter_of new) result →
      counted_by reported new ≡ counted_by reported old
