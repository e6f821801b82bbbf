-- A thread at one time, and reporters that collect as a profiler does.
use Rattle.std.specs.Prelude.{◌≡◌, ℕ, List}
use Rattle.puffin_data.specs.declared.error.Error.{Error}
use Rattle.puffin_data.specs.Forest.Words.{open_after}
use Rattle.puffin_data.specs.Honesty.{StreamFacts}
use Rattle.puffin_threads.specs.Thread.ThreadProfiler.{thread_of, clock_of}
use Rattle.puffin_threads.specs.Thread.ThreadKey.{ThreadKey}
use Rattle.puffin_threads.specs.Thread.Calls as calls
use Rattle.puffin_threads.specs.Thread.Calls.{key_of_thread}
use Rattle.puffin_threads.specs.Details.{Details}
use Rattle.puffin_collector.specs.Collector.State.{Collected, AcceptsReport, RefusesReport}
use Rattle.puffin.specs.declared.global_profiler.profiler.GlobalProfiler.{GlobalProfiler}
use Rattle.puffin.specs.declared.light.thread.Thread.{Thread}
use Rattle.puffin.specs.LightThread.{profiler_of, reporter_of, scopes_of}
use Rattle.puffin.specs.Places.{num_known}
use Rattle.puffin.specs.Profiler.{collected_of, sinks_of}

-- a thread at one time: its clock, the number of places that it knows, what it has recorded, and what its profiler has collected
pub record Moment (C : Type 0) : Type 0 where
  pub clock : C
  pub known : ℕ
  pub thread : calls.Thread
  pub collected : Collected

-- the thread as it is now, where `seen` is what its reporter has collected
abbrev pub moment_by : {C R : Type 0} → (R → Collected) → Thread C R → Moment C
moment_by seen thread = record {
  clock = clock_of (profiler_of thread);
  known = num_known (scopes_of thread);
  thread = thread_of (profiler_of thread);
  collected = seen (reporter_of thread);
}

-- the thread as it is now, where its reporter is a profiler
abbrev pub moment_of : {C I : Type 0} {F : I → Type 0} → Thread C (GlobalProfiler I F) → Moment C
moment_of thread = moment_by collected_of thread

-- the number of open scopes
abbrev pub num_open : {C : Type 0} → Moment C → ℕ
num_open moment = open_after 0 moment.thread.word

-- the info under which the thread reports
abbrev pub key_at : {C : Type 0} → Moment C → ThreadKey
key_at moment = key_of_thread moment.thread

-- a reporter accepts and refuses as a collector does, where `seen` is what it has collected
pub record Sees {R : Type 0} (seen : R → Collected)
    (accepts : R → ThreadKey → List Details → StreamFacts → R → Type 0)
    (refuses : R → ThreadKey → List Details → StreamFacts → Error → R → Type 0) : Type 0 where
  pub accepted : (old : R) (key : ThreadKey) (details : List Details) (report : StreamFacts) (new : R) →
      accepts old key details report new → AcceptsReport (seen old) key details report (seen new)
  pub refused : (old : R) (key : ThreadKey) (details : List Details) (report : StreamFacts) (error : Error)
      (new : R) →
      refuses old key details report error new → RefusesReport (seen old) key details report error (seen new)

module _ {I : Type 0} {F : I → Type 0} where
  -- what a profiler that is a thread's reporter does when it accepts a report
  abbrev pub AcceptsThere : GlobalProfiler I F → ThreadKey → List Details → StreamFacts →
      GlobalProfiler I F → Type 0
  AcceptsThere old key details report new =
      AcceptsReport (collected_of old) key details report (collected_of new) × (sinks_of new ≡ sinks_of old)

  -- and when it refuses one
  abbrev pub RefusesThere : GlobalProfiler I F → ThreadKey → List Details → StreamFacts → Error →
      GlobalProfiler I F → Type 0
  RefusesThere old key details report error new =
      RefusesReport (collected_of old) key details report error (collected_of new) × (sinks_of new ≡ sinks_of old)
