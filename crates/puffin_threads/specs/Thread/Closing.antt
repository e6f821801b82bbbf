-- What ending a scope or asking for a report does to a thread and its reporter.
use Rattle.std.specs.Prelude.{◌≡◌, ◌≢◌, ◌<◌, ◌⊎◌, ℕ, ℤ, Bool, true, false, List, [], Some, Result, Ok, Err, OnOk, IfErr, slice_get}
use Rattle.puffin_data.specs.declared.error.Error.{Error}
use Rattle.puffin_data.specs.declared.error.Error.TheVariants.{Memory, MismatchedEnd, ScopesOpen}
use Rattle.puffin_data.specs.Forest.{Forest}
use Rattle.puffin_data.specs.Forest.Tour.{tour}
use Rattle.puffin_data.specs.Honesty.{StreamFacts, AreHonestFacts}
use Rattle.puffin_data.specs.Forest.Words.{open_after}
use Rattle.puffin_threads.specs.declared.thread_profiler.reporter.Closed.{Closed}
use Rattle.puffin_threads.specs.declared.thread_profiler.reporter.Closed.TheVariants.{Inner, Reported, Kept}
use Rattle.puffin_threads.specs.Thread.ThreadKey.{ThreadKey}
use Rattle.puffin_threads.specs.Details.{Details}
use Rattle.puffin_threads.specs.Thread.Calls.{Thread, after_end, after_handing, key_of_thread, offsets_of}

-- an honest record, in the thread's form, of scopes whose events are all that the thread has to report
pub record IsReportOf (thread : Thread) (info : StreamFacts) : Type 0 where
  pub forest : Forest
  pub form : info.form ≡ thread.form
  pub word : thread.word ≡ tour forest
  pub honest : AreHonestFacts info forest

-- Such a record went to the reporter, under the thread's info and with its details. `answered` says how the reporter may answer a
-- report, given its states before and after.
abbrev pub GoesTo : {R : Type 0} → (R → ThreadKey → List Details → StreamFacts → R → Type 0) →
    Thread → R → R → Type 0
GoesTo answered thread before after =
    (info : StreamFacts)
    × IsReportOf thread info
    × answered before (key_of_thread thread) thread.details info after

-- Ends a scope only if this is the offset of the innermost open one; otherwise, and for no other reason, fails with `MismatchedEnd`.
pub record EndsInnermost {X : Type 0} (thread : Thread) (offset : ℕ) (result : Result X Error) : Type 0 where
  pub innermost : OnOk result (slice_get (offsets_of thread) 0 ≡ Some offset)
  pub mismatched : IfErr result (λ cause.
      (cause ≡ MismatchedEnd) × (slice_get (offsets_of thread) 0 ≢ Some offset))

-- Ends the innermost scope at a time. While others are open, the reporter doesn't change. After the last one, all events go to the
-- reporter, and stay with the thread if it refuses them.
--
-- `accepts` and `refuses` say how the reporter may answer. The thread goes from `old` to `new`, and the reporter from `before` to
-- `after`.
abbrev pub Closes : {R : Type 0} → (R → ThreadKey → List Details → StreamFacts → R → Type 0) →
    (R → ThreadKey → List Details → StreamFacts → Error → R → Type 0) → Thread → Thread → ℤ → R → R →
    Closed → Type 0
Closes accepts refuses old new at before after Inner =
    (1 < open_after 0 old.word) × (new ≡ after_end old at) × (after ≡ before)
Closes accepts refuses old new at before after Reported =
    (open_after 0 old.word ≡ 1)
    × (new ≡ after_handing (after_end old at))
    × GoesTo accepts (after_end old at) before after
Closes accepts refuses old new at before after (Kept cause) =
    (open_after 0 old.word ≡ 1)
    × (new ≡ after_end old at)
    × GoesTo (λ earlier thread details info later.
    refuses earlier thread details info cause later) (after_end old at) before after

-- closed scopes are waiting for a report, and no scope is open
pub record Waits (thread : Thread) : Type 0 where
  pub none_open : open_after 0 thread.word ≡ 0
  pub some : thread.word ≢ []

-- Reports the waiting scopes. Fails if a scope is open, the name can't be copied or the reporter refuses; the thread doesn't
-- change then. The arguments are those of `Closes`.
abbrev pub Reports : {R : Type 0} → (R → ThreadKey → List Details → StreamFacts → R → Type 0) →
    (R → ThreadKey → List Details → StreamFacts → Error → R → Type 0) → Thread → Thread → R → R →
    Result Bool Error → Type 0
Reports accepts refuses old new before after (Ok false) =
    (old.word ≡ []) × (new ≡ old) × (after ≡ before)
Reports accepts refuses old new before after (Ok true) =
    Waits old × (new ≡ after_handing old) × GoesTo accepts old before after
Reports accepts refuses old new before after (Err cause) =
    (new ≡ old)
    × (((0 < open_after 0 old.word) × (cause ≡ ScopesOpen) × (after ≡ before))
    ⊎ (Waits old
    × (((cause ≡ Memory) × (after ≡ before))
    ⊎ GoesTo (λ earlier thread details info later.
    refuses earlier thread details info cause later) old before after)))
