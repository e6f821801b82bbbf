-- Each scope that ends is counted once.
use Rattle.std.proofs.Common.{◌≡◌, ◌≢◌, ℕ, ◌+◌, ℤ, List, [], ◌∷◌, Some, Result, Ok, Err, Bool, true, false, sym}
use Rattle.std.proofs.Common.{ap, ◌∙◌, arith, inl, inr}
use Rattle.puffin_data.specs.declared.error.Error.{Error}
use Rattle.puffin_data.specs.Forest.Tour.{Open, Close}
use Rattle.puffin_data.specs.Honesty.{StreamFacts}
use Rattle.puffin_data.specs.Text.{cut_text}
use Rattle.puffin_threads.specs.declared.thread_profiler.reporter.Closed.{Closed}
use Rattle.puffin_threads.specs.declared.thread_profiler.reporter.Closed.TheVariants.{Inner, Reported, Kept}
use Rattle.puffin_threads.specs.Thread.ThreadProfiler.{thread_of}
use Rattle.puffin_threads.specs.Thread.ThreadKey.{ThreadKey}
use Rattle.puffin_threads.specs.Thread.Calls as calls
use Rattle.puffin_threads.specs.Thread.Calls.{num_ended, after_begin, after_end}
use Rattle.puffin_threads.specs.Thread.Closing.{IsReportOf, GoesTo, Closes, Reports}
use Rattle.puffin_threads.specs.Details.{Details}
use Rattle.puffin_scopes.specs.declared.guard_state.GuardState.{GuardState}
use Rattle.puffin_scopes.specs.declared.guard_state.GuardState.TheVariants.{On, Off, Refused}
use Rattle.puffin_scopes.specs.Guards.Ending.{innermost_of}
use Rattle.puffin.specs.declared.light.scopes.Place.{Place}
use Rattle.puffin.specs.declared.light.thread.Thread.{Thread}
use Rattle.puffin.specs.LightThread.{profiler_of, reporter_of}
use Rattle.puffin.specs.Guards.{BeginsThere, BeginsAt, EndsIn}
use Rattle.puffin.specs.Ended.{CountsReports, counted_by}
use Rattle.puffin.proofs.lemmas.Waiting.{num_ended-append, num_ended-tour}

-- a report has as many scopes as have ended
reported_ended : (thread : calls.Thread) (report : StreamFacts) → IsReportOf thread report
    → report.num_scopes ≡ num_ended thread.word
reported_ended thread report is = is.honest.counts.num_scopes ∙ sym (num_ended-tour is.forest) ∙ ap num_ended (sym is.word)

module _ {R : Type 0} (accepts : R → ThreadKey → List Details → StreamFacts → R → Type 0)
    (refuses : R → ThreadKey → List Details → StreamFacts → Error → R → Type 0)
    (reported : R → ℕ) (counts : CountsReports accepts refuses reported) where
  -- an accepted report, and a refused one
  goes : (thread : calls.Thread) (before after : R) → GoesTo accepts thread before after
      → reported after ≡ reported before + num_ended thread.word
  goes thread before after (report, is, accepted) =
      counts.accepted before (calls.key_of_thread thread) thread.details report after accepted
      ∙ ap (λ (n : ℕ). reported before + n) (reported_ended thread report is)

  stays : (thread : calls.Thread) (e : Error) (before after : R)
      → GoesTo (λ b i d report a. refuses b i d report e a) thread before after
      → reported after ≡ reported before
  stays thread e before after (report, is, refused) =
      counts.refused before (calls.key_of_thread thread) thread.details report e after refused

  words : {a b : calls.Thread} → a ≡ b → num_ended a.word ≡ num_ended b.word
  words same = ap (λ (thread : calls.Thread). num_ended thread.word) same

  one_more : (old : calls.Thread) (at : ℤ) → num_ended (after_end old at).word ≡ num_ended old.word + 1
  one_more old at = omega (arith, num_ended-append old.word (Close (calls.time_of old at) ∷ []))

  -- the end of a scope raises the sum by one, and a report leaves it
  closes : (old new : calls.Thread) (at : ℤ) (before after : R) (closed : Closed)
      → Closes accepts refuses old new at before after closed
      → reported after + num_ended new.word ≡ (reported before + num_ended old.word) + 1
  closes old new at before after Inner (inner, ended, same) =
      omega (arith, ap reported same, words ended, one_more old at)
  closes old new at before after Reported (outer, handed, goes_on) =
      omega (arith, goes (after_end old at) before after goes_on, words handed, one_more old at)
  closes old new at before after (Kept error) (outer, ended, refused) =
      omega (arith, stays (after_end old at) error before after refused, words ended, one_more old at)

  reports : (old new : calls.Thread) (before after : R) (result : Result Bool Error)
      → Reports accepts refuses old new before after result
      → reported after + num_ended new.word ≡ reported before + num_ended old.word
  reports old new before after (Ok false) (nothing_waits, kept, same) = omega (arith, ap reported same, words kept)
  reports old new before after (Ok true) (waits, handed, goes_on) = omega (arith, goes old before after goes_on, words handed)
  reports old new before after (Err error) (kept, inl (opened, cause, same)) = omega (arith, ap reported same, words kept)
  reports old new before after (Err error) (kept, inr (waits, inl (memory, same))) = omega (arith, ap reported same, words kept)
  reports old new before after (Err error) (kept, inr (waits, inr refused)) =
      omega (arith, stays old error before after refused, words kept)

  pub ends : {C : Type 0} (answers : C → ℤ → C → Type 0) (old : Thread C R) (offset : ℕ) (new : Thread C R)
      → EndsIn answers accepts refuses old offset new → innermost_of (profiler_of old) ≡ Some offset
      → counted_by reported new ≡ counted_by reported old + 1
  ends answers old offset new end is =
      let ended = end.ends.innermost is in
      closes (thread_of (profiler_of old)) (thread_of (profiler_of new)) ended.at (reporter_of old)
      (reporter_of new) ended.closed ended.closes

  pub reports_by : {C : Type 0} (old new : Thread C R) (result : Result Bool Error)
      → Reports accepts refuses (thread_of (profiler_of old)) (thread_of (profiler_of new)) (reporter_of old)
      (reporter_of new) result → counted_by reported new ≡ counted_by reported old
  reports_by old new result its = reports (thread_of (profiler_of old)) (thread_of (profiler_of new)) (reporter_of old)
      (reporter_of new) result its

-- an end at another offset than the innermost scope's changes nothing
pub leaves : {C R : Type 0} (answers : C → ℤ → C → Type 0)
    (accepts : R → ThreadKey → List Details → StreamFacts → R → Type 0)
    (refuses : R → ThreadKey → List Details → StreamFacts → Error → R → Type 0) (reported : R → ℕ) (old : Thread C R)
    (offset : ℕ) (new : Thread C R) → EndsIn answers accepts refuses old offset new
    → innermost_of (profiler_of old) ≢ Some offset → counted_by reported new ≡ counted_by reported old
leaves answers accepts refuses reported old offset new end other =
    let same = end.ends.other other in
    omega (arith, ap reported same.1, ap (λ p. num_ended (thread_of p).word) same.0)

-- a scope that begins is none that has ended
begun_ended : (thread : calls.Thread) (id : ℕ) (text : List ℕ) (at : ℤ)
    → num_ended (after_begin thread id text at).word ≡ num_ended thread.word
begun_ended thread id text at = omega (arith, num_ended-append thread.word (Open id text (calls.time_of thread at) ∷ []))

begins_there : {C R : Type 0} (answers : C → ℤ → C → Type 0) (reported : R → ℕ) (old : Thread C R)
    (place : Place) (text : List ℕ) (state : GuardState) (new : Thread C R) → BeginsThere answers old place text state new
    → counted_by reported new ≡ counted_by reported old
begins_there answers reported old place text (On offset) new begin =
    let began = begin.begins.1 in
    omega (
      arith,
      ap reported begin.reporter,
      ap (λ (thread : calls.Thread). num_ended thread.word) began.begun,
      begun_ended (thread_of (profiler_of old)) place.id (cut_text (thread_of (profiler_of old)).form text) began.at,
    )
begins_there answers reported old place text Off new begin =
    omega (arith, ap reported begin.reporter, ap (λ p. num_ended (thread_of p).word) begin.begins)
begins_there answers reported old place text (Refused error) new begin =
    omega (arith, ap reported begin.reporter, ap (λ p. num_ended (thread_of p).word) begin.begins.0)

pub begins : {C R : Type 0} (answers : C → ℤ → C → Type 0)
    (accepts : R → ThreadKey → List Details → StreamFacts → R → Type 0)
    (refuses : R → ThreadKey → List Details → StreamFacts → Error → R → Type 0) (reported : R → ℕ)
    → CountsReports accepts refuses reported
    → (old : Thread C R) (place : Place) (text : List ℕ) (state : GuardState) (new : Thread C R)
    → BeginsAt answers accepts refuses old place text state new → counted_by reported new ≡ counted_by reported old
begins answers accepts refuses reported counts old place text state new (ready, inl same, there) =
    begins_there answers reported ready place text state new there ∙ ap (counted_by reported) same
begins answers accepts refuses reported counts old place text state new (ready, inr room, there) =
    begins_there answers reported ready place text state new there
    ∙ reports_by accepts refuses reported counts old ready room.answer room.reports
