-- Each call accounts for its events, and so does any list of calls.
use Rattle.std.proofs.Common.{◌≡◌, ℕ, ◌<◌, ℤ, pos, ◌≤ℤ◌, Bool, true, false, List, [], ◌∷◌, ◌++◌}
use Rattle.std.proofs.Common.{Option, Some, None, Result, Ok, Err, Global, ◌⊎◌, inl, inr, refl, sym, ap, ◌∙◌}
use Rattle.std.proofs.Common.{subst, append_assoc, arith}
use Rattle.std.specs.Prelude.{slice_get}
use Rattle.std.specs.List.{AllZip}
use Rattle.std.specs.FinMap.{get, empty, values, get-empty}
use Rattle.std.specs.declared.sync.Arc.{Arc}
use Rattle.std.proofs.lemmas.Bool.{cases_eq}
use Rattle.std.proofs.lemmas.List.{append-nil}
use Rattle.puffin_data.specs.declared.error.Error.{Error}
use Rattle.puffin_data.specs.declared.error.Error.TheVariants.{ScopesOpen, Memory}
use Rattle.puffin_data.specs.declared.data.form.Form.{Form}
use Rattle.puffin_data.specs.Forest.Tour.{Event, Open, Close, tour}
use Rattle.puffin_data.specs.Forest.Words.{open_after}
use Rattle.puffin_data.specs.Honesty.{StreamFacts}
use Rattle.puffin_data.specs.Text.{cut_text}
use Rattle.puffin_threads.specs.declared.thread_profiler.reporter.Closed.{Closed}
use Rattle.puffin_threads.specs.declared.thread_profiler.reporter.Closed.TheVariants.{Inner, Reported, Kept}
use Rattle.puffin_threads.specs.Thread.ThreadProfiler.{thread_of, clock_of}
use Rattle.puffin_threads.specs.Thread.ThreadKey.{ThreadKey, key_cmp}
use Rattle.puffin_threads.specs.Thread.Calls as calls
use Rattle.puffin_threads.specs.Thread.Calls.{time_of, after_end, after_handing, key_of_thread, offsets_of}
use Rattle.puffin_threads.specs.Thread.Closing.{Closes, Waits, GoesTo}
use Rattle.puffin_threads.specs.Details.{Details}
use Rattle.puffin_frames.specs.declared.frame_data.frame.FrameData.{FrameData}
use Rattle.puffin_frames.specs.Frame.Contents.{Streams}
use Rattle.puffin_frames.specs.Frame.Sums.{total_scopes}
use Rattle.puffin_collector.specs.Collector.State.{Collected, AcceptsReport, RefusesReport}
use Rattle.puffin_collector.specs.Collector.Collecting.{KeepsPending}
use Rattle.puffin_scopes.specs.declared.guard_state.GuardState.{GuardState}
use Rattle.puffin_scopes.specs.declared.guard_state.GuardState.TheVariants.{On, Off, Refused}
use Rattle.puffin.specs.declared.light.thread.Thread.{Thread}
use Rattle.puffin.specs.declared.light.scopes.Place.{Place}
use Rattle.puffin.specs.LightThread.{profiler_of, reporter_of, scopes_of}
use Rattle.puffin.specs.Places.{num_known}
use Rattle.puffin.specs.Guards.{BeginsThere}
use Rattle.puffin_accounts.specs.Moments.{Moment, moment_by, Sees, key_at}
use Rattle.puffin_accounts.specs.Times.{Timed}
use Rattle.puffin_accounts.specs.Steps.{Call, begins, ends, reports, frame, CallsAccount, NoneDueAtFirst, NoFrameNothingDue, Does, Run}
use Rattle.puffin_accounts.specs.Steps.{Marks, frames_in, tours, ShowsOf, IsDue, Accounts}
use Rattle.puffin_accounts.proofs.lemmas.Times.{has_start, timed_still, timed_open, timed_close, timed_both}
use Rattle.puffin_accounts.proofs.lemmas.Opened.{closes_by}
use Rattle.puffin_accounts.proofs.lemmas.Showing.{none_spelled, one_entry, no_entry, none_in_empty, shows_spelled}
use Rattle.puffin_accounts.proofs.lemmas.Accounting.{Stepped, SpellsDue, zip_both, tours_both, all_kept, accounts_more, accounts_none, quiet_step, still_step, reported_due}

-- ---- the calls

module _ {C R : Type 0} (answers : C → ℤ → C → Type 0)
    (seen : R → Collected) (accepts : R → ThreadKey → List Details → StreamFacts → R → Type 0)
    (refuses : R → ThreadKey → List Details → StreamFacts → Error → R → Type 0) (sees : Sees seen accepts refuses)
    (old new : Thread C R) (due : List Event) (was_due : IsDue (moment_by seen old) due) where
  abbrev was : Moment C
  was = moment_by seen old

  abbrev now : Moment C
  now = moment_by seen new

  -- neither the profiler nor what was collected changed
  unchanged : (call : Call) → profiler_of new ≡ profiler_of old → reporter_of new ≡ reporter_of old → scopes_of new ≡ scopes_of old
      → Marks was.known was.thread.form call [] → AllZip (ShowsOf was.thread.name) (frames_in (call ∷ [])) []
      → Stepped answers was due call now
  unchanged call profiler reporter scopes =
      still_step answers was now due call (ap clock_of profiler) (ap thread_of profiler) (ap num_known scopes)
      (ap (λ r. (seen r).streams) reporter) was_due

  -- a begin, refused or not, and with no report before it
  begin_there : (place : Place) (text : List ℕ) (state : GuardState) → BeginsThere answers old place text state new
      → Stepped answers was due (begins place text state) now
  begin_there place text Off did = unchanged (begins place text Off) did.begins did.reporter did.scopes refl tt
  begin_there place text (Refused error) did =
      let (same, may_be) = did.begins in
      unchanged (begins place text (Refused error)) same did.reporter did.scopes (may_be, refl) tt
  begin_there place text (On offset) did =
      let (may_be, guard) = did.begins in
      quiet_step answers was now due (Open place.id (cut_text was.thread.form text) (time_of was.thread guard.at) ∷ [])
      (timed_open answers was now place.id (cut_text was.thread.form text) guard.at guard.answered guard.never_negative guard.begun
      (ap num_known did.scopes))
      (ap (λ r. (seen r).streams) did.reporter)
      (λ none word. absurd (has_start was.thread.first_start (time_of was.thread guard.at) [] now.thread.first_start
      (ap (λ (thread : calls.Thread). thread.first_start) guard.begun) none))
      was_due (begins place text (On offset)) (ap (λ (thread : calls.Thread). thread.word) guard.begun)
      (may_be, time_of was.thread guard.at, refl) tt

  -- a thread with an open scope has started
  none_before : now.thread.first_start ≡ was.thread.first_start → 0 < open_after 0 was.thread.word → now.thread.first_start ≡ None
      → ⊥
  none_before same some none =
      let (_none_due, no_word, _no_streams) = was_due.unstarted (sym same ∙ none) in
      let none_open = ap (open_after 0) no_word in
      omega arith

  -- an end that reports nothing
  quiet_close : (offset : ℕ) (at : ℤ) → answers was.clock at now.clock → pos 0 ≤ℤ at → now.thread ≡ after_end was.thread at
      → now.collected ≡ was.collected → now.known ≡ was.known → 0 < open_after 0 was.thread.word
      → Stepped answers was due (ends offset) now
  quiet_close offset at answered low is same known some =
      quiet_step answers was now due (Close (time_of was.thread at) ∷ [])
      (timed_close answers was now at answered low (ap after_handing is) known)
      (ap (λ (collected : Collected). collected.streams) same)
      (λ none word. absurd (none_before (ap (λ (thread : calls.Thread). thread.first_start) is) some none)) was_due (ends offset)
      (ap (λ (thread : calls.Thread). thread.word) is) (inr (time_of was.thread at, refl)) tt

  -- an end, which may report what waits
  close_step : (offset : ℕ) (at : ℤ) → answers was.clock at now.clock → pos 0 ≤ℤ at → now.known ≡ was.known
      → (closed : Closed) → Closes AcceptsReport RefusesReport was.thread now.thread at was.collected now.collected closed
      → Stepped answers was due (ends offset) now
  close_step offset at answered low known Inner (deeper, ended, same) =
      quiet_close offset at answered low ended same known (omega (arith, deeper))
  close_step offset at answered low known (Kept error) (outermost, ended, (_report, _is_report, (_refusal, same))) =
      quiet_close offset at answered low ended same known (omega (arith, outermost))
  close_step offset at answered low known Reported (outermost, handed, (report, is_report, accepted)) =
      let word = was.thread.word ++ (Close (time_of was.thread at) ∷ []) in
      let (reported, _has_ids, like, _fits, _not_long) = accepted in
      record {
        events = Close (time_of was.thread at) ∷ [];
        marked = inr (time_of was.thread at, refl);
        timed = timed_close answers was now at answered low (ap after_handing handed) known;
        shown = [];
        frames = tt;
        now_due = due ++ word;
        is_due = reported_due was now due word report was.thread.details is_report.forest was_due
            (none_before (ap (λ (thread : calls.Thread). thread.first_start) handed) (omega (arith, outermost)))
            (ap key_of_thread handed) reported like is_report.honest is_report.word;
        kept = ap (λ (thread : calls.Thread). (due ++ word) ++ thread.word) handed
            ∙ append-nil (due ++ word)
            ∙ sym (append_assoc due was.thread.word (Close (time_of was.thread at) ∷ []));
      }

  -- an end is one of the innermost scope, or does nothing
  end_step : (offset : ℕ) → Does answers seen accepts refuses (ends offset) old new → Stepped answers was due (ends offset) now
  end_step offset did = at_place (slice_get (offsets_of was.thread) 0) refl
    where
      not_here : (slice_get (offsets_of was.thread) 0 ≡ Some offset → ⊥) → Stepped answers was due (ends offset) now
      not_here other =
          let (same_profiler, same_reporter) = did.ends.other other in
          unchanged (ends offset) same_profiler same_reporter did.scopes (inl refl) tt

      at_place : (innermost : Option ℕ) → slice_get (offsets_of was.thread) 0 ≡ innermost → Stepped answers was due (ends offset) now
      at_place None is = not_here (λ here. cc)
      at_place (Some place) is = elim (cases_eq place offset) [
        | inl same ↦ (let end = did.ends.innermost (is ∙ ap Some same) in
            close_step offset end.at end.answered end.never_negative (ap num_known did.scopes) end.closed
            (closes_by answers seen accepts refuses sees was.thread now.thread end.at (reporter_of old) (reporter_of new)
            end.closed end.closes))
        | inr other ↦ not_here (λ here. let same : place ≡ offset = cc in omega (arith, same, other))
      ]

  -- a report: there was nothing, all that waited was accepted, or it was refused and waits
  report_step : (result : Result Bool Error) → Does answers seen accepts refuses (reports result) old new
      → Stepped answers was due (reports result) now
  report_step (Ok false) ((_nothing, same, same_reporter), clock, scopes) =
      still_step answers was now due (reports (Ok false)) clock same (ap num_known scopes)
      (ap (λ r. (seen r).streams) same_reporter) was_due refl tt
  report_step (Ok true) ((waits, handed, (report, is_report, accepts_it)), clock, scopes) =
      let start : now.thread.first_start ≡ was.thread.first_start = ap (λ (thread : calls.Thread). thread.first_start) handed in
      let (reported, _has_ids, like, _fits, _not_long) =
      sees.accepted (reporter_of old) (key_of_thread was.thread) was.thread.details report (reporter_of new) accepts_it in
      let started : now.thread.first_start ≡ None → ⊥ = λ none.
      let (_none_due, no_word, _no_streams) = was_due.unstarted (sym start ∙ none) in
      waits.some no_word in
      record {
        events = [];
        marked = refl;
        timed = timed_still answers was now clock (ap after_handing handed) (ap num_known scopes);
        shown = [];
        frames = tt;
        now_due = due ++ was.thread.word;
        is_due = reported_due was now due was.thread.word report was.thread.details is_report.forest was_due
            started (ap key_of_thread handed) reported like is_report.honest is_report.word;
        kept = ap (λ (thread : calls.Thread). (due ++ was.thread.word) ++ thread.word) handed;
      }
  report_step (Err error) ((kept, why), clock, scopes) =
      still_step answers was now due (reports (Err error)) clock kept (ap num_known scopes)
      (ap (λ (collected : Collected). collected.streams) (same why)) was_due refl tt
    where
      same : (((0 < open_after 0 was.thread.word) × (error ≡ ScopesOpen) × (reporter_of new ≡ reporter_of old))
          ⊎ (Waits was.thread × (((error ≡ Memory) × (reporter_of new ≡ reporter_of old))
          ⊎ GoesTo (λ before key details report after. refuses before key details report error after) was.thread (reporter_of old)
          (reporter_of new))))
          → now.collected ≡ was.collected
      same (inl (_open, _error_is, same_reporter)) = ap seen same_reporter
      same (inr (_waits, inl (_error_is, same_reporter))) = ap seen same_reporter
      same (inr (_waits, inr (report, _is_report, refuses_it))) =
          let (_refusal, same_collected) =
          sees.refused (reporter_of old) (key_of_thread was.thread) was.thread.details report error (reporter_of new) refuses_it in
          same_collected

  -- A frame call: it was refused, there was nothing to collect, or a frame shows just what was due.
  frame_step : (result : Result (Option (Arc FrameData Global)) Error) → Does answers seen accepts refuses (frame result) old new
      → Stepped answers was due (frame result) now
  frame_step (Err error) (_, keeps, profiler, scopes) =
      still_step answers was now due (frame (Err error)) (ap clock_of profiler) (ap thread_of profiler) (ap num_known scopes)
      (same keeps) was_due refl tt
    where
      same : KeepsPending was.collected error now.collected → now.collected.streams ≡ was.collected.streams
      same (inl (_error_is, _index, unchanged)) = ap (λ (collected : Collected). collected.streams) unchanged
      same (inr (_error_is, knows)) = ap (λ (collected : Collected). collected.streams) knows.2
  frame_step (Ok None) ((_no_scopes, unchanged), _, profiler, scopes) =
      still_step answers was now due (frame (Ok None)) (ap clock_of profiler) (ap thread_of profiler) (ap num_known scopes)
      (ap (λ (collected : Collected). collected.streams) unchanged) was_due refl tt
  frame_step (Ok (Some taken)) (collects, _, profiler, scopes) = at_here was_due.here
    where
      streams : now.collected.streams ≡ empty
      streams = ap (λ (collected : Collected). collected.streams) collects.2

      at_here : SpellsDue (get was.collected.streams (key_at was)) due → Stepped answers was due (frame (Ok (Some taken))) now
      at_here (inl (no_stream, _none_due)) =
          let nothing : was.collected.streams ≡ empty = no_entry was.collected.streams (key_at was) no_stream was_due.only in
          absurd (none_in_empty (subst (λ (any : Streams). 0 < total_scopes (values any)) nothing collects.1))
      at_here (inr (stream, found, spells)) =
          let only_stream = one_entry was.collected.streams (key_at was) stream found was_due.only in
          record {
            events = [];
            marked = refl;
            timed = timed_still answers was now (ap clock_of profiler) (ap (λ p. after_handing (thread_of p)) profiler)
                (ap num_known scopes);
            shown = spells.forest ∷ [];
            frames = (
              (
                was.collected.index,
                key_at was,
                refl,
                shows_spelled was.collected now.collected taken (key_at was) stream due spells only_stream collects,
              ),
              tt,
            );
            now_due = [];
            is_due = record {
              here = inl (ap (λ (any : Streams). get any (key_at now)) streams ∙ get-empty key_cmp (key_at now), refl);
              only = λ other unlike. ap (λ (any : Streams). get any other) streams ∙ get-empty key_cmp other;
              unstarted = λ none.
                  let unstarted = sym (ap (λ p. (thread_of p).first_start) profiler) ∙ none in
                  let (_none_due, no_word, _no_streams) = was_due.unstarted unstarted in
                  (refl, ap (λ p. (thread_of p).word) profiler ∙ no_word, streams);
            };
            kept = ap (λ (events : List Event). events ++ now.thread.word) (append-nil (tour spells.forest) ∙ spells.toured)
                ∙ ap (λ p. due ++ (thread_of p).word) profiler
                ∙ sym (append-nil (due ++ was.thread.word));
          }

  -- What waits was reported, or not, and then a scope was begun, on the thread that is `last` then: both are one call.
  behind : (place : Place) (text : List ℕ) (state : GuardState) (result : Result Bool Error) (last : Thread C R)
      → (report : Stepped answers was due (reports result) now)
      → Stepped answers now report.now_due (begins place text state) (moment_by seen last)
      → Stepped answers was due (begins place text state) (moment_by seen last)
  behind place text state result last report begin = record {
    events = begin.events;
    marked = subst (λ (form : Form). Marks was.known form (begins place text state) begin.events) report.timed.form
        (subst (λ (known : ℕ). Marks known now.thread.form (begins place text state) begin.events) report.timed.known begin.marked);
    timed = subst (λ (events : List Event). Timed answers was (moment_by seen last) (events ++ begin.events)) report.marked
        (timed_both answers was now (moment_by seen last) report.events begin.events report.timed begin.timed);
    shown = report.shown ++ begin.shown;
    frames = zip_both (ShowsOf was.thread.name) [] report.shown [] begin.shown report.frames
        (subst (λ (name : List ℕ). AllZip (ShowsOf name) [] begin.shown) report.timed.name begin.frames);
    now_due = begin.now_due;
    is_due = begin.is_due;
    kept = ap (λ (events : List Event). events ++ (begin.now_due ++ (moment_by seen last).thread.word))
        (tours_both report.shown begin.shown)
        ∙ all_kept (tours report.shown) (tours begin.shown) due was.thread.word report.now_due now.thread.word report.events
        (begin.now_due ++ (moment_by seen last).thread.word) begin.events report.kept begin.kept
        ∙ ap (λ (events : List Event). (due ++ was.thread.word) ++ (events ++ begin.events)) report.marked;
  }

module _ {C R : Type 0} (answers : C → ℤ → C → Type 0)
    (seen : R → Collected) (accepts : R → ThreadKey → List Details → StreamFacts → R → Type 0)
    (refuses : R → ThreadKey → List Details → StreamFacts → Error → R → Type 0) (sees : Sees seen accepts refuses)
    (old new : Thread C R) (due : List Event) (was_due : IsDue (moment_by seen old) due) where
  -- a begin, behind a report where the bytes would be too many, or without one
  begin_step : (place : Place) (text : List ℕ) (state : GuardState) → Does answers seen accepts refuses (begins place text state) old new
      → Stepped answers (moment_by seen old) due (begins place text state) (moment_by seen new)
  begin_step place text state (ready, inl same, there) =
      begin_there answers seen accepts refuses sees old new due was_due place text state
      (subst (λ thread. BeginsThere answers thread place text state new) same there)
  begin_step place text state (ready, inr room, there) =
      let report =
      report_step answers seen accepts refuses sees old ready due was_due room.answer (room.reports, room.clock, room.scopes) in
      behind answers seen accepts refuses sees old ready due was_due place text state room.answer new report
      (begin_there answers seen accepts refuses sees ready new report.now_due report.is_due place text state there)

  -- any call
  step : (call : Call) → Does answers seen accepts refuses call old new → Stepped answers (moment_by seen old) due call (moment_by seen new)
  step (begins place text state) did = begin_step place text state did
  step (ends offset) did = end_step answers seen accepts refuses sees old new due was_due offset did
  step (reports result) did = report_step answers seen accepts refuses sees old new due was_due result did
  step (frame result) did = frame_step answers seen accepts refuses sees old new due was_due result did

-- any list of calls accounts for what it records
pub accounts : {C R : Type 0} (answers : C → ℤ → C → Type 0)
    (accepts : R → ThreadKey → List Details → StreamFacts → R → Type 0)
    (refuses : R → ThreadKey → List Details → StreamFacts → Error → R → Type 0) → CallsAccount answers accepts refuses
accounts {C} {R} answers accepts refuses seen sees = of_list
  where
    of_list : (calls : List Call) (old new : Thread C R) (due : List Event) → Run answers seen accepts refuses old calls new
        → IsDue (moment_by seen old) due → Accounts answers (moment_by seen old) due calls (moment_by seen new)
    of_list [] old new due same was_due = accounts_none answers (moment_by seen old) (moment_by seen new) due same was_due
    of_list (call ∷ later) old new due (next, does, runs) was_due =
        let first = step answers seen accepts refuses sees old next due was_due call does in
        accounts_more answers (moment_by seen old) (moment_by seen next) (moment_by seen new) due call later first
        (of_list later next new first.now_due runs first.is_due)

-- nothing is due on a new thread
pub none_due_at_first : (C : Type 0) → NoneDueAtFirst C
none_due_at_first C moment name form is none = record {
  here = inl (ap (λ (any : Streams). get any (key_at moment)) none ∙ get-empty key_cmp (key_at moment), refl);
  only = λ key unlike. ap (λ (any : Streams). get any key) none ∙ get-empty key_cmp key;
  unstarted = λ none_yet. (refl, ap (λ (thread : calls.Thread). thread.word) is, none);
}

-- where a frame call answers that there is no frame, nothing was due
pub nothing_due : (C : Type 0) → NoFrameNothingDue C
nothing_due C moment due later is_due (no_scopes, _same) = elim is_due.here [
  | inl (_no_stream, none_due) ↦ none_due
  | inr (stream, found, spells) ↦ none_spelled stream due spells (no_scopes (key_at moment) stream found)
]
