-- Code on a light thread, by what its reporter tells.
use Rattle.std.proofs.Common.{◌≡◌, ◌⊎◌, ℕ, ℤ, pos, Bool, true, false, List, [], ◌∷◌, ◌++◌, map, Some, Result}
use Rattle.std.proofs.Common.{Ok, Err, inl, inr, refl, sym, ap, ◌∙◌, subst}
use Rattle.puffin_data.specs.declared.error.Error.{Error}
use Rattle.puffin_data.specs.declared.data.form.Form.{Form}
use Rattle.std.proofs.lemmas.Grind.{flat_map-append}
use Rattle.puffin_data.specs.Forest.{Forest, empty, append}
use Rattle.puffin_data.specs.Forest.Measures.{scope_count}
use Rattle.puffin_data.specs.Forest.Words.{open_after}
use Rattle.puffin_data.specs.Honesty.{StreamFacts}
use Rattle.puffin_data.specs.Text.{cut_text}
use Rattle.puffin_threads.specs.declared.thread_profiler.profiler.ThreadProfiler.{ThreadProfiler}
use Rattle.puffin_threads.specs.declared.thread_profiler.reporter.Closed.{Closed}
use Rattle.puffin_threads.specs.declared.thread_profiler.reporter.Closed.TheVariants.{Inner, Reported, Kept}
use Rattle.puffin_threads.specs.Thread.ThreadProfiler.{thread_of}
use Rattle.puffin_threads.specs.Thread.ThreadKey.{ThreadKey}
use Rattle.puffin_threads.specs.Thread.Calls as calls
use Rattle.puffin_threads.specs.Thread.Calls.{time_of, after_end, key_of_thread, new_thread, num_ended}
use Rattle.puffin_threads.specs.Thread.Closing.{Closes, Reports}
use Rattle.puffin_threads.specs.Details.{Details}
use Rattle.puffin_scopes.specs.Guards.Guard.{offset_in}
use Rattle.puffin_scopes.specs.declared.guard_state.GuardState.{GuardState}
use Rattle.puffin_scopes.specs.declared.guard_state.GuardState.TheVariants.{On, Off, Refused}
use Rattle.puffin.specs.declared.light.thread.Thread.{Thread}
use Rattle.puffin.specs.declared.light.scopes.Place.{Place}
use Rattle.puffin.specs.LightThread.{profiler_of, reporter_of, scopes_of}
use Rattle.puffin.specs.Places.{num_known}
use Rattle.puffin.specs.Guards.{BeginsThere, MakesRoom, BeginsAt, EndsIn, Leaves}
use Rattle.puffin.specs.Code.{Code, nothing, scope, Runs, AreScopesOf, MayBe, scope_if, span_at}
use Rattle.puffin.specs.Happenings.{Happening, reported, unless_marked, unmarked}
use Rattle.puffin.specs.Telling.{KeepsReports, HasRun, RunsAs, HasRunAs, LeadsAs, HasLedAs}
use Rattle.puffin.proofs.lemmas.Waiting.{num_ended-tour}
use Rattle.puffin.proofs.lemmas.StartedThreads.{HasStarted}
use Rattle.puffin.proofs.Telling.{Stage, Adds, Accepts, Refuses, some_first, adds_started, adds_report, adds_nothing, adds_both}
use Rattle.puffin.proofs.Telling.{innermost, around, num_open}
use Rattle.puffin.proofs.ToldScopes.{told_passed, told_all}

begins_form : {C R : Type 0} (answers : C → ℤ → C → Type 0) (old new : Thread C R) (place : Place) (text : List ℕ)
    (state : GuardState) → BeginsThere answers old place text state new
    → (thread_of (profiler_of new)).form ≡ (thread_of (profiler_of old)).form
begins_form answers old new place text (On offset) begins = ap (λ (t : calls.Thread). t.form) begins.begins.1.begun
begins_form answers old new place text Off begins = ap (λ p. (thread_of p).form) begins.begins
begins_form answers old new place text (Refused e) begins = ap (λ p. (thread_of p).form) begins.begins.0

may_be : {C R : Type 0} (answers : C → ℤ → C → Type 0) (old new : Thread C R) (place : Place) (text : List ℕ)
    (state : GuardState) → BeginsThere answers old place text state new → MayBe (num_known (scopes_of old)) place state
may_be answers old new place text (On offset) begins = begins.begins.0
may_be answers old new place text Off begins = tt
may_be answers old new place text (Refused e) begins = begins.begins.1

-- the same for a thread that knows as much and has the same form
pub moved : {k known : ℕ} {x form : Form} (code : Code) (f : Forest) → k ≡ known → x ≡ form → AreScopesOf k x code f
    → AreScopesOf known form code f
moved {k} {known} {x} {form} code f same_known same_form is =
    subst (λ (y : Form). AreScopesOf known y code f) same_form (subst (λ (n : ℕ). AreScopesOf n x code f) same_known is)

-- the same of what is told without marks
pub keeps_unmarked : {R : Type 0} (accepts : R → ThreadKey → List Details → StreamFacts → R → Type 0)
    (refuses : R → ThreadKey → List Details → StreamFacts → Error → R → Type 0) (told : R → List Happening)
    → KeepsReports accepts refuses told
    → KeepsReports accepts refuses (λ r. unmarked (told r))
keeps_unmarked accepts refuses told keeps = record {
  accepted = λ old i ds r new h. let kept = keeps.accepted old i ds r new h in
      (ap unmarked kept.0 ∙ flat_map-append unless_marked (told old) (reported i r ∷ []), kept.1);
  refused = λ old i ds r e new h. ap unmarked (keeps.refused old i ds r e new h);
}

module _ {C R : Type 0} (answers : C → ℤ → C → Type 0)
    (accepts : R → ThreadKey → List Details → StreamFacts → R → Type 0)
    (refuses : R → ThreadKey → List Details → StreamFacts → Error → R → Type 0) (told : R → List Happening)
    (keeps : KeepsReports accepts refuses told) where
  abbrev pub stage : Thread C R → Stage
  stage t = record { known = num_known (scopes_of t); thread = thread_of (profiler_of t); told = told (reporter_of t) }

  closes_by : (old new : calls.Thread) (at : ℤ) (before after : R) (closed : Closed)
      → Closes accepts refuses old new at before after closed → Closes Accepts Refuses old new at (told before) (told after) closed
  closes_by old new at before after Inner (inner, ended, same) = (inner, ended, ap told same)
  closes_by old new at before after Reported (outer, handed, (report, is, accepted)) =
      let thread = after_end old at in
      (outer, handed, (report, is, keeps.accepted before (key_of_thread thread) thread.details report after accepted))
  closes_by old new at before after (Kept error) (outer, ended, (report, is, refused)) =
      let thread = after_end old at in
      (outer, ended, (report, is, keeps.refused before (key_of_thread thread) thread.details report error after refused))

  pub reports_by : (old new : calls.Thread) (before after : R) (result : Result Bool Error)
      → Reports accepts refuses old new before after result → Reports Accepts Refuses old new (told before) (told after) result
  reports_by old new before after (Ok false) (nothing_waits, kept, same) = (nothing_waits, kept, ap told same)
  reports_by old new before after (Ok true) (waits, handed, (report, is, accepted)) =
      (waits, handed, (report, is, keeps.accepted before (key_of_thread old) old.details report after accepted))
  reports_by old new before after (Err error) (kept, inl (opened, cause, same)) = (kept, inl (opened, cause, ap told same))
  reports_by old new before after (Err error) (kept, inr (waits, inl (memory, same))) =
      (kept, inr (waits, inl (memory, ap told same)))
  reports_by old new before after (Err error) (kept, inr (waits, inr (report, is, refused))) =
      (kept, inr (waits, inr (report, is, keeps.refused before (key_of_thread old) old.details report error after refused)))

  abbrev stage_with : ThreadProfiler C → R → ℕ → Stage
  stage_with p r known = record { known = known; thread = thread_of p; told = told r }

  same_stage : (a b : Thread C R) → profiler_of b ≡ profiler_of a → reporter_of b ≡ reporter_of a → scopes_of b ≡ scopes_of a
      → stage b ≡ stage a
  same_stage a b profiler reporter scopes =
      ap (λ p. stage_with p (reporter_of b) (num_known (scopes_of b))) profiler
      ∙ ap (λ r. stage_with (profiler_of a) r (num_known (scopes_of b))) reporter
      ∙ ap (λ k. stage_with (profiler_of a) (reporter_of a) (num_known k)) scopes

  bare : (a b c d : Thread C R) (f : Forest) → profiler_of b ≡ profiler_of a → reporter_of b ≡ reporter_of a
      → scopes_of b ≡ scopes_of a → Adds (stage b) (stage c) f → d ≡ c → Adds (stage a) (stage d) f
  bare a b c d f profiler reporter scopes body left =
      subst (λ m. Adds m (stage d) f) (same_stage a b profiler reporter scopes)
      (subst (λ t. Adds (stage b) (stage t) f) (sym left) body)

  -- A guard was opened at a place, code ran within it, and it was dropped.
  adds_scope : (a b c d : Thread C R) (place : Place) (text : List ℕ) (state : GuardState) (f : Forest)
      → BeginsThere answers a place text state b → Adds (stage b) (stage c) f
      → Leaves (EndsIn answers accepts refuses) (offset_in state) c d
      → (start stop : ℤ) × Adds (stage a) (stage d)
      (scope_if state (span_at place (cut_text (thread_of (profiler_of a)).form text) start stop) f)
  adds_scope a b c d place text Off f begins body left =
      (pos 0, pos 0, bare a b c d f begins.begins begins.reporter begins.scopes body left)
  adds_scope a b c d place text (Refused e) f begins body left =
      (pos 0, pos 0, bare a b c d f begins.begins.0 begins.reporter begins.scopes body left)
  adds_scope a b c d place text (On offset) f begins body left =
      let h = begins.begins.1 in
      let still : told (reporter_of b) ≡ told (reporter_of a) = ap told begins.reporter in
      let stored = cut_text (thread_of (profiler_of a)).form text in
      let end = left.ends.innermost (innermost (stage a) (stage b) (stage c) (stage d) place.id stored h.at h.at f h.begun still
      (ap num_known begins.scopes) body ∙ ap Some (sym h.offset_is)) in (
        time_of (thread_of (profiler_of a)) h.at,
        time_of (thread_of (profiler_of c)) end.at,
        around (stage a) (stage b) (stage c) (stage d) place.id stored h.at end.at f h.begun still (ap num_known begins.scopes) body
            (ap num_known left.scopes) end.closed
            (closes_by (thread_of (profiler_of c)) (thread_of (profiler_of d)) end.at (reporter_of c)
            (reporter_of d) end.closed end.closes),
      )

  -- what waits was reported, or not, before a scope began
  adds_room : (a b : Thread C R) → HasStarted (stage a).thread → (b ≡ a) ⊎ MakesRoom accepts refuses a b
      → Adds (stage a) (stage b) empty
  adds_room a b started (inl same) = subst (λ t. Adds (stage a) (stage t) empty) (sym same) (adds_nothing (stage a))
  adds_room a b started (inr room) =
      adds_report (stage a) (stage b) room.answer started (ap num_known room.scopes)
      (reports_by (thread_of (profiler_of a)) (thread_of (profiler_of b)) (reporter_of a)
      (reporter_of b) room.answer room.reports)

  begun_started : (a b : Thread C R) (place : Place) (text : List ℕ) (state : GuardState) → BeginsThere answers a place text state b
      → HasStarted (stage a).thread → HasStarted (stage b).thread
  begun_started a b place text (On offset) begins started none =
      absurd (let first = some_first (thread_of (profiler_of a)).first_start
      (time_of (thread_of (profiler_of a)) begins.begins.1.at) in
      let is = ap (λ (t : calls.Thread). t.first_start) begins.begins.1.begun in cc)
  begun_started a b place text Off begins started none = ap (λ p. (thread_of p).word) begins.begins
      ∙ started (sym (ap (λ p. (thread_of p).first_start) begins.begins) ∙ none)
  begun_started a b place text (Refused e) begins started none = ap (λ p. (thread_of p).word) begins.begins.0
      ∙ started (sym (ap (λ p. (thread_of p).first_start) begins.begins.0) ∙ none)

  pub adds_code : (code : Code) (old new : Thread C R) → HasStarted (stage old).thread
      → Runs (BeginsAt answers accepts refuses) (EndsIn answers accepts refuses) code old new
      → (f : Forest) × AreScopesOf (num_known (scopes_of old)) (thread_of (profiler_of old)).form code f
      × Adds (stage old) (stage new) f
  adds_code nothing old new started runs =
      (empty, refl, subst (λ t. Adds (stage old) (stage t) empty) (sym runs) (adds_nothing (stage old)))
  adds_code (scope place text within after) old new started
      (state, begun, left, ended, (ready, room, begins), inner, leaves, later) =
      let made = adds_room old ready started room in
      let ready_started = adds_started (stage old) (stage ready) empty started made in
      let i = adds_code within begun left (begun_started ready begun place text state begins ready_started) inner in
      let w = adds_scope ready begun left ended place text state i.0 begins i.2 leaves in
      let span = span_at place (cut_text (thread_of (profiler_of ready)).form text) w.0 w.1 in
      let l = adds_code after ended new (adds_started (stage ready) (stage ended) (scope_if state span i.0) ready_started w.2)
      later in
      let whole = adds_both (stage old) (stage ready) (stage ended) empty (scope_if state span i.0) made w.2 in
      let form = begins_form answers ready begun place text state begins ∙ made.form in
      let known = ap num_known begins.scopes ∙ made.known in
      let its_text = ap (λ (x : Form). cut_text x text) made.form in (
        append (scope_if state span i.0) l.0,
        (
          state,
          subst (λ (n : ℕ). MayBe n place state) made.known (may_be answers ready begun place text state begins),
          w.0,
          w.1,
          i.0,
          l.0,
          moved within i.0 known form i.1,
          moved after l.0 whole.known whole.form l.1,
          ap (λ (s : List ℕ). append (scope_if state (span_at place s w.0 w.1) i.0) l.0) its_text,
        ),
        adds_both (stage old) (stage ended) (stage new) (scope_if state span i.0) l.0 whole l.2,
      )

  -- code added scopes to a new thread, and then what waited was reported, or not
  pub has_added : (code : Code) (f : Forest) (o : Stage) (mid : Thread C R) (last : calls.Thread) (after : R) (name : List ℕ)
      (form : Form) (result : Result Bool Error) (waiting : ℕ) (before now : List Happening) → o.thread ≡ new_thread name form
      → AreScopesOf o.known form code f → Adds o (stage mid) f
      → Reports accepts refuses (thread_of (profiler_of mid)) last (reporter_of mid) after result → waiting ≡ num_ended last.word
      → o.told ≡ unmarked before → told after ≡ unmarked now
      → HasRun name form o.known code before now waiting
  has_added code f o mid last after name form result waiting before now first scopes adds reports counted began is =
      let n : Stage = record { known = num_known (scopes_of mid); thread = last; told = told after } in
      let its = told_all o (stage mid) n f name form result first adds
      (reports_by (thread_of (profiler_of mid)) last (reporter_of mid) after result reports) in
      record {
        start = its.start;
        streams = its.streams;
        told = sym is ∙ its.told
            ∙ ap (λ (hs : List Happening). hs ++ map (reported (record { start = its.start; name = name })) its.streams) began;
        shown = its.shown;
        waits = its.waits;
        spelled = its.spelled;
        fit = its.fit;
        began = subst (AreScopesOf o.known form code) (sym its.whole) scopes;
        counted = sym (counted ∙ ap num_ended its.word ∙ num_ended-tour its.waits);
      }

  -- code added scopes to a new thread, of which some wait
  pub has_added_so_far : (code : Code) (f : Forest) (o : Stage) (mid : Thread C R) (name : List ℕ)
      (form : Form) (now : List Happening) → o.thread ≡ new_thread name form
      → AreScopesOf o.known form code f → Adds o (stage mid) f
      → o.told ≡ [] → told (reporter_of mid) ≡ unmarked now
      → (waits : ℕ) × HasRun name form o.known code [] now waits
  has_added_so_far code f o mid name form now first scopes adds began is =
      let shut : num_open o ≡ 0 = ap (λ (x : calls.Thread). open_after 0 x.word) first in
      let its = told_passed o (stage mid) f name form first (adds.name ∙ ap (λ (x : calls.Thread). x.name) first)
      (adds.passed shut) in (
        scope_count its.waits,
        record {
          start = its.start;
          streams = its.streams;
          told = sym is ∙ its.told
              ∙ ap (λ (hs : List Happening). hs ++ map (reported (record { start = its.start; name = name })) its.streams) began;
          shown = its.shown;
          waits = its.waits;
          spelled = its.spelled;
          fit = its.fit;
          began = subst (AreScopesOf o.known form code) (sym its.whole) scopes;
          counted = refl;
        },
      )

  -- code ran on a new thread, and then what waited was reported, or not
  has_run : (code : Code) (old mid : Thread C R) (last : calls.Thread) (after : R) (name : List ℕ)
      (form : Form) (result : Result Bool Error) (waiting : ℕ) (before now : List Happening)
      → thread_of (profiler_of old) ≡ new_thread name form
      → Runs (BeginsAt answers accepts refuses) (EndsIn answers accepts refuses) code old mid
      → Reports accepts refuses (thread_of (profiler_of mid)) last (reporter_of mid) after result → waiting ≡ num_ended last.word
      → told (reporter_of old) ≡ unmarked before → told after ≡ unmarked now
      → HasRun name form (num_known (scopes_of old)) code before now waiting
  has_run code old mid last after name form result waiting before now first runs reports counted began is =
      let a = adds_code code old mid (λ none. ap (λ (x : calls.Thread). x.word) first) runs in
      let its_form : (thread_of (profiler_of old)).form ≡ form = ap (λ (x : calls.Thread). x.form) first in
      has_added code a.0 (stage old) mid last after name form result waiting before now first
      (subst (λ (x : Form). AreScopesOf (num_known (scopes_of old)) x code a.0) its_form a.1) a.2 reports counted began is

  pub has_run_as : {X E : Type 0} (states : Bool) (is : Code → Type 0) (old mid : Thread C R)
      (last : calls.Thread) (after : R) (name : List ℕ) (form : Form) (r : Result X E) (result : Result Bool Error)
      (waiting : ℕ) (before now : List Happening) → thread_of (profiler_of old) ≡ new_thread name form
      → RunsAs states is (BeginsAt answers accepts refuses) (EndsIn answers accepts refuses) old r mid
      → Reports accepts refuses (thread_of (profiler_of mid)) last (reporter_of mid) after result → waiting ≡ num_ended last.word
      → told (reporter_of old) ≡ unmarked before → told after ≡ unmarked now
      → HasRunAs states is name form (num_known (scopes_of old)) r before now waiting
  has_run_as false is old mid last after name form r result waiting before now first runs reports counted began is_now = tt
  has_run_as true is old mid last after name form (Ok x) result waiting before now first
      (code, it, runs) reports counted began is_now =
      (code, it, has_run code old mid last after name form result waiting before now first runs reports counted began is_now)
  has_run_as true is old mid last after name form (Err e) result waiting before now first runs reports counted began is_now = tt

  pub has_led_as : (states : Bool) (is : Code → Type 0) (old mid : Thread C R) (last : calls.Thread) (after : R) (name : List ℕ)
      (form : Form) (result : Result Bool Error) (waiting : ℕ) (before now : List Happening)
      → thread_of (profiler_of old) ≡ new_thread name form
      → LeadsAs states is (BeginsAt answers accepts refuses) (EndsIn answers accepts refuses) old mid
      → Reports accepts refuses (thread_of (profiler_of mid)) last (reporter_of mid) after result → waiting ≡ num_ended last.word
      → told (reporter_of old) ≡ unmarked before → told after ≡ unmarked now
      → HasLedAs states is name form (num_known (scopes_of old)) before now waiting
  has_led_as false is old mid last after name form result waiting before now first runs reports counted began is_now = tt
  has_led_as true is old mid last after name form result waiting before now first (code, it, runs) reports counted began is_now =
      (code, it, has_run code old mid last after name form result waiting before now first runs reports counted began is_now)
