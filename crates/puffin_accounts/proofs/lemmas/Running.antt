-- Code adds the scopes of it that began.
use Rattle.std.proofs.Common.{◌≡◌, ℕ, suc, ◌+◌, ◌≤◌, ℤ, List, [], refl, sym, ap, ◌∙◌, subst, arith}
use Rattle.puffin_data.specs.declared.error.Error.{Error}
use Rattle.puffin_data.specs.declared.data.form.Form.{Form}
use Rattle.puffin_data.specs.Forest.{Forest, empty, append}
use Rattle.puffin_data.specs.Forest.Measures.{scope_count}
use Rattle.puffin_data.specs.Honesty.{StreamFacts}
use Rattle.puffin_data.specs.Text.{cut_text}
use Rattle.puffin_data.proofs.lemmas.Extended.{scope_count-append}
use Rattle.puffin_threads.specs.Thread.ThreadProfiler.{thread_of}
use Rattle.puffin_threads.specs.Thread.ThreadKey.{ThreadKey}
use Rattle.puffin_threads.specs.Thread.Calls as calls
use Rattle.puffin_threads.specs.Thread.Calls.{time_of}
use Rattle.puffin_threads.specs.Details.{Details}
use Rattle.puffin_collector.specs.Collector.State.{Collected}
use Rattle.puffin_scopes.specs.declared.guard_state.GuardState.{GuardState}
use Rattle.puffin_scopes.specs.declared.guard_state.GuardState.TheVariants.{On, Off, Refused}
use Rattle.puffin.specs.declared.global_profiler.profiler.GlobalProfiler.{GlobalProfiler}
use Rattle.puffin.specs.declared.light.thread.Thread.{Thread}
use Rattle.puffin.specs.declared.light.scopes.Place.{Place}
use Rattle.puffin.specs.Profiler.{collected_of}
use Rattle.puffin.specs.LightThread.{profiler_of, scopes_of}
use Rattle.puffin.specs.Places.{num_known}
use Rattle.puffin.specs.Guards.{BeginsThere, BeginsAt, EndsIn}
use Rattle.puffin_accounts.specs.Moments.{Moment, moment_by, Sees, AcceptsThere, RefusesThere}
use Rattle.puffin_accounts.specs.Adding.{AddsScopes, MayBe, scope_if, span_at}
use Rattle.puffin.proofs.lemmas.CodeRuns.{runs_both}
use Rattle.puffin_accounts.specs.Running.{Code, nothing, scope, Runs, AreScopesOf, AreAllOf, AllBegan, repeated, num_scopes_of}
use Rattle.puffin_accounts.proofs.lemmas.Adding.{adds_nothing, adds_both}
use Rattle.puffin_accounts.proofs.lemmas.Opened.{adds_scope}
use Rattle.puffin.proofs.lemmas.StartedThreads.{HasStarted}
use Rattle.puffin_accounts.proofs.lemmas.Reported.{adds_started, adds_room}
use Rattle.puffin_accounts.proofs.lemmas.Times.{has_start}

-- ---- which scopes began

-- no more scopes began than the code has
at_most : (known : ℕ) (form : Form) (code : Code) (f : Forest) → AreScopesOf known form code f → scope_count f ≤ num_scopes_of code
at_most known form nothing f is = omega (arith, ap scope_count is)
at_most known form (scope place text within after) f (On offset, why, start, stop, children, others, inner, later, is) =
    omega (arith, ap scope_count is, at_most known form within children inner, at_most known form after others later)
at_most known form (scope place text within after) f (Off, why, start, stop, children, others, inner, later, is) =
    omega (
      arith,
      ap scope_count is,
      scope_count-append children others,
      at_most known form within children inner,
      at_most known form after
          others later,
    )
at_most known form (scope place text within after) f (Refused e, why, start, stop, children, others, inner, later, is) =
    omega (
      arith,
      ap scope_count is,
      scope_count-append children others,
      at_most known form within children inner,
      at_most known form after
          others later,
    )

-- if as many began, all did
all_of : (known : ℕ) (form : Form) (code : Code) (f : Forest) → AreScopesOf known form code f → scope_count f ≡ num_scopes_of code
    → AreAllOf form code f
all_of known form nothing f is same = is
all_of known form (scope place text within after) f (On offset, why, start, stop, children, others, inner, later, is) same =
    let fewer = at_most known form within children inner in
    let fewer_after = at_most known form after others later in
    let total = ap scope_count is in
    subst (AreAllOf form (scope place text within after)) (sym is) (
      refl,
      refl,
      all_of known form within children inner
          (omega (arith, same, total, fewer, fewer_after)),
      all_of known form after others later
          (omega (arith, same, total, fewer, fewer_after)),
    )
all_of known form (scope place text within after) f (Off, why, start, stop, children, others, inner, later, is) same =
    absurd (omega (
      arith,
      same,
      ap scope_count is,
      scope_count-append children others,
      at_most known form within children inner,
      at_most
          known form after others later,
    ))
all_of known form (scope place text within after) f (Refused e, why, start, stop, children, others, inner, later, is) same =
    absurd (omega (
      arith,
      same,
      ap scope_count is,
      scope_count-append children others,
      at_most known form within children inner,
      at_most
          known form after others later,
    ))

pub all_began : AllBegan
all_began known form code f is = (at_most known form code f is, all_of known form code f is)

-- ---- code after code

-- code ran once more
pub runs_again : {T : Type 0} (begins : T → Place → List ℕ → GuardState → T → Type 0) (ends : T → ℕ → T → Type 0)
    (code : Code) (n : ℕ) (old mid new : T) → Runs begins ends (repeated n code) old mid → Runs begins ends code mid new
    → Runs begins ends (repeated (n + 1) code) old new
runs_again begins ends code n old mid new before once =
    let next : suc n ≡ n + 1 = omega arith in
    subst (λ k. Runs begins ends (repeated k code) old new) next (runs_both begins ends (repeated n code) code old mid new before once)

-- ---- what runs

pub record AddsCode {C : Type 0} (answers : C → ℤ → C → Type 0) (old new : Moment C) (code : Code) : Type 0 where
  pub scopes : Forest
  pub began : AreScopesOf old.known old.thread.form code scopes
  pub adds : AddsScopes answers old new scopes

-- a profiler is seen
pub sees_there : {I : Type 0} {F : I → Type 0} → Sees {R = GlobalProfiler I F} collected_of AcceptsThere RefusesThere
sees_there = record { accepted = λ old i ds r new h. h.0; refused = λ old i ds r e new h. h.0 }

begins_form : {C R : Type 0} (answers : C → ℤ → C → Type 0) (old new : Thread C R) (place : Place) (text : List ℕ)
    (state : GuardState) → BeginsThere answers old place text state new
    → (thread_of (profiler_of new)).form ≡ (thread_of (profiler_of old)).form
begins_form answers old new place text (On offset) begins = ap (λ (t : calls.Thread). t.form) begins.begins.1.begun
begins_form answers old new place text Off begins = ap (λ p. (thread_of p).form) begins.begins
begins_form answers old new place text (Refused e) begins = ap (λ p. (thread_of p).form) begins.begins.0

may_be : {C R : Type 0} (answers : C → ℤ → C → Type 0) (old new : Thread C R) (place : Place) (text : List ℕ)
    (state : GuardState) → BeginsThere answers old place text state new → MayBe (num_known (scopes_of old)) place state
may_be answers old new place text (On offset) begins = begins.begins.0
may_be answers old new place text Off begins = tt
may_be answers old new place text (Refused e) begins = begins.begins.1

-- the same for a thread that knows as much and has the same form
moved : {k known : ℕ} {x form : Form} (code : Code) (f : Forest) → k ≡ known → x ≡ form → AreScopesOf k x code f
    → AreScopesOf known form code f
moved {k} {known} {x} {form} code f same_known same_form is =
    subst (λ (y : Form). AreScopesOf known y code f) same_form (subst (λ (n : ℕ). AreScopesOf n x code f) same_known is)

module _ {C R : Type 0} (answers : C → ℤ → C → Type 0)
    (seen : R → Collected) (accepts : R → ThreadKey → List Details → StreamFacts → R → Type 0)
    (refuses : R → ThreadKey → List Details → StreamFacts → Error → R → Type 0) (sees : Sees seen accepts refuses) where
  begun_started : (a b : Thread C R) (place : Place) (text : List ℕ) (state : GuardState) → BeginsThere answers a place text state b
      → HasStarted (moment_by seen a).thread → HasStarted (moment_by seen b).thread
  begun_started a b place text (On offset) begins started none =
      absurd (has_start (thread_of (profiler_of a)).first_start
      (time_of (thread_of (profiler_of a)) begins.begins.1.at) [] (thread_of (profiler_of b)).first_start
      (ap (λ (t : calls.Thread). t.first_start) begins.begins.1.begun) none)
  begun_started a b place text Off begins started none = ap (λ p. (thread_of p).word) begins.begins
      ∙ started (sym (ap (λ p. (thread_of p).first_start) begins.begins) ∙ none)
  begun_started a b place text (Refused e) begins started none = ap (λ p. (thread_of p).word) begins.begins.0
      ∙ started (sym (ap (λ p. (thread_of p).first_start) begins.begins.0) ∙ none)

  pub adds_code : (code : Code) (old new : Thread C R) → HasStarted (moment_by seen old).thread
      → Runs (BeginsAt answers accepts refuses) (EndsIn answers accepts refuses) code old new
      → AddsCode answers (moment_by seen old) (moment_by seen new) code
  adds_code nothing old new started runs = record {
    scopes = empty;
    began = refl;
    adds =
        subst (λ t. AddsScopes answers (moment_by seen old) (moment_by seen t) empty) (sym runs)
        (adds_nothing answers (moment_by seen old));
  }
  adds_code (scope place text within after) old new started (state, begun, left, ended, (ready, room, begins), inner, leaves, later) =
      let o = moment_by seen old in
      let m = moment_by seen ready in
      let made = adds_room answers seen accepts refuses sees old ready started room in
      let ready_started = adds_started answers o m empty started made in
      let i = adds_code within begun left (begun_started ready begun place text state begins ready_started) inner in
      let w = adds_scope answers seen accepts refuses sees ready begun left ended place text state i.scopes begins i.adds leaves in
      let span = span_at place (cut_text m.thread.form text) w.start w.stop in
      let l = adds_code after ended new (adds_started answers m (moment_by seen ended) (scope_if state span i.scopes) ready_started w.adds)
      later in
      let whole = adds_both answers o m (moment_by seen ended) empty (scope_if state span i.scopes) made w.adds in
      let form = begins_form answers ready begun place text state begins ∙ made.timed.form in
      let known = ap num_known begins.scopes ∙ made.timed.known in
      record {
        scopes = append (scope_if state span i.scopes) l.scopes;
        began = (
          state,
          subst (λ (n : ℕ). MayBe n place state) made.timed.known (may_be answers ready begun place text state begins),
          w.start,
          w.stop,
          i.scopes,
          l.scopes,
          moved within i.scopes known form i.began,
          moved after l.scopes whole.timed.known whole.timed.form l.began,
          ap (λ (s : List ℕ). append (scope_if state (span_at place s w.start w.stop) i.scopes) l.scopes)
              (ap (λ (x : Form). cut_text x text) made.timed.form),
        );
        adds = adds_both answers o (moment_by seen ended) (moment_by seen new) (scope_if state span i.scopes) l.scopes whole l.adds;
      }
