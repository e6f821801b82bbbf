-- What the contracts of a thread's profiler and of the collector give for one command.
use Rattle.std.proofs.Common.{◌≡◌, ◌≢◌, ℕ, zero, suc, ◌-◌, ◌^◌, ◌<◌, ◌↔◌, ℤ, pos, List, [], ◌∷◌, length, get_or, set, arith, Option, Result, Ok, Err, refl, sym, ap, ◌∙◌, subst, Global, ◌⊎◌, inr}
use Rattle.std.specs.Prelude.{OnOk, IfOk, IfErr}
use Rattle.std.specs.Int.{int_max}
use Rattle.std.specs.declared.sync.Arc.{Arc}
use Rattle.puffin_data.specs.declared.data.form.Form.{Form}
use Rattle.puffin_data.specs.declared.error.Error.{Error}
use Rattle.puffin_data.specs.declared.error.Error.TheVariants.{IndexExhausted, Memory}
use Rattle.puffin_data.specs.Forest.{Forest}
use Rattle.puffin_data.specs.Honesty.{StreamFacts, AreHonestFacts}
use Rattle.puffin_data.specs.Walk.{IsFault}
use Rattle.std.proofs.lemmas.List.{get_or-set_same}
use Rattle.puffin_session.specs.Session.History.{nobody}
use Rattle.puffin_threads.specs.Thread.ThreadKey.{ThreadKey}
use Rattle.puffin_threads.specs.Details.{Details, AllHaveIds}
use Rattle.puffin_threads.specs.Thread.Calls.{Thread, clock_time}
use Rattle.puffin_threads.specs.Thread.Closing.{Closes}
use Rattle.puffin_frames.specs.declared.frame_data.frame.FrameData.{FrameData}
use Rattle.puffin_threads.specs.declared.thread_profiler.reporter.Closed.{Closed}
use Rattle.puffin_threads.specs.declared.thread_profiler.reporter.Closed.TheVariants.{Inner, Reported, Kept}
use Rattle.puffin_collector.specs.Collector.State.{Collected, AcceptsReport, RefusesReport, after_wanting, IsReportRefusal}
use Rattle.puffin_collector.specs.Collector.Collecting.{Collects, KeepsPending}
use Rattle.puffin_session.specs.Session.{SessionState}
use Rattle.puffin_session.specs.inner.Serving.{session_thread, session_with_thread, session_with_collected, EndsInnermost}

abbrev session : List Thread → Collected → SessionState
session threads collected = record { threads = threads; collected = collected }

-- what a profiler's end gives, where its clock was set to the command's time
pub Ends-from : (old there new : Thread) (at clock t : ℤ) (before after : Collected) (closed : Closed) → there ≡ old
    → clock ≡ at → t ≡ int_max (pos 0) clock → Closes AcceptsReport RefusesReport there new t before after closed
    → EndsInnermost old new (clock_time at) before after closed
Ends-from old there new at clock t before after closed same set answered closes =
    subst (λ (th : Thread). Closes AcceptsReport RefusesReport th new (clock_time at) before after closed) same
    (subst (λ (x : ℤ). Closes AcceptsReport RefusesReport there new x before after closed) (answered ∙ ap (int_max (pos 0)) set) closes)

no_details_lack : AllHaveIds []
no_details_lack k d lt = absurd (omega arith)

-- a thread's registered details have their ids after an end too
pub kept_ids : {R : Type 0} (accepts : R → ThreadKey → List Details → StreamFacts → R → Type 0)
    (refuses : R → ThreadKey → List Details → StreamFacts → Error → R → Type 0) (old new : Thread) (t : ℤ)
    (before after : R) (closed : Closed)
    → Closes accepts refuses old new t before after closed → AllHaveIds old.details → AllHaveIds new.details
kept_ids accepts refuses old new t before after Inner (inner_left, is_after, kept) ids =
    subst (λ (th : Thread). AllHaveIds th.details) (sym is_after) ids
kept_ids accepts refuses old new t before after Reported (last, is_after, accepted) ids =
    subst (λ (th : Thread). AllHaveIds th.details) (sym is_after) no_details_lack
kept_ids accepts refuses old new t before after (Kept e) (last, is_after, refused) ids =
    subst (λ (th : Thread). AllHaveIds th.details) (sym is_after) ids

-- what a new frame gives
pub Collects-from : (now seen : SessionState) (new : Collected)
    (result : Result (Option (Arc FrameData Global)) Error) → seen ≡ now
    → ((result ≡ Err IndexExhausted) ↔ (seen.collected.index ≡ 2 ^ 64 - 1))
    → IfOk result (λ frame. Collects seen.collected frame new)
    → IfOk result
    (λ frame. (now.collected.index ≢ 2 ^ 64 - 1)
    × (session_with_collected seen new ≡ session_with_collected now new) × Collects now.collected frame new)
Collects-from now seen new (Err e) same exhausted took = tt
Collects-from now seen new (Ok frame) same exhausted took =
    subst
    (λ (s : SessionState). (s.collected.index ≢ 2 ^ 64 - 1)
    × (session_with_collected seen new ≡ session_with_collected s new) × Collects s.collected frame new) same
    ((λ last. no_error (exhausted.1 last)), refl, took)
  where
    no_error : ◌≡◌ {A = Result (Option (Arc FrameData Global)) Error} (Ok frame) (Err IndexExhausted) → ⊥
    no_error e = cc

-- what a refused frame keeps
pub KeepsPending-from : (now seen : SessionState) (new : Collected)
    (result : Result (Option (Arc FrameData Global)) Error) → seen ≡ now
    → IfErr result (λ e. KeepsPending seen.collected e new)
    → IfErr result (λ e. (session_with_collected seen new ≡ session_with_collected now new) × KeepsPending now.collected e new)
KeepsPending-from now seen new (Ok frame) same keeps = tt
KeepsPending-from now seen new (Err e) same keeps =
    subst
    (λ (s : SessionState). (session_with_collected seen new ≡ session_with_collected s new)
    × KeepsPending s.collected e new) same (refl, keeps)

-- the index is exhausted only at its last value
pub last-from : (now seen : SessionState) (result : Result (Option (Arc FrameData Global)) Error) → seen ≡ now
    → ((result ≡ Err IndexExhausted) ↔ (seen.collected.index ≡ 2 ^ 64 - 1))
    → IfErr result (λ e. e ≡ IndexExhausted → now.collected.index ≡ 2 ^ 64 - 1)
last-from now seen (Ok frame) same exhausted = tt
last-from now seen (Err e) same exhausted = λ last. ap (λ (s : SessionState). s.collected.index) (sym same) ∙ exhausted.0 (ap Err last)

-- what is under an index of a list is the same for each default
same_default : (xs : List Thread) (t : ℕ) (d e : Thread) → t < length xs → get_or xs t d ≡ get_or xs t e
same_default [] t d e lt = absurd (omega arith)
same_default (x ∷ xs) zero d e lt = refl
same_default (x ∷ xs) (suc t) d e lt = same_default xs t d e (omega arith)

-- what ending a scope of one thread gives for its session
pub Ends-there : (now : SessionState) (threads : List Thread) (collected after : Collected) (t : ℕ)
    (thread new : Thread) (at : ℤ) (back : ℕ) (result : Result Closed Error) → session threads collected ≡ now
    → t < length threads → thread ≡ get_or threads t thread
    → OnOk result (back ≡ 0) → IfOk result (λ closed. EndsInnermost thread new at collected after closed)
    → IfOk result
    (λ closed. (t < length now.threads) × (back ≡ 0)
    × (session (set threads t new) after ≡ session_with_thread now t (get_or (set threads t new) t nobody) after)
    × EndsInnermost (session_thread now t) (get_or (set threads t new) t nobody) at now.collected after closed)
Ends-there now threads collected after t thread new at back (Err e) same lt read innermost ends = tt
Ends-there now threads collected after t thread new at back (Ok closed) same lt read innermost ends =
    let there : get_or (set threads t new) t nobody ≡ new = get_or-set_same threads t new nobody lt in
    let was : thread ≡ get_or threads t nobody = read ∙ same_default threads t thread nobody lt in
    subst
    (λ (s : SessionState). (t < length s.threads) × (back ≡ 0)
    × (session (set threads t new) after ≡ session_with_thread s t (get_or (set threads t new) t nobody) after)
    × EndsInnermost (session_thread s t) (get_or (set threads t new) t nobody) at s.collected after closed)
    same (
      lt,
      innermost,
      ap (λ (th : Thread). session (set threads t th) after) (sym there),
      subst (λ (th : Thread). EndsInnermost (get_or threads t nobody) th at collected after closed) (sym there)
          (subst (λ (th : Thread). EndsInnermost th new at collected after closed) was ends),
    )

-- what an accepted report of a user's scopes gives, and a refused one
pub Accepts-from : (now seen : SessionState) (after : Collected) (i given : ThreadKey) (r lent : StreamFacts)
    (f : Forest) (form : Form) (bytes : List ℕ) (result : Result (Unit {0}) Error) → seen ≡ now → AreHonestFacts r f
    → r.form ≡ form → r.bytes ≡ bytes → lent ≡ r → given ≡ i
    → OnOk result (AcceptsReport seen.collected given [] lent after)
    → OnOk result
    ((r : StreamFacts) × (f : Forest) × AreHonestFacts r f × (r.form ≡ form) × (r.bytes ≡ bytes)
    × AcceptsReport now.collected i [] r after
    × (session_with_collected seen after ≡ session_with_collected now after))
Accepts-from now seen after i given r lent f form bytes (Err e) same honest in_form read lends names took = tt
Accepts-from now seen after i given r lent f form bytes (Ok x) same honest in_form read lends names took =
    let here : AcceptsReport seen.collected i [] r after =
    subst (λ (q : StreamFacts). AcceptsReport seen.collected i [] q after) lends
    (subst (λ (j : ThreadKey). AcceptsReport seen.collected j [] lent after) names took) in (
      r,
      f,
      honest,
      in_form,
      read,
      subst (λ (s : SessionState). AcceptsReport s.collected i [] r after) same here,
      ap (λ (s : SessionState). session_with_collected s after) same,
    )

-- what a refused report gives
pub Refuses-from : (now seen : SessionState) (after : Collected) (i given : ThreadKey) (r lent : StreamFacts)
    (f : Forest) (form : Form) (bytes : List ℕ) (result : Result (Unit {0}) Error) → seen ≡ now → AreHonestFacts r f
    → r.form ≡ form → r.bytes ≡ bytes → lent ≡ r → given ≡ i
    → IfErr result (λ e. RefusesReport seen.collected given [] lent e after)
    → IfErr result
    (λ e. (e ≡ Memory) ⊎ IsFault form bytes e
    ⊎ ((r : StreamFacts) × (f : Forest) × AreHonestFacts r f × (r.form ≡ form) × (r.bytes ≡ bytes)
    × IsReportRefusal now.collected i [] r e))
Refuses-from now seen after i given r lent f form bytes (Ok x) same honest in_form read lends names refused = tt
Refuses-from now seen after i given r lent f form bytes (Err e) same honest in_form read lends names (refusal, unchanged) =
    inr
    (inr (
      r,
      f,
      honest,
      in_form,
      read,
      subst (λ (s : SessionState). IsReportRefusal s.collected i [] r e) same
          (subst (λ (q : StreamFacts). IsReportRefusal seen.collected i [] q e) lends
          (subst (λ (j : ThreadKey). IsReportRefusal seen.collected j [] lent e) names refusal)),
    ))

-- what a wanted snapshot gives
pub wanted-from : (now seen : SessionState) (new : Collected) → seen ≡ now → new ≡ after_wanting seen.collected
    → session_with_collected seen new ≡ session_with_collected now (after_wanting now.collected)
wanted-from now seen new same is =
    ap (session_with_collected seen) is
    ∙ ap (λ (s : SessionState). session_with_collected s (after_wanting s.collected)) same
