-- What handles hold, and calls on it that are refused.
use Rattle.std.proofs.Common.{◌≡◌, ◌⊎◌, ℕ, List, refl, sym, ap, ◌∙◌, subst, inl, inr}
use mathlib.Core.Bool.{Bool, true, false, true≢false}
use Rattle.std.specs.Prelude.{Option, Some, None, is_some, Result, Ok, Err, OnErr}
use Rattle.std.specs.Str.{IsUtf8}
use Rattle.puffin_data.specs.declared.error.Error.{Error}
use Rattle.puffin_data.specs.declared.error.Error.TheVariants as error
use Rattle.puffin_data.specs.declared.data.form.Form.{Form}
use Rattle.puffin_data.specs.declared.file_error.FileError.{FileError}
use Rattle.puffin_data.specs.declared.file_error.FileError.TheVariants as file
use Rattle.puffin_data.specs.Walk.{IsFault}
use Rattle.puffin_threads.specs.Thread.ThreadKey.{ThreadKey}
use Rattle.puffin_threads.specs.Thread.Calls.{Thread}
use Rattle.puffin_threads.specs.Thread.Closing.{Reports}
use Rattle.puffin_collector.specs.Collector.State.{Collected, AcceptsReport, RefusesReport}
use Rattle.puffin_c.specs.declared.fault.Fault.{Fault}
use Rattle.puffin_c.specs.declared.fault.Fault.TheVariants as fault
use Rattle.puffin_c.specs.declared.profiler.Profiler.{Profiler}
use Rattle.puffin_c.specs.Faults.{file_fault}
use Rattle.puffin_c.specs.Recording.{IsNoText}
use Rattle.puffin_c.specs.declared.unread.Piece.{Piece}
use Rattle.puffin_c.specs.Profiling.{TakesOwn, HasLong}

-- what the handle's flag says of what it holds
pub nothing_held : {X : Type 0} (held : Option X) (is_open : Bool) → is_open ≡ is_some held → is_open ≡ false → held ≡ None
nothing_held None is_open tells fails = refl
nothing_held (Some x) is_open tells fails = absurd (true≢false (sym tells ∙ fails))

pub something_held : {X : Type 0} (held : Option X) (is_open : Bool) → is_open ≡ is_some held → is_open ≡ true →
    (x : X) × (held ≡ Some x)
something_held None is_open tells holds = absurd (true≢false (sym holds ∙ tells))
something_held (Some x) is_open tells holds = (x, refl)

-- what holds anyway holds on a failure
pub on_err : {X : Type 0} (r : Result X Error) (P : Type 0) → P → OnErr r P
on_err (Ok x) P h = tt
on_err (Err e) P h = h

-- a report that is refused leaves thread and profiler
pub refusal_keeps : (old new : Thread) (before after : Collected) (e : Error) →
    Reports AcceptsReport RefusesReport old new before after (Err e) → (new ≡ old) × (after ≡ before)
refusal_keeps old new before after e (same, inl (begun, scopes_open, unchanged)) = (same, unchanged)
refusal_keeps old new before after e (same, inr (waits, inl (memory, unchanged))) = (same, unchanged)
refusal_keeps old new before after e (same, inr (waits, inr (facts, is, (refusal, unchanged)))) = (same, unchanged)

-- the same report, of what equals its thread and its profiler
pub reported_so : (thread now new : Thread) (held here : Profiler) (after : Collected) (result : Result Bool Error) →
    now ≡ thread → here ≡ held → Reports AcceptsReport RefusesReport now new here.collector after result →
    Reports AcceptsReport RefusesReport thread new held.collector after result
reported_so thread now new held here after result same_thread same_profiler reports =
    subst (λ (t : Thread). Reports AcceptsReport RefusesReport t new held.collector after result) same_thread
    (subst (λ (p : Profiler). Reports AcceptsReport RefusesReport now new p.collector after result) same_profiler reports)

-- the same refusal, which leaves both
pub refused_so : (thread now new : Thread) (held here : Profiler) (after : Collected) (cause : Error) →
    now ≡ thread → here ≡ held → Reports AcceptsReport RefusesReport now new here.collector after (Err cause) →
    Reports AcceptsReport RefusesReport thread thread held.collector held.collector (Err cause)
refused_so thread now new held here after cause same_thread same_profiler refuses =
    let (kept_thread, kept_collector) = refusal_keeps now new here.collector after cause refuses in
    reported_so thread now thread held here held.collector (Err cause) same_thread same_profiler
    (subst (λ (t : Thread). Reports AcceptsReport RefusesReport now t here.collector held.collector (Err cause))
    (kept_thread ∙ same_thread)
    (subst (λ (collected : Collected). Reports AcceptsReport RefusesReport now new here.collector collected (Err cause))
    (kept_collector ∙ ap (λ (p : Profiler). p.collector) same_profiler) refuses))

-- why a file or a packet isn't made
pub piece_refusal : (piece : Piece) (here q : Profiler) (e : FileError) (f : Fault) → here ≡ q → f ≡ file_fault e →
    (((e ≡ file.PartTooLong) × HasLong piece here) ⊎ (e ≡ file.Memory) ⊎ (e ≡ file.Io)) →
    (f ≡ fault.Refused error.Memory) ⊎ ((f ≡ fault.File file.PartTooLong) × HasLong piece q)
piece_refusal piece here q e f same is (inl (long, any)) = inr (is ∙ ap file_fault long, subst (HasLong piece) same any)
piece_refusal piece here q e f same is (inr (inl memory)) = inl (is ∙ ap file_fault memory)
piece_refusal piece here q e f same is (inr (inr io)) = inl (is ∙ ap file_fault io)

-- scopes of the program's own whose name is refused
pub name_refused : (old : Option Profiler) (held : (profiler : Profiler) × (old ≡ Some profiler)) (key : ThreadKey)
    (form : Form) (bytes : List ℕ) (returned cause : Fault) → returned ≡ cause → IsNoText key.name cause →
    TakesOwn old key form bytes old (Err returned)
name_refused old (profiler, held) key form bytes returned cause same (inl (is, not_text)) =
    (refl, inr (profiler, held, inl (same ∙ is, not_text)))
name_refused old (profiler, held) key form bytes returned cause same (inr (memory, text)) =
    (refl, inr (profiler, held, inr (text, error.Memory, same ∙ memory, inl refl)))

-- scopes of the program's own whose bytes are refused
pub bytes_refused : (old : Option Profiler) (held : (profiler : Profiler) × (old ≡ Some profiler)) (key : ThreadKey)
    (form : Form) (bytes : List ℕ) (returned : Fault) (cause : Error) → IsUtf8 key.name → returned ≡ fault.Refused cause →
    (cause ≡ error.Memory) ⊎ IsFault form bytes cause → TakesOwn old key form bytes old (Err returned)
bytes_refused old (profiler, held) key form bytes returned cause text same (inl memory) =
    (refl, inr (profiler, held, inr (text, cause, same, inl memory)))
bytes_refused old (profiler, held) key form bytes returned cause text same (inr first) =
    (refl, inr (profiler, held, inr (text, cause, same, inr (inl first))))
