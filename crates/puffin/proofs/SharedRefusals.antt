-- What remains of a refusal where the state that it speaks of is forgotten.
use Rattle.std.proofs.Common.{◌≡◌, List, [], Result, Ok, Err, inl, inr}
use Rattle.std.specs.Prelude.{OnOk, IfErr}
use Rattle.std.proofs.lemmas.List.Elements.{All-nil}
use Rattle.puffin_data.specs.declared.error.Error.{Error}
use Rattle.puffin_data.specs.Honesty.{StreamFacts}
use Rattle.puffin_threads.specs.Thread.ThreadKey.{ThreadKey}
use Rattle.puffin_threads.specs.Details.{Details, AllHaveIds}
use Rattle.puffin_collector.specs.Collector.State.{Collected, AcceptsReport, IsSumRefusal, IsReportRefusal}
use Rattle.puffin_collector.specs.Collector.Collecting.{KeepsPending}
use Rattle.puffin_collector.specs.Collector.Registering.{AddsSome}
use Rattle.puffin.specs.SharedCauses.{IsReportCause, IsScopesCause, IsFrameCause, IsAddingCause}

-- the cause of a refused report is one that a shared profiler returns
sum_cause : (c : Collected) (r : StreamFacts) (e : Error) → IsSumRefusal c r e → IsScopesCause e
sum_cause c r e (inl large) = inr (inl large.0)
sum_cause c r e (inr (inl long)) = inr (inr (inl long.0))
sum_cause c r e (inr (inr memory)) = inr (inr (inr memory.0))

report_cause : (c : Collected) (i : ThreadKey) (ds : List Details) (r : StreamFacts) (e : Error) → IsReportRefusal c i ds r e
    → IsReportCause ds e
report_cause c i ds r e (inl missing) = inl missing
report_cause c i ds r e (inr (inl unlike)) = inr (unlike.1, inl unlike.0)
report_cause c i ds r e (inr (inr sums)) = inr (sums.0, sum_cause c r e sums.2)

scopes_cause : (e : Error) → IsReportCause [] e → IsScopesCause e
scopes_cause e (inl missing) = absurd (missing.1 (All-nil _))
scopes_cause e (inr cause) = cause.1

pub report_refused : {T : Type 0} (r : Result T Error) (old new : Collected) (i : ThreadKey) (ds : List Details)
    (times : StreamFacts) → IfErr r (λ e. IsReportRefusal old i ds times e × (new ≡ old)) → IfErr r (λ e. IsReportCause ds e)
report_refused (Ok x) old new i ds times none = tt
report_refused (Err e) old new i ds times (refusal, same) = report_cause old i ds times e refusal

pub scopes_refused : {T : Type 0} (r : Result T Error) (old new : Collected) (i : ThreadKey) (times : StreamFacts)
    → IfErr r (λ e. IsReportRefusal old i [] times e × (new ≡ old)) → IfErr r IsScopesCause
scopes_refused (Ok x) old new i times none = tt
scopes_refused (Err e) old new i times (refusal, same) = scopes_cause e (report_cause old i [] times e refusal)

pub report_accepted : {T : Type 0} (r : Result T Error) (old new : Collected) (i : ThreadKey) (ds : List Details)
    (times : StreamFacts) → OnOk r (AcceptsReport old i ds times new) → OnOk r (AllHaveIds ds)
report_accepted (Ok x) old new i ds times accepted = accepted.1
report_accepted (Err e) old new i ds times none = tt

-- and that of a frame that couldn't be taken
frame_cause : (old new : Collected) (e : Error) → KeepsPending old e new → IsFrameCause e
frame_cause old new e (inl exhausted) = inl exhausted.0
frame_cause old new e (inr memory) = inr memory.0

pub frame_refused : {T : Type 0} (r : Result T Error) (old new : Collected) → IfErr r (λ e. KeepsPending old e new)
    → IfErr r IsFrameCause
frame_refused (Ok x) old new none = tt
frame_refused (Err e) old new kept = frame_cause old new e kept

-- and that of scopes that couldn't be registered
adding_cause : (old new : Collected) (ds : List Details) (e : Error) → AddsSome old ds e new → IsAddingCause e
adding_cause old new ds e (added, (part, rest, ids, is, registers, (inl memory)), after) = inr memory
adding_cause old new ds e (added, (part, rest, ids, is, registers, (inr exhausted)), after) = inl exhausted.0

pub adding_refused : {T : Type 0} (r : Result T Error) (old new : Collected) (ds : List Details)
    → IfErr r (λ e. AddsSome old ds e new) → IfErr r IsAddingCause
adding_refused (Ok x) old new ds none = tt
adding_refused (Err e) old new ds some = adding_cause old new ds e some
