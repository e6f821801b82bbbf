-- Between two frame calls no sink is handed anything.
use Rattle.std.proofs.Common.{◌≡◌, ◌≢◌, ℕ, ℤ, Bool, true, false, List, Option, Some, None, Result, Ok, Err, inl, inr}
use Rattle.std.proofs.Common.{refl, ap, ◌∙◌, arith}
use Rattle.std.specs.Prelude.{slice_get}
use Rattle.std.proofs.lemmas.Bool.{cases_eq}
use Rattle.puffin_data.specs.declared.error.Error.{Error}
use Rattle.puffin_data.specs.Honesty.{StreamFacts}
use Rattle.puffin_threads.specs.declared.thread_profiler.reporter.Closed.{Closed}
use Rattle.puffin_threads.specs.declared.thread_profiler.reporter.Closed.TheVariants.{Inner, Reported, Kept}
use Rattle.puffin_threads.specs.Thread.ThreadProfiler.{thread_of}
use Rattle.puffin_threads.specs.Thread.ThreadKey.{ThreadKey}
use Rattle.puffin_threads.specs.Thread.Calls as calls
use Rattle.puffin_threads.specs.Thread.Calls.{after_end, key_of_thread, offsets_of}
use Rattle.puffin_threads.specs.Thread.Closing.{Closes, Reports}
use Rattle.puffin_threads.specs.Details.{Details}
use Rattle.puffin_scopes.specs.Guards.Guard.{offset_in}
use Rattle.puffin_scopes.specs.declared.guard_state.GuardState.{GuardState}
use Rattle.puffin.specs.declared.light.scopes.Place.{Place}
use Rattle.puffin.specs.declared.global_profiler.profiler.GlobalProfiler.{GlobalProfiler}
use Rattle.puffin.specs.declared.light.thread.Thread.{Thread}
use Rattle.puffin.specs.LightThread.{profiler_of, reporter_of}
use Rattle.puffin.specs.Guards.{BeginsAt, EndsIn, Leaves}
use Rattle.puffin.specs.Profiler.{sinks_of}
use Rattle.puffin_accounts.specs.Moments.{AcceptsThere, RefusesThere}
use Rattle.puffin_accounts.specs.Running.{Code, nothing, scope, Runs}

-- what no report changes, no code changes
module _ {C R X : Type 0} (answers : C → ℤ → C → Type 0)
    (accepts : R → ThreadKey → List Details → StreamFacts → R → Type 0)
    (refuses : R → ThreadKey → List Details → StreamFacts → Error → R → Type 0)
    (view : R → X) (accepted : (old : R) (i : ThreadKey) (ds : List Details) (r : StreamFacts) (new : R) → accepts old i ds r new
    → view new ≡ view old)
    (refused : (old : R) (i : ThreadKey) (ds : List Details) (r : StreamFacts) (e : Error) (new : R) → refuses old i ds r e new
    → view new ≡ view old) where
  closes_keeps : (old new : calls.Thread) (at : ℤ) (before after : R) (closed : Closed)
      → Closes accepts refuses old new at before after closed → view after ≡ view before
  closes_keeps old new at before after Inner h = ap view h.2
  closes_keeps old new at before after Reported h =
      accepted before (key_of_thread (after_end old at)) (after_end old at).details h.2.0 after h.2.2
  closes_keeps old new at before after (Kept e) h =
      refused before (key_of_thread (after_end old at)) (after_end old at).details h.2.0 e after h.2.2

  ends_keep : (offset : ℕ) (old new : Thread C R) → EndsIn answers accepts refuses old offset new
      → view (reporter_of new) ≡ view (reporter_of old)
  ends_keep offset old new ends = at_place (slice_get (offsets_of (thread_of (profiler_of old))) 0) refl
    where
      not_here : (slice_get (offsets_of (thread_of (profiler_of old))) 0 ≢ Some offset)
          → view (reporter_of new) ≡ view (reporter_of old)
      not_here other = ap view (ends.ends.other other).1

      at_place : (o : Option ℕ) → slice_get (offsets_of (thread_of (profiler_of old))) 0 ≡ o
          → view (reporter_of new) ≡ view (reporter_of old)
      at_place None is = not_here (λ e. cc)
      at_place (Some k) is = elim (cases_eq k offset) [
        | inl e ↦ (let end = ends.ends.innermost (is ∙ ap Some e) in
            closes_keeps (thread_of (profiler_of old)) (thread_of (profiler_of new)) end.at (reporter_of old)
            (reporter_of new) end.closed end.closes)
        | inr ne ↦ not_here (λ e. let same : k ≡ offset = cc in omega (arith, same, ne))
      ]

  leaves_keep : (offset : Option ℕ) (old new : Thread C R) → Leaves (EndsIn answers accepts refuses) offset old new
      → view (reporter_of new) ≡ view (reporter_of old)
  leaves_keep None old new same = ap (λ t. view (reporter_of t)) same
  leaves_keep (Some offset) old new ends = ends_keep offset old new ends

  reports_keep : (old new : calls.Thread) (before after : R) (answer : Result Bool Error)
      → Reports accepts refuses old new before after answer → view after ≡ view before
  reports_keep old new before after (Ok false) h = ap view h.2
  reports_keep old new before after (Ok true) h = accepted before (key_of_thread old) old.details h.2.0 after h.2.2
  reports_keep old new before after (Err e) (same, inl opened) = ap view opened.2
  reports_keep old new before after (Err e) (same, inr (waits, inl memory)) = ap view memory.1
  reports_keep old new before after (Err e) (same, inr (waits, inr r)) = refused before (key_of_thread old) old.details r.0 e after r.2

  begins_keep : (place : Place) (text : List ℕ) (state : GuardState) (old new : Thread C R)
      → BeginsAt answers accepts refuses old place text state new → view (reporter_of new) ≡ view (reporter_of old)
  begins_keep place text state old new (ready, inl same, there) = ap view there.reporter ∙ ap (λ t. view (reporter_of t)) same
  begins_keep place text state old new (ready, inr room, there) =
      ap view there.reporter ∙ reports_keep (thread_of (profiler_of old)) (thread_of (profiler_of ready)) (reporter_of old)
      (reporter_of ready) room.answer room.reports

  pub code_keeps : (code : Code) (old new : Thread C R)
      → Runs (BeginsAt answers accepts refuses) (EndsIn answers accepts refuses) code old new
      → view (reporter_of new) ≡ view (reporter_of old)
  code_keeps nothing old new same = ap (λ t. view (reporter_of t)) same
  code_keeps (scope place text within after) old new (state, begun, left, ended, begins, inner, leaves, later) =
      code_keeps after ended new later ∙ leaves_keep (offset_in state) left ended leaves ∙ code_keeps within begun left inner
      ∙ begins_keep place text state old begun begins

-- so the sinks are handed just the frames of the frame calls
pub code_keeps_sinks : {C I : Type 0} {F : I → Type 0} (answers : C → ℤ → C → Type 0)
    (code : Code) (old new : Thread C (GlobalProfiler I F))
    → Runs (BeginsAt answers AcceptsThere RefusesThere) (EndsIn answers AcceptsThere RefusesThere) code old new
    → sinks_of (reporter_of new) ≡ sinks_of (reporter_of old)
code_keeps_sinks answers = code_keeps answers AcceptsThere RefusesThere sinks_of (λ old i ds r new h. h.1) (λ old i ds r e new h. h.1)
