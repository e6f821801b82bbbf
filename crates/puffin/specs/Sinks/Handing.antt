-- What happens to each sink when a frame is handed to all of them.
use Rattle.std.specs.Prelude.{◌≡◌, ℕ, List, [], ◌∷◌, Result, Ok, Err, Option, Some, None, sum_by}
use Rattle.std.specs.declared.alloc.Global.{Global}
use Rattle.std.specs.declared.dyn_box.DynBox.{DynBox}
use Rattle.std.specs.DynBox.{dyn_box_with}
use Rattle.std.specs.Arc.{arc_value}
use Rattle.std.specs.declared.sync.Arc.{Arc}
use Rattle.puffin_data.specs.declared.error.Error.{Error}
use Rattle.puffin_frames.specs.declared.frame_data.frame.FrameData.{FrameData}
use Rattle.puffin.specs.declared.global_profiler.sinks.SinkEntry.{SinkEntry}
use Rattle.puffin.specs.declared.global_profiler.sink.Sink.{Sink}
use Rattle.puffin.specs.declared.global_profiler.sink.Sink.TheVariants.{View, Boxed}
use Rattle.puffin.specs.declared.global_profiler.handing.Outcome.{Outcome}
use Rattle.puffin.specs.declared.global_profiler.handing.Outcome.TheVariants.{Accepted, Refused, NoCopy}

-- 1 for an outcome that counts as a refusal, else 0
abbrev pub refusal : Outcome → ℕ
refusal Accepted = 0
refusal Refused = 1
refusal NoCopy = 1

-- `accepts` is what `FrameSink::accepts` relates, for the sink in any box.
module _ {I : Type 0} {F : I → Type 0}
    (accepts : (boxed : DynBox I Global F) → F boxed.vtable → FrameData → Result (Unit {0}) Error →
    F boxed.vtable → Type 0) where
  -- the sink in a box returned this result for this frame, and `boxed_then` is the box after that
  abbrev pub Answers : DynBox I Global F → FrameData → Result (Unit {0}) Error →
      DynBox I Global F → Type 0
  Answers boxed frame result boxed_then =
      (sink_then : F boxed.vtable)
      × accepts boxed boxed.value frame result sink_then
      × (boxed_then ≡ dyn_box_with boxed boxed.vtable sink_then)

  -- One sink after an outcome. A view is still the same shared view; what it holds is left open.
  abbrev pub HandedTo : FrameData → Sink I F → Outcome → Sink I F → Type 0
  HandedTo frame (View view) outcome new = new ≡ View view
  HandedTo frame (Boxed boxed) Accepted new =
      (boxed_then : DynBox I Global F) × Answers boxed frame (Ok tt) boxed_then × (new ≡ Boxed boxed_then)
  HandedTo frame (Boxed boxed) Refused new =
      (boxed_then : DynBox I Global F) × (error : Error)
      × Answers boxed frame (Err error) boxed_then
      × (new ≡ Boxed boxed_then)
  HandedTo frame (Boxed boxed) NoCopy new = new ≡ Boxed boxed

  -- all sinks after their outcomes, one outcome for each sink, in order
  abbrev pub Handed : FrameData → List (SinkEntry I F) → List Outcome → List (SinkEntry I F) → Type 0
  Handed frame [] [] [] = Unit {0}
  Handed frame (old ∷ olds) (outcome ∷ outcomes) (new ∷ news) =
      (new.id ≡ old.id) × HandedTo frame old.sink outcome new.sink × Handed frame olds outcomes news
  Handed frame _ _ _ = ⊥

  -- a frame is handed to all sinks, and this number of them didn't take it
  abbrev pub HandsOn : FrameData → List (SinkEntry I F) → ℕ → List (SinkEntry I F) → Type 0
  HandsOn frame old refused new =
      (outcomes : List Outcome)
      × Handed frame old outcomes new
      × (refused ≡ sum_by refusal outcomes)

  -- a frame, if there is one, is handed to all sinks; if there is none, no sink changes, and none refuses
  abbrev pub HandsOnAny : {A : Type 0} → Option (Arc FrameData A) → List (SinkEntry I F) → ℕ →
      List (SinkEntry I F) → Type 0
  HandsOnAny None old refused new = (new ≡ old) × (refused ≡ 0)
  HandsOnAny (Some frame) old refused new = HandsOn (arc_value frame) old refused new
