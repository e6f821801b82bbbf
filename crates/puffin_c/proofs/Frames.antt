-- Frames that are collected, wait, and are taken.
use Rattle.std.proofs.Common.{◌≡◌, ◌⊎◌, ◌↔◌, refl, sym, ap, ◌∙◌, subst, inl, inr}
use mathlib.Core.Bool.{Bool, true, false, true≢false}
use Rattle.std.specs.Prelude.{Option, Some, None, is_some, Result, Err}
use Rattle.std.specs.Arc.{arc_value}
use Rattle.std.specs.List.{list_any}
use Rattle.std.specs.Option.{option_map}
use Rattle.puffin_data.specs.declared.error.Error.{Error}
use Rattle.puffin_data.specs.declared.error.Error.TheVariants.{MissingId, Memory}
use Rattle.puffin_threads.specs.Details.{lacks_id, AllHaveIds}
use Rattle.puffin_threads.proofs.lemmas.Ids.{all_have}
use Rattle.puffin_frames.specs.declared.frame_data.frame.FrameData.{FrameData}
use Rattle.puffin_frames.specs.Frame.Contents.{frame_details}
use Rattle.puffin_view.specs.declared.profile_view.frame_view.FrameView.{FrameView}
use Rattle.puffin_view.specs.View.{View, KeepsFrames}
use Rattle.puffin_view.specs.View.ViewedFrames.{index_of}
use Rattle.puffin_view.specs.View.FrameOf.{frame_of}
use Rattle.puffin_view.specs.View.Known.{view_of}
use Rattle.puffin_c.specs.declared.profiler.Profiler.{Profiler}
use Rattle.puffin_c.specs.declared.profiler.Waiting.{Waiting}
use Rattle.puffin_c.specs.Profiling.{waiting_frame, IsNext, HasNone, IsCollected, IsLeft}

abbrev frame_in : Waiting → FrameData
frame_in waiting = arc_value waiting.frame

-- if the flag says that a frame waits, there is one
pub waits : (is_waiting : Option Waiting) (flag : Bool) → flag ≡ is_some is_waiting → flag ≡ true →
    (frame : FrameData) × (option_map frame_in is_waiting ≡ Some frame)
waits None flag tells holds = absurd (true≢false (sym holds ∙ tells))
waits (Some waiting) flag tells holds = (frame_in waiting, refl)

-- if it says that none waits, there is none
pub none_waits : (is_waiting : Option Waiting) (flag : Bool) → flag ≡ is_some is_waiting → flag ≡ false →
    option_map frame_in is_waiting ≡ None
none_waits None flag tells fails = refl
none_waits (Some waiting) flag tells fails = absurd (true≢false (sym tells ∙ fails))

-- `Some` is injective
value_or : {X : Type 0} → X → Option X → X
value_or other None = other
value_or other (Some value) = value

some_injective : {X : Type 0} {x y : X} → Some x ≡ Some y → x ≡ y
unfolding value_or
some_injective {X} {x} {y} same = ap (value_or x) same

-- what is none isn't some
none_is_some : {X : Type 0} {x : X} → None ≡ Some x → ⊥
none_is_some {X} {x} same = true≢false (sym (ap (λ (o : Option X). is_some o) same))

-- the frame that waits once frames are collected is the next one
pub the_next : (old mid : Profiler) (frame : FrameData) → IsCollected old mid → waiting_frame mid ≡ Some frame →
    IsNext old frame mid.collector
the_next old mid frame collected waiting = next_in collected.outcome
  where
    next_in : HasNone old mid
        ⊎ ((other : FrameData) × IsNext old other mid.collector × (waiting_frame mid ≡ Some other)) →
        IsNext old frame mid.collector
    next_in (inl none) = absurd (none_is_some (sym none.none_waits ∙ waiting))
    next_in (inr (other, next, other_waits)) =
        subst (λ (f : FrameData). IsNext old f mid.collector) (some_injective (sym other_waits ∙ waiting)) next

-- A frame that was collected, and that the view then didn't take because memory ran out, still waits, as `IsLeft` says.
pub still_waits : (old mid new : Profiler) (cause : Error) (frame : FrameData) → IsCollected old mid →
    waiting_frame mid ≡ Some frame → new.collector ≡ mid.collector → waiting_frame new ≡ waiting_frame mid →
    new.unread ≡ mid.unread → KeepsFrames (view_of mid.view) (index_of (frame_of frame)) (view_of new.view) →
    cause ≡ Memory → IsLeft old new cause
still_waits old mid new cause frame collected waiting same_collector same_waiting unread keeps memory = (
  unread ∙ collected.unread,
  inr (record {
    memory = memory;
    frame = frame;
    next = subst (IsNext old frame) (sym same_collector) (the_next old mid frame collected waiting);
    waits = same_waiting ∙ waiting;
    frames = subst (λ (v : View). KeepsFrames v (index_of (frame_of frame)) (view_of new.view))
        (ap (λ (v : FrameView). view_of v) collected.view) keeps;
  }),
)

-- ---- ids

-- a frame that was collected tells only ids
pub tells_ids : (frame : FrameData) → AllHaveIds (frame_details frame) → list_any lacks_id (frame_details frame) ≡ false
tells_ids frame all = all_have (frame_details frame) all

-- a view that refuses a frame whose details have ids lacks memory
pub memory_alone : {T : Type 0} (result : Result T Error) (cause : Error) (missing : Bool) → result ≡ Err cause →
    missing ≡ false → ((result ≡ Err MissingId) ↔ (missing ≡ true)) → (cause ≡ MissingId) ⊎ (cause ≡ Memory) →
    cause ≡ Memory
memory_alone result cause missing is_err none iff (inl lacks_id) =
    absurd (true≢false (sym (iff.0 (is_err ∙ ap Err lacks_id)) ∙ none))
memory_alone result cause missing is_err none iff (inr memory) = memory
