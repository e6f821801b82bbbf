-- What adding a frame does to a view.
use Rattle.std.specs.Prelude.{true, false, List, [], ◌∷◌, ◌++◌, ◌≡◌}
use Rattle.puffin_threads.specs.Details.Collection.{with_all_details, LearnsSome}
use Rattle.puffin_frames.specs.Packet.Stored.{PacketFields}
use Rattle.puffin_view.specs.View.ViewedFrames.{Frame, fields_of, index_of}
use Rattle.puffin_view.specs.View.FrameOf.{details_of_frame}
use Rattle.puffin_view.specs.View.{View, Holds, Took, is_past, after_taking, KeepsFrames}
use Rattle.puffin_view.specs.View.Known.{KnownView, view_of, collection_of, lacks_ids}

-- If the view held the last and the slowest of some frames, it now holds the last and the slowest of those frames and this one.
pub record HoldsAlso (frame : Frame) (old new : View) : Type 0 where
  -- for the frames that it took
  pub took : (taken : List PacketFields) → Took taken old →
      Took (taken ++ fields_of frame ∷ []) new
  -- for any two lists of frames, each extended by this one
  pub more : (for_recent for_slow : List PacketFields) → is_past old (index_of frame) ≡ false →
      Holds for_recent for_slow old →
      Holds (for_recent ++ fields_of frame ∷ []) (for_slow ++ fields_of frame ∷ []) new
  -- for this frame alone, after a reset
  pub anew : is_past old (index_of frame) ≡ true →
      Holds (fields_of frame ∷ []) (fields_of frame ∷ []) new

-- The view took a frame whose details all have ids, and added them to its collection.
pub record Adds (frame : Frame) (old new : KnownView) : Type 0 where
  pub frames : view_of new ≡ after_taking (view_of old) frame
  pub learnt : collection_of new
      ≡ with_all_details (collection_of old) (details_of_frame frame)
  pub ids : lacks_ids (fields_of frame) ≡ false

-- The view didn't take a frame. A prefix of the frame's details may be in its collection, and its newest frame may be packed.
pub record FailsToAdd (frame : Frame) (old new : KnownView) : Type 0 where
  pub frames : KeepsFrames (view_of old) (index_of frame) (view_of new)
  pub known : LearnsSome (collection_of old) (details_of_frame frame) (collection_of new)
