-- The frames that a run emits, and what a view makes of them.
use Rattle.std.specs.Prelude.{◌≡◌, List, [], ◌∷◌, ◌++◌, map, Option, Some, None}
use Rattle.std.specs.List.{flat_map}
use Rattle.std.specs.declared.sync.Arc.{Arc}
use Rattle.std.specs.declared.alloc.Global.{Global}
use Rattle.puffin_frames.specs.declared.frame_data.frame.FrameData.{FrameData}
use Rattle.puffin_threads.specs.Details.Collection.{with_all_details, LearnsSome}
use Rattle.puffin_view.specs.declared.profile_view.frame_view.FrameView.{FrameView}
use Rattle.puffin_frames.specs.Packet.Stored.{PacketFields}
use Rattle.puffin_view.specs.View.ViewedFrames.{Frame, fields_of, index_of}
use Rattle.puffin_view.specs.View.FrameOf.{shared_frame, details_of_frame}
use Rattle.puffin_view.specs.View.{View, Took, after_all, KeepsFrames}
use Rattle.puffin_view.specs.View.Known.{view_of, collection_of}
use Rattle.puffin_view.specs.View.File.{fields_held, fields_in}
use Rattle.puffin_session.specs.declared.command.Reply.{Reply}
use Rattle.puffin_session.specs.declared.command.Reply.TheVariants as reply
use Rattle.puffin_report.specs.Summary.{NoneLacksIds}

-- ---- the frames of a run

-- the frame, if there is one
abbrev pub frame_in : Option (Arc FrameData Global) → List Frame
frame_in None = []
frame_in (Some frame) = shared_frame frame ∷ []

-- the frame in a reply, if any
abbrev pub emitted_by : Reply → List Frame
emitted_by (reply.Frame emitted) = frame_in emitted.frame
emitted_by _ = []

-- the emitted frames, in order
abbrev pub frames_emitted : List Reply → List Frame
frames_emitted replies = flat_map emitted_by replies

-- ---- what a view makes of them

-- The view took these frames, in order, and knows the details that they list.
pub record Takes (frames : List Frame) (old new : FrameView) : Type 0 where
  pub taken : view_of new ≡ after_all (view_of old) frames
  pub details : collection_of new
      ≡ with_all_details (collection_of old) (flat_map details_of_frame frames)

-- The view took a prefix of these frames, and memory ran out for the next one. The view knows a prefix of the details that the
-- next one lists, and its newest frame may be packed, as it would have been.
pub record TakesSome (frames : List Frame) (old new : FrameView) : Type 0 where
  pub front : List Frame
  pub next : Frame
  pub rest : List Frame
  pub split : frames ≡ front ++ (next ∷ rest)
  pub taken : KeepsFrames (after_all (view_of old) front) (index_of next) (view_of new)
  pub details : LearnsSome (with_all_details (collection_of old) (flat_map details_of_frame front))
      (details_of_frame next) (collection_of new)

-- a view that took a list of frames has taken these as well
abbrev pub TookAlso : List Frame → View → View → Type 0
TookAlso frames old new =
    (earlier : List PacketFields) → Took earlier old → Took (earlier ++ map fields_of frames) new

-- if all details that a view held had ids, then so do those that it holds now
abbrev pub HoldsIds : View → View → Type 0
HoldsIds old new = NoneLacksIds (fields_held old) → NoneLacksIds (fields_held new)

-- and so do those that its file lists
abbrev pub ListsIds : View → View → Type 0
ListsIds old new = NoneLacksIds (fields_held old) → NoneLacksIds (fields_in new)
