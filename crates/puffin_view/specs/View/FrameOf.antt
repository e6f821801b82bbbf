-- The frames of the code as a view's model holds them.
use Rattle.std.specs.Prelude.{List, map, is_some}
use Rattle.std.specs.Borrow.{Bor}
use Rattle.std.specs.Arc.{arc_value}
use Rattle.std.specs.declared.sync.Arc.{Arc}
use Rattle.puffin_frames.specs.declared.frame_data.frame.FrameData.{FrameData}
use Rattle.puffin_frames.specs.Frame.Contents.{packet_fields, holding_of}
use Rattle.puffin_threads.specs.Details.{Details}
use Rattle.puffin_view.specs.View.ViewedFrames.{Frame}

-- a frame, as a view sees it
abbrev pub frame_of : FrameData → Frame
frame_of frame = record {
  fields = packet_fields frame;
  is_unpacked = is_some (holding_of frame).unpacked;
  is_packed = is_some (holding_of frame).packed;
}

-- the same of a frame behind an `Arc`
abbrev pub shared_frame : {A : Type 0} → Arc FrameData A → Frame
shared_frame arc = frame_of (arc_value arc)

abbrev pub frames_of : {A : Type 0} → List (Arc FrameData A) → List Frame
frames_of arcs = map shared_frame arcs

-- the details of a frame
abbrev pub details_of_frame : Frame → List Details
details_of_frame frame = frame.fields.details

-- borrowed frames, as a view sees them
abbrev pub lent_frames : {A : Type 0} → List (Bor (Arc FrameData A)) → List Frame
lent_frames arcs = map (λ lent. shared_frame lent.now) arcs
