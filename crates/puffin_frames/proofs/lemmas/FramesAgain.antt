-- Each frame is held in some way, and its streams are read again from what it holds.
use Rattle.std.proofs.Common.{◌≡◌}
use Rattle.puffin_frames.specs.declared.frame_data.frame.FrameData.{FrameData}
use Rattle.puffin_frames.specs.Frame.Contents.{holding_of, frame_streams}
use Rattle.puffin_frames.specs.Frame.Holding.{IsHolding, streams_in, packing_of}
use Rattle.puffin_frames.proofs.Packings.{pack-keeps}
use Rattle.puffin_frames.proofs.Layouts.{frame_so}

pub frame_holds : (frame : FrameData) → IsHolding (holding_of frame)
frame_holds frame = frame_so frame

pub frame_again : (frame : FrameData) → streams_in (packing_of (holding_of frame)) ≡ frame_streams frame
frame_again frame = pack-keeps (holding_of frame) (frame_so frame)
