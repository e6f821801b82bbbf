-- A frame may be sent to another thread, and lent to several.
use denote.Param.Send.{IsSend, IsSync, sendable}
use Rattle.std.proofs.Crossing.{crosses}
use Rattle.std.proofs.MapsCrossing as maps
use Rattle.puffin_data.proofs.lemmas.Sending.{stream_send, stream_sync}
use Rattle.puffin_frames.specs.contracts.frame_data.frame.FrameData as Frame

pub frame_send : IsSend Frame.the_row
frame_send = search (stream_send, maps.crosses, crosses, sendable) depth 60 fits 100000

pub frame_sync : IsSync Frame.the_row
frame_sync = search (stream_sync, maps.crosses, crosses, sendable) depth 60 fits 100000
