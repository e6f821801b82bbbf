-- What a view holds may be sent to another thread.
use denote.Param.Send.{IsSend, sendable}
use Rattle.std.proofs.Crossing.{crosses}
use Rattle.std.proofs.MapsCrossing as maps
use Rattle.puffin_frames.proofs.lemmas.Sending.{frame_send, frame_sync}
use Rattle.puffin_view.specs.contracts.profile_view.held_frames.HeldFrames as Held
use Rattle.puffin_view.specs.contracts.profile_view.slow_rank.SlowRank as Rank

-- ranks may be sent to another thread
pub rank_send : IsSend Rank.the_row
rank_send = search (maps.crosses, crosses, sendable) depth 60 fits 100000

-- frames that are held may be sent to another thread
pub held_send : IsSend Held.the_row
held_send = search (frame_send, frame_sync, maps.crosses, crosses, sendable) depth 60 fits 100000
