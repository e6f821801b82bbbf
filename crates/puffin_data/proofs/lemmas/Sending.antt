-- A stream may be sent to another thread, and lent to several.
use denote.Param.Send.{IsSend, IsSync, sendable}
use Rattle.std.proofs.Crossing.{crosses}
use Rattle.puffin_data.specs.contracts.data.stream.Stream as Stream

pub stream_send : IsSend Stream.the_row
stream_send = search (crosses, sendable) depth 60 fits 100000

pub stream_sync : IsSync Stream.the_row
stream_sync = search (crosses, sendable) depth 60 fits 100000
