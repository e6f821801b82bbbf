-- A collector may be sent to another thread.
use denote.Param.Send.{IsSend, sendable}
use Rattle.std.proofs.Crossing.{crosses}
use Rattle.std.proofs.MapsCrossing as maps
use Rattle.puffin_data.proofs.lemmas.Sending.{stream_send, stream_sync}
use Rattle.puffin_collector.specs.contracts.collector.Collector as Collector

pub collector_send : IsSend Collector.the_row
collector_send = search (stream_send, stream_sync, maps.crosses, crosses, sendable) depth 60 fits 100000
