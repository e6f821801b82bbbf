-- A scope collection may be sent to another thread.
use denote.Param.Send.{IsSend, sendable}
use Rattle.std.proofs.Crossing.{crosses}
use Rattle.std.proofs.MapsCrossing as maps
use Rattle.puffin_threads.specs.contracts.scope_details.collection.ScopeCollection as Collection

pub collection_send : IsSend Collection.the_row
collection_send = search (maps.crosses, crosses, sendable) depth 60 fits 100000
