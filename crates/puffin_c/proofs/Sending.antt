-- What handles hold may be sent to another thread.
use denote.Param.Send.{IsSend, IsSync, struct_send, recorded_send, sendable}
use denote.Struct.Declared.{shape}
use Rattle.std.proofs.Crossing.{crosses}
use Rattle.std.proofs.MapsCrossing as maps
use Rattle.puffin_threads.proofs.lemmas.Sending.{collection_send}
use Rattle.puffin_frames.proofs.lemmas.Sending.{frame_send, frame_sync}
use Rattle.puffin_view.proofs.lemmas.Sending.{held_send, rank_send}
use Rattle.puffin_collector.proofs.lemmas.Sending.{collector_send}
use Rattle.puffin_threads.specs.contracts.scope_details.ids.ScopeIds as ScopeIds
use Rattle.puffin_view.specs.contracts.profile_view.frame_view.FrameView as View
use Rattle.puffin_collector.specs.contracts.collector.Collector as Collector
use Rattle.puffin_c.specs.contracts.shared_ids.SharedIds as Shared
use Rattle.puffin_c.specs.contracts.profiler.Profiler as profiler
use Rattle.puffin_c.specs.contracts.profiler.Waiting as Waiting
use Rattle.puffin_c.specs.contracts.recorder.Recorder as Recorder
use Rattle.puffin_c.specs.declared.held.Held.{Held}
use Rattle.puffin_c.specs.declared.held.Held.TheVariants.{Ids, Thread, Profiler}
use Rattle.puffin_c.specs.Owning.{row_of}

-- each value that a handle may hold, field by field
pub ids_send : IsSend ScopeIds.the_row
ids_send = search (crosses, sendable) depth 60 fits 100000

pub ids_sync : IsSync ScopeIds.the_row
ids_sync = search (crosses, sendable) depth 60 fits 100000

shared_send : IsSend Shared.the_row
shared_send = search (ids_send, ids_sync, crosses, sendable) depth 60 fits 100000

recorder_send : IsSend Recorder.the_row
recorder_send = search (crosses, sendable) depth 60 fits 100000

waiting_send : IsSend Waiting.the_row
waiting_send = search (frame_send, frame_sync, crosses, sendable) depth 60 fits 100000

collector_field_send : IsSend Collector.the_field.row
collector_field_send = search (collector_send, maps.crosses, crosses, sendable) depth 60 fits 100000

view_field_send : IsSend View.the_field.row
view_field_send = search (held_send, rank_send, collection_send, maps.crosses, crosses, sendable) depth 60 fits 100000

profiler_send : IsSend profiler.the_row
profiler_send = recorded_send profiler.the_field.row _ _ profiler.the_type.to_one (struct_send (shape profiler.the_type) (
  collector_field_send,
  (
    view_field_send,
    (
      search (shared_send, ids_send, ids_sync, crosses, sendable) depth 60 fits 100000,
      (search (waiting_send, crosses, sendable) depth 60 fits 100000, (search (crosses, sendable) depth 60 fits 100000, tt)),
    ),
  ),
))

-- so what a slot holds may be sent
pub row_send : (h : Held) → IsSend (row_of h)
row_send (Ids x) = shared_send
row_send (Thread x) = recorder_send
row_send (Profiler x) = profiler_send
