-- A shared profiler and its shares may be sent to another thread, and so may a closure that captures them.
use Rattle.std.proofs.Common.{List}
use denote.Param.Send.{IsSend, AllSend, sendable, enum_send, struct_send, recorded_send}
use Rattle.std.proofs.Crossing.{crosses, dyn_box_send}
use mir.Syntax.{Sym}
use denote.Struct.Tuple.{TupleAt, type_at, field_at}
use denote.Struct.Declared.{shape as struct_shape}
use denote.RattleType.{RattleType}
use denote.Param.Object.{Ghosts, table_of}
use denote.Param.Sent.{Sends}
use denote.Enum.Declared.{shape}
use Rattle.std.specs.declared.sync.ledger.Ledger as led
use Rattle.std.proofs.sync.ledger.Book.TheSendSync as ledger_book
use Rattle.std.proofs.sync.ledger.Share.TheSendSync as ledger_share
use Rattle.history.specs.declared.tokens.History as hist
use Rattle.history.specs.contracts.tokens.Log as Log
use Rattle.history.proofs.lemmas.Sending.{log_send, author_send}
use Rattle.puffin.specs.contracts.global_profiler.event.Event as Event
use Rattle.puffin.specs.contracts.global_profiler.share.Parts as Parts
use Rattle.puffin.specs.contracts.global_profiler.sink.Sink as Sink
use Rattle.puffin.specs.contracts.global_profiler.sinks.SinkEntry as SinkEntry
use Rattle.puffin.specs.contracts.global_profiler.sinks.Sinks as Sinks
use Rattle.puffin.specs.contracts.global_profiler.profiler.GlobalProfiler as Global
use Rattle.puffin.specs.contracts.global_profiler.booked.Booked as Booked
use Rattle.puffin.specs.contracts.global_profiler.shared_profiler.SharedProfiler as Shared
use Rattle.puffin.specs.contracts.global_profiler.share.Share as Share
use Rattle.std.proofs.MapsCrossing as maps
use Rattle.puffin_threads.proofs.lemmas.Sending.{collection_send}
use Rattle.puffin_view.proofs.lemmas.Sending.{held_send, rank_send}
use Rattle.puffin_collector.proofs.lemmas.Sending.{collector_send}
use Rattle.puffin_view.specs.contracts.profile_view.frame_view.FrameView as View

pub view_send : IsSend View.the_row
view_send = search (held_send, rank_send, collection_send, maps.crosses, crosses, sendable) depth 60 fits 100000

module _ (L : RattleType) (h : hist.Ghosts L.Denot) where
  pub event_log_send : IsSend (Log.the_field Event.the_row L h).row
  event_log_send = log_send Event.the_row L h

module _ (L M : RattleType) (l : led.Ghosts L.Denot) (m : led.Ghosts M.Denot) where
  pub parts_send : IsSend (Parts.the_field L M l m).row
  parts_send = search (crosses, sendable) depth 30 fits 10000

module _ (D : RattleType) (g : Ghosts D.Denot) (s : Sends (table_of D.Denot g)) (sd : IsSend D) where
  pub sink_send : IsSend (Sink.the_field D g).row
  sink_send = enum_send (shape (Sink.the_type D g))
      ((search (view_send, crosses, sendable) depth 30 fits 10000, tt), ((dyn_box_send D g s sd, tt), tt))

  pub entry_send : IsSend (SinkEntry.the_field D g).row
  entry_send = search (sink_send, crosses, sendable) depth 30 fits 10000

  pub sinks_send : IsSend (Sinks.the_field D g).row
  sinks_send = search (entry_send, crosses, sendable) depth 30 fits 10000

  pub global_send : IsSend (Global.the_field D g).row
  global_send = search (sinks_send, collector_send, crosses, sendable) depth 30 fits 10000

  module _ (L M : RattleType) (l : led.Ghosts L.Denot) (h : hist.Ghosts L.Denot) (m : led.Ghosts M.Denot) where
    pub booked_send : IsSend (Booked.the_field L M D l h m g).row
    booked_send = struct_send (struct_shape (Booked.the_type L M D l h m g)) (
      search (crosses, sendable) depth 30 fits 10000,
      (
        global_send,
        (
          ledger_book.the_send L l,
          (
            ledger_book.the_send M m,
            (
              parts_send L M l m,
              (
                search (crosses, sendable) depth 30 fits 10000,
                (search (crosses, sendable) depth 30 fits 10000, (event_log_send L h, tt)),
              ),
            ),
          ),
        ),
      ),
    )

    pub shared_send : IsSend (Shared.the_field L M D l h m g).row
    shared_send = search (booked_send, crosses, sendable) depth 30 fits 10000

    pub shared_row_send : IsSend (Shared.the_row L M D l h m g)
    shared_row_send = search (shared_send, sendable) depth 10 fits 10000

module _ (L M : RattleType) (l : led.Ghosts L.Denot) (h : hist.Ghosts L.Denot) (m : led.Ghosts M.Denot) where
  pub share_field_send : IsSend (Share.the_field L M l h m).row
  share_field_send = search (ledger_share.the_send, author_send, crosses, sendable) depth 30 fits 10000

  pub share_send : IsSend (Share.the_row L M l h m)
  share_send = share_field_send

-- what a closure captures
module _ (ν : Sym) (Ts : List RattleType) where
  pub captures_send : AllSend (struct_shape (type_at ν Ts)).fields → IsSend (TupleAt ν Ts)
  captures_send s = recorded_send (field_at ν Ts).row _ _ (type_at ν Ts).to_one (struct_send (struct_shape (type_at ν Ts)) s)
