-- What contracts see of a collector with these fields.
use Rattle.puffin_frames.specs.Frame.Contents.{shared_streams}
use Rattle.puffin_threads.specs.Details.{shared_details}
use Rattle.puffin_collector.specs.declared.collector.Collector.TheInside.{Inside}
use Rattle.puffin_collector.specs.Collector.State.{Collected}

abbrev pub seen_of : Inside → Collected
seen_of fields = record {
  index = fields.meta.frame_index;
  reported = fields.reported;
  emitted = fields.emitted;
  streams = shared_streams fields.pending.entries;
  collection = fields.collection;
  new_details = shared_details fields.new_details.items;
  wants_all = fields.wants_all;
}
