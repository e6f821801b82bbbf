-- Moving what is pending into a frame, whose list of details is already made.
use Rattle.std.specs.Prelude.{◌≡◌, ℕ, List, [], None, Some, false}
use Rattle.std.specs.FinMap as map
use Rattle.puffin_threads.specs.Details.{Details, shared_details}
use Rattle.puffin_frames.specs.declared.frame_data.frame.FrameData.{FrameData}
use Rattle.puffin_frames.specs.Frame.Contents.{holding_of, frame_meta}
use Rattle.puffin_frames.specs.Frame.Sums.{meta_of}
use Rattle.puffin_collector.specs.Collector.State.{Collected}

-- The frame has all that was pending, unpacked, under the next index. It lists these details, and says whether a snapshot was
-- wanted.
pub record HoldsPending (old : Collected) (details : List Details) (frame : FrameData) : Type 0 where
  pub held : holding_of frame ≡ record { packed = None; unpacked = Some old.streams }
  pub meta : frame_meta frame ≡ meta_of old.index (map.values old.streams)
  pub delta : shared_details frame.scope_delta.items ≡ details
  pub full : frame.full_delta ≡ old.wants_all

-- nothing is pending or new any more, all that was reported is handed out, and the next frame has this index
abbrev pub after_handing_out : Collected → (next : ℕ) → Collected
after_handing_out old next = record old {
  index = next;
  emitted = old.reported;
  streams = map.empty;
  new_details = [];
  wants_all = false;
}
