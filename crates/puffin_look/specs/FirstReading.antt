-- What all frames of a file say together: the details of their scopes, and when the first frame began.
use Rattle.std.specs.Prelude.{◌≡◌, ◌-◌, ◌^◌, ℕ, pos, List, fold, Option}
use Rattle.std.specs.Int.{int_min}
use Rattle.puffin_threads.specs.Details.Collection.{no_details, with_all_details}
use Rattle.puffin_frames.specs.Packet.Stored.{PacketFields, Stored}
use Rattle.puffin_view.specs.View.ViewedFrames.{fields_of}
use Rattle.puffin_view.specs.View.File.{frame_stored}
use Rattle.puffin_look.specs.Printed.{Begins, EndsBehind}
use Rattle.puffin_look.specs.declared.overview.Overview.{Overview}

-- the overview of no frames: it begins at the greatest time, so that each frame's start is the lesser one
abbrev pub no_overview : Overview
no_overview = record { details = no_details; start = pos (2 ^ 63 - 1) }

-- the details of one more frame, and the lesser start
abbrev pub with_fields : Overview → PacketFields → Overview
with_fields overview fields = record {
  details = with_all_details overview.details fields.details;
  start = int_min overview.start fields.meta.range_ns.0;
}

-- the same of a frame that was read
abbrev pub with_stored : Overview → Stored → Overview
with_stored overview stored = with_fields overview (fields_of (frame_stored stored))

-- the overview of these frames
abbrev pub overview_of : List Stored → Overview
overview_of stored = fold with_stored no_overview stored

-- the overview of the frames of a file that are before its end, or before the first that can't be read
pub record IsOverview (unread left : Option (List ℕ)) (overview : Overview) : Type 0 where
  pub stored : List Stored
  pub begins : Begins unread stored
  pub end : EndsBehind unread left stored
  pub sums_up : overview ≡ overview_of stored
