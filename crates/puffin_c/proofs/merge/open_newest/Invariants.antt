-- The frames so far were unpacked, and the others are left.
use Rattle.std.proofs.Common.{◌≡◌, ◌++◌, List, map}
use Rattle.puffin_frames.specs.Packet.Stored.{PacketFields}
use Rattle.puffin_view.specs.View.Listings.{recent_left}
use Rattle.puffin_view.specs.View.ViewedFrames.{fields_of}
use Rattle.puffin_c.specs.Merges.{newest_fields}
use Rattle.puffin_c.proofs.MergesMade.{AreOpenedTo}
use Rattle.puffin_c.proofs.merge.open_newest.Given as goal

abbrev pub invariant-frames : goal.invariant-frames
invariant-frames l =
    (done : List PacketFields)
    × (newest_fields l.fn.number l.fn.view ≡ done ++ map fields_of (recent_left l.frame-iterator))
    × AreOpenedTo done l.newest.items
