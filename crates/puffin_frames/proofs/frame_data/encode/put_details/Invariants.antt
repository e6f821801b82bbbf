use Rattle.std.proofs.Common.{drop}
use Rattle.puffin_frames.specs.Packet.Structs.{detail_layout, IsDetail}
use Rattle.puffin_threads.specs.Details.{shared_details}
use Rattle.puffin_frames.proofs.Appending.{Writes}
use Rattle.puffin_frames.proofs.frame_data.encode.put_details.Given as goal

-- the details that the loop has left are still to be written
abbrev pub invariant-details : goal.invariant-details
invariant-details l =
    Writes detail_layout IsDetail l.initial.out.items l.out.items (shared_details (drop l.one-index l.details))
    (shared_details l.details)
