-- One more of the map's details is written, in ascending order of id.
use Rattle.std.proofs.Common.{ap}
use Rattle.std.proofs.lemmas.Map.Iter.{rest_more}
use Rattle.puffin_frames.specs.Packet.Structs.{detail_layout, IsDetail}
use Rattle.puffin_threads.specs.Details.{shared_details}
use Rattle.puffin_frames.proofs.Appending.{one_more, next_of}
use Rattle.puffin_frames.proofs.frame_data.encode.put_details_by_id.Goals as goal

pub details-preserved : goal.details-preserved
details-preserved c =
    let left = rest_more (λ (x : _). x.now) _ _ _ _ c.in-Some.is c.next.ensures.steps in
    one_more detail_layout IsDetail _ _ _ _ _ _ (next_of _ _ _ _ _ _ _ (ap shared_details left) c.details.invariant)
    (rw c.deref.ensures at c.in_ok-put_detail.ensures.ok) (rw c.deref.ensures at c.in_ok-put_detail.ensures.fits)
