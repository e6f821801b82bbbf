-- One more of the list's details is written.
use Rattle.std.specs.Arc.{arc_value}
use Rattle.puffin_threads.specs.Details.{details_of}
use Rattle.puffin_frames.specs.Packet.Structs.{detail_layout, IsDetail}
use Rattle.puffin_frames.proofs.Appending.{one_more, next_of, at_index}
use Rattle.puffin_frames.proofs.frame_data.encode.put_details.Goals as goal

pub details-preserved : goal.details-preserved
details-preserved c =
    let left =
    at_index (λ one. details_of (arc_value one)) c.args.details.now c.details.one-index c.one-item.result
    c.details-test.true c.one-item.is in
    one_more detail_layout IsDetail _ _ _ _ _ _ (next_of _ _ _ _ _ _ _ left c.details.invariant)
    (rw c.deref.ensures at c.in_ok-put_detail.ensures.ok) (rw c.deref.ensures at c.in_ok-put_detail.ensures.fits)
