-- One frame after the other is unpacked.
use Rattle.std.proofs.Common.{◌≡◌, [], ◌∷◌, ◌++◌, ap}
use Rattle.std.proofs.lemmas.Result.{err_from_is_err_and}
use Rattle.std.proofs.lemmas.Map.Iter.{rest_more}
use Rattle.puffin_frames.specs.Packet.Stored.{PacketFields}
use Rattle.puffin_frames.specs.Frame.Contents.{packet_fields}
use Rattle.puffin_view.specs.View.FrameOf.{shared_frame}
use Rattle.puffin_view.specs.View.Listings.{recent_left}
use Rattle.puffin_c.proofs.MergesMade.{opened_next, frames_next, not_opened, all_opened}
use Rattle.puffin_c.proofs.merge.open_newest.Goals as goal

pub returns-in_err-open_copy-clause-err : goal.returns-in_err-open_copy-clause-err
returns-in_err-open_copy-clause-err c =
    let (_, is_err, same_cause) = err_from_is_err_and c.from_residual.result c.from_residual.ensures.1 in
    let (done, split, so_far) = c.frames.invariant in
    let fields : PacketFields = packet_fields c.deref.result.now in
    let left : recent_left c.frames.frame-iterator ≡ shared_frame c.in-Some.frame.now ∷ recent_left c.next.new.self =
    rest_more (λ a. shared_frame a.now) _ _ _ _ c.in-Some.is c.next.ensures.steps in
    rw (is_err, same_cause)
    (not_opened done _ _ split c.frames.newest.items fields (shared_frame c.in-Some.frame.now) _ _ left
    (ap packet_fields c.deref.ensures) so_far c.in_err-open_copy.ensures.err)

pub frames-preserved : goal.frames-preserved
frames-preserved c =
    let (done, split, so_far) = c.frames.invariant in
    let fields : PacketFields = packet_fields c.deref.result.now in
    let left : recent_left c.frames.frame-iterator ≡ shared_frame c.in-Some.frame.now ∷ recent_left c.next.new.self =
    rest_more (λ a. shared_frame a.now) _ _ _ _ c.in-Some.is c.next.ensures.steps in (
      done ++ fields ∷ [],
      frames_next done _ _ split fields (shared_frame c.in-Some.frame.now) _ left (ap packet_fields c.deref.ensures),
      opened_next done fields c.frames.newest.items _ _ c.in_ok-push.ensures.items so_far c.in_ok-open_copy.ensures.ok,
    )

pub returns-clause-ok : goal.returns-clause-ok
returns-clause-ok c =
    let (done, split, so_far) = c.frames.invariant in
    all_opened done _ _ split c.frames.newest.items c.in-None.ensures.steps.0 so_far
