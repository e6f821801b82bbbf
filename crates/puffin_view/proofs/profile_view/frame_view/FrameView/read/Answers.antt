-- The reader has given the frames so far, and the view took each; at the end these are all frames of the file.
use Rattle.std.proofs.Common.{List, [], ◌∷◌, ◌++◌, ◌-◌, ◌^◌, Ok, Err, None, refl, ap, ◌∙◌, arith, length-append}
use Rattle.std.proofs.lemmas.Result.{err_from_is_err_and}
use Rattle.puffin_frames.specs.Packet.Stored.{Stored}
use Rattle.puffin_frames.specs.Packet.Next.{stored_of}
use Rattle.puffin_view.specs.View.FrameOf.{frame_of}
use Rattle.puffin_view.specs.View.Known.{view_of, collection_of}
use Rattle.puffin_view.specs.View.{View}
use Rattle.puffin_view.proofs.lemmas.FilesRead.{spent, none_left, failed, all_given, fault_given}
use Rattle.puffin_view.proofs.lemmas.FrameStreams.{fresh_frame}
use Rattle.puffin_view.proofs.FileFrames.{view_of_frames, view_of_more, refused_frame, given_frame}
use Rattle.puffin_view.proofs.profile_view.frame_view.FrameView.read.Goals as goal

pub packets-init : goal.packets-init
packets-init g c =
    let frames = ap view_of c.set_max_recent.ensures
    ∙ ap (λ (v : View). record v { max_recent = 2 ^ 64 - 1 }) c.new-view.ensures.frames in (
      [],
      c.in_ok-read_magic.ensures.begun,
      view_of_frames [] c.set_max_recent.new.self frames (ap collection_of
          c.set_max_recent.ensures ∙ c.new-view.ensures.collection),
      refl,
      c.in_ok-read_magic.ensures.failures,
    )

pub returns-in_err-frame-clause-file : goal.returns-in_err-frame-clause-file
returns-in_err-frame-clause-file g c =
    let p = err_from_is_err_and c.from_residual-in_err-frame.result c.from_residual-in_err-frame.ensures.1 in
    let before = c.packets.invariant in
    rw (p.1, p.2) (fault_given _ _ (Err c.in_err-frame.field-0.0) (failed _ _ _ c.in_err-frame.ensures.next) _
    before.0 before.1 (omega (arith, before.3, c.packets-test.true)))

pub returns-in_default-clause-file : goal.returns-in_default-clause-file
returns-in_default-clause-file g c =
    let before = c.packets.invariant in (
      before.0,
      all_given _ _ (Ok None) (rw c.in_default.is at c.in_ok-frame.ensures.next) _ before.0 before.1
          (omega (arith, before.3, c.packets-test.true)),
      before.2,
    )

pub returns-in_err-add_read-clause-file : goal.returns-in_err-add_read-clause-file
returns-in_err-add_read-clause-file g c =
    let p = err_from_is_err_and c.from_residual-in_err-add_read.result c.from_residual-in_err-add_read.ensures.1 in
    let before = c.packets.invariant in
    let next = rw c.in-Some.is at c.in_ok-frame.ensures.next in
    let fresh = rw c.in-Some.is at c.in_ok-frame.ensures.fresh in
    rw (p.1, p.2) (refused_frame _ _ _ before.0 c.in_err-add_read.field-0.0 c.in-Some.frame
    before.1 (omega (arith, before.3, c.packets-test.true)) fresh next c.in_err-add_read.ensures.missing
    c.in_err-add_read.ensures.cause)

pub packets-preserved : goal.packets-preserved
packets-preserved g c =
    let before = c.packets.invariant in
    let frame = c.in-Some.frame in
    let fresh = rw c.in-Some.is at c.in_ok-frame.ensures.fresh in
    let seen = fresh_frame frame fresh in
    let added = c.in_ok-add_read.ensures.ok in
    let one : List Stored = stored_of frame ∷ [] in (
      before.0 ++ one,
      given_frame _ _ _ before.0 frame before.1 fresh (rw c.in-Some.is at c.in_ok-frame.ensures.next) added.ids,
      view_of_more before.0 (stored_of frame) (frame_of frame) c.packets.view c.add_read.new.view seen before.2 added.frames added.learnt,
      omega (arith, length-append before.0 one, before.3),
      c.in_ok-frame.ensures.failures ∙ before.4,
    )

pub returns-clause-file : goal.returns-clause-file
returns-clause-file g c =
    let before = c.packets.invariant in
    spent _ _ before.0 (none_left _ c.packets.counter before.3 c.packets-test.false c.packets.auto.counter-end) before.1
