-- One place more for each frame.
use Rattle.std.proofs.Common.{ap, ◌∙◌, arith}
use Rattle.puffin_view.specs.View.FrameOf.{frame_of, shared_frame}
use Rattle.puffin_view.specs.View.Selection.{rank_at, ranks_from}
use Rattle.puffin_view.specs.inner.Selections.{rank_by_duration}
use Rattle.puffin_view.proofs.Selecting.{ranked_more}
use Rattle.puffin_view.proofs.profile_view.select.places_by_duration.Goals as goal

pub frames-preserved : goal.frames-preserved
frames-preserved c =
    let a = c.index-frames-place.result in
    ranked_more shared_frame rank_by_duration c.args.frames.now c.frames.place a c.frames.places.items c.push.new.self.items
    c.of.result (ranks_from 0 _) (omega arith) c.index-frames-place.is
    (c.of.ensures ∙ ap (λ f. rank_at c.frames.place (frame_of f)) c.deref.ensures) c.in_ok-push.ensures.items
    c.frames.invariant
