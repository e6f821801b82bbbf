-- The rows in order are the values of the map that they stand for.
use Rattle.std.proofs.Common.{sym, ap, ◌∙◌}
use Rattle.std.specs.FinMap as fin
use Rattle.puffin_view.specs.View.FrameOf.{frames_of}
use Rattle.puffin_view.specs.inner.Rows.{rows_of}
use Rattle.puffin_view.proofs.HoldingViews.{values-held_of}
use Rattle.puffin_view.proofs.profile_view.held_frames.HeldFrames.iter.Goals as goal

pub returns : goal.returns
returns c = ap frames_of c.iter.ensures
    ∙ sym (values-held_of (rows_of c.self.inside.frames) c.self.inside.frames.in_order) ∙ ap fin.values c.self.view_is
