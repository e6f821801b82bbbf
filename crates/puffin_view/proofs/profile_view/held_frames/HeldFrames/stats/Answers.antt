-- The running sums fit, so they are those of the frames.
use Rattle.std.proofs.Common.{ap, ◌∙◌}
use Rattle.puffin_view.specs.View.Stats.{stats_of}
use Rattle.puffin_view.specs.inner.Rows.{rows_of}
use Rattle.puffin_view.proofs.HoldingViews.{stats_summed}
use Rattle.puffin_view.proofs.profile_view.held_frames.HeldFrames.stats.Goals as goal

pub returns : goal.returns
returns c = c.stats.ensures ∙ stats_summed (rows_of c.self.inside.frames)
    c.len.result c.self.inside.sums c.len.ensures c.len.type_inv c.self.inside.frames.in_order c.self.invariant
    ∙ ap (λ m. stats_of (Rattle.std.specs.FinMap.values m)) c.self.view_is
