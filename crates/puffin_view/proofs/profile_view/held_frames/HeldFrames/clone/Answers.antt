-- The copied rows stand for the same map, with the same sums.
use Rattle.std.proofs.Common.{ap, ◌∙◌}
use Rattle.std.specs.FinMap as fin
use Rattle.puffin_view.specs.inner.Rows.{rows_of}
use Rattle.puffin_view.proofs.HoldingViews.{seen_cloned, summed_cloned}
use Rattle.puffin_view.proofs.profile_view.held_frames.HeldFrames.clone.Goals as goal

pub invariant_of-result : goal.invariant_of-result
invariant_of-result c = summed_cloned (rows_of c.self.inside.frames) (rows_of c.in_ok-clone.field-0)
    c.self.inside.sums c.in_ok-clone.ensures.ok c.self.invariant

pub returns-clause-ok : goal.returns-clause-ok
returns-clause-ok c = ap fin.from_entries
    (seen_cloned (rows_of c.self.inside.frames) (rows_of c.in_ok-clone.field-0) c.in_ok-clone.ensures.ok)
    ∙ c.self.view_is
