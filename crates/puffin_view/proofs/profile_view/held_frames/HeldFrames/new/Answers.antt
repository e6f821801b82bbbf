-- No frames, and sums of 0.
use Rattle.puffin_view.specs.inner.Rows.{rows_of}
use Rattle.puffin_view.proofs.HoldingViews.{none_summed}
use Rattle.puffin_view.proofs.profile_view.held_frames.HeldFrames.new.Goals as goal

pub invariant_of-result : goal.invariant_of-result
invariant_of-result c = none_summed (rows_of c.new.result) c.new-2.result c.new.ensures c.new-2.ensures
