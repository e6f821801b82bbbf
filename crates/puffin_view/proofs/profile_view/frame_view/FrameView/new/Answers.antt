-- A new view stores no frames.
use Rattle.puffin_view.proofs.Storing.{stored-none}
use Rattle.puffin_view.proofs.profile_view.frame_view.FrameView.new.Goals as goal

pub invariant_of-result : goal.invariant_of-result
invariant_of-result c = stored-none c.new.result c.new-2.result.items c.new-3.result.items c.new.ensures
    c.new-2.ensures.items c.new-3.ensures.items
