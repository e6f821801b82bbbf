-- The frames that are held are those of both lists, each once, in order.
use Rattle.std.proofs.Common.{ap, ◌∙◌}
use Rattle.std.specs.FinMap as fin
use Rattle.puffin_view.specs.View.FrameOf.{frames_of}
use Rattle.puffin_view.specs.View.{all_uniq}
use Rattle.puffin_view.specs.View.Listings.{frames_left}
use Rattle.puffin_view.proofs.Storing.{held_whole}
use Rattle.puffin_view.proofs.profile_view.frame_view.FrameView.all_uniq.Goals as goal

pub returns : goal.returns
returns c =
    let s = c.self.inside in
    ap (λ r. frames_of (frames_left r)) c.new.ensures
    ∙ c.iter.ensures ∙ ap fin.values (held_whole s.held s.recent.items s.slow.items s.last _ _ c.self.invariant)
    ∙ ap (λ v. all_uniq v.frames) c.self.view_is
