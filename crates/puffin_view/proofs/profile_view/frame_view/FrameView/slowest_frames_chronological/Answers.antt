-- Of all frames that are held, those whose index has a rank are the slow ones, in order.
use Rattle.std.proofs.Common.{ap, ◌∙◌, map, List}
use Rattle.std.specs.List.{filter}
use Rattle.puffin_view.specs.declared.profile_view.slow_rank.SlowRank.{SlowRank}
use Rattle.puffin_view.specs.View.ViewedFrames.{Frame, index_of, chronological}
use Rattle.puffin_view.specs.View.FrameOf.{frames_of}
use Rattle.puffin_view.specs.View.Listings.{frames_left}
use Rattle.puffin_view.specs.View.Ranking.{rank_index, has_number}
use Rattle.puffin_view.proofs.Chronology.{slow_listed}
use Rattle.puffin_view.proofs.profile_view.frame_view.FrameView.slowest_frames_chronological.Goals as goal

slow_of : List SlowRank → List Frame → List Frame
slow_of rs fs = filter (λ f. has_number (index_of f) (map rank_index rs)) fs

pub returns : goal.returns
unfolding slow_of
returns c =
    let s = c.self.inside in
    ap (λ q. slow_of q.items (frames_of (frames_left c.new.result.rest))) c.new.ensures.slow
    ∙ ap (λ r. slow_of s.slow.items (frames_of (frames_left r))) c.new.ensures.rest
    ∙ ap (slow_of s.slow.items) c.iter.ensures
    ∙ slow_listed s.held s.recent.items s.slow.items s.last _ _ c.self.invariant
    ∙ ap (λ v. chronological v.frames.slow) c.self.view_is
