-- The frame held under the last recent index is the newest.
use Rattle.std.proofs.Common.{◌≡◌, ◌<◌, length, arith, refl, ap, ◌∙◌}
use Rattle.std.specs.VecDeque.{deque_len}
use Rattle.puffin_view.specs.View.Ranking.{last_in}
use Rattle.puffin_view.proofs.Storing.{newest_held}
use Rattle.puffin_view.proofs.Placing.{last_or_of}
use Rattle.puffin_view.proofs.profile_view.frame_view.FrameView.latest_frame.Goals as goal

pub returns : goal.returns
returns c =
    let s = c.self.inside in
    let filled : 0 < deque_len s.recent = c.in_ok-back.ensures.variant.0 refl in
    let as_many : deque_len s.recent ≡ length s.recent.items = omega arith in
    c.get.ensures ∙ newest_held s.held s.recent.items s.slow.items s.last _ _ c.in_ok-back.field-0.now
    c.self.invariant (last_or_of s.recent.items (deque_len s.recent) c.in_ok-back.field-0.now as_many filled
    c.in_ok-back.ensures.lookup) ∙ ap (λ v. last_in v.frames.recent) c.self.view_is
