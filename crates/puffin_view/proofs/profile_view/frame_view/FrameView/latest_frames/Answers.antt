-- The last recent indices hold the last recent frames.
use Rattle.std.proofs.Common.{◌≡◌, ◌-◌, ap, ◌∙◌, length, arith}
use Rattle.std.specs.FinMap as fin
use Rattle.std.specs.List.{filter_map}
use Rattle.std.specs.VecDeque.{deque_len}
use Rattle.std.specs.VecDeque.Iter.{deque_iter_rest}
use Rattle.puffin_view.specs.View.Ranking.{last_of}
use Rattle.puffin_view.proofs.JoiningPending.{last_frames, range_last}
use Rattle.puffin_view.proofs.profile_view.frame_view.FrameView.latest_frames.Goals as goal

pub returns : goal.returns
returns c =
    let s = c.self.inside in
    let as_many : deque_len s.recent ≡ length s.recent.items = omega arith in
    let first : c.saturating_sub-first.result ≡ deque_len s.recent - c.args.n = omega arith in
    ap (λ m. filter_map (fin.get m) (deque_iter_rest c.new.result.rest)) c.new.ensures.held
    ∙ ap (λ r. filter_map (fin.get s.held) (deque_iter_rest r)) c.new.ensures.rest
    ∙ ap (filter_map (fin.get s.held)) (c.range.ensures.rest
    ∙ range_last s.recent.items (deque_len s.recent) c.saturating_sub-first.result c.args.n as_many first)
    ∙ last_frames s.held s.recent.items s.slow.items s.last c.args.n _ _ c.self.invariant
    ∙ ap (λ v. last_of c.args.n v.frames.recent) c.self.view_is
