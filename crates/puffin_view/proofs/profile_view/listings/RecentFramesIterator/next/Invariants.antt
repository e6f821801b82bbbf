use Rattle.std.proofs.Common.{◌≡◌, length}
use Rattle.std.specs.VecDeque.Iter.{deque_iter_rest}
use Rattle.puffin_view.specs.View.Listings.{recent_left}
use Rattle.puffin_view.proofs.profile_view.listings.RecentFramesIterator.next.Given as goal

-- an index that holds no frame is passed over
abbrev pub invariant-loop-index : goal.invariant-loop-index
invariant-loop-index l = recent_left l.self ≡ recent_left l.fn.self

abbrev pub decreases-loop-index : goal.decreases-loop-index
decreases-loop-index l = length (deque_iter_rest l.self.rest)
