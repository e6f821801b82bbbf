use Rattle.std.specs.VecDeque.Iter.{deque_iter_rest}
use Rattle.puffin_view.proofs.LettingGo.{LetsGoSome}
use Rattle.puffin_view.proofs.profile_view.cutting.cut_slow.Given as goal

-- those so far are let go
abbrev pub invariant-loop-rank : goal.invariant-loop-rank
invariant-loop-rank l = LetsGoSome l.fn.held l.recent.items (deque_iter_rest l.initial.rank-iterator) l.held
    (deque_iter_rest l.rank-iterator)
