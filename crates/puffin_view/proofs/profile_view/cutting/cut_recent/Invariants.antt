use Rattle.std.proofs.Common.{◌≡◌, map, take, drop}
use Rattle.puffin_view.specs.inner.Ranks.{LetsGo}
use Rattle.puffin_view.specs.View.Ranking.{rank_index}
use Rattle.puffin_view.proofs.profile_view.cutting.cut_recent.Given as goal

-- those so far are dropped and let go
abbrev pub invariant-loop : goal.invariant-loop
invariant-loop l = (l.recent.items ≡ drop l.counter l.fn.recent.items)
    × LetsGo l.fn.held (map rank_index l.slow.items) (take l.counter l.fn.recent.items) l.held
