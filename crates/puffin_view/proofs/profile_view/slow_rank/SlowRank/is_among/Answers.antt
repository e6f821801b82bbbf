-- In sorted ranks a search finds an equal one, and none is behind the last.
use Rattle.std.proofs.Common.{◌≡◌, ◌<◌, ◌∙◌, arith, rules, refl, sym, length}
use Rattle.std.specs.VecDeque.{deque_len}
use Rattle.std.specs.Ordering.{is_le}
use Rattle.puffin_view.specs.View.FrameRanks.{rank_cmp}
use Rattle.puffin_view.proofs.Placing.{last_or_of}
use Rattle.puffin_view.proofs.Searching.{searched_rank, none_behind}
use Rattle.puffin_view.proofs.profile_view.slow_rank.SlowRank.is_among.Goals as goal

pub returns-then-le : goal.returns-then-le
returns-then-le c =
    let as_many : deque_len c.args.slow.now ≡ length c.args.slow.now.items = omega arith in
    c.is_ok.ensures.value ∙ searched_rank c.args.slow.now.items c.args.self (deque_len c.args.slow.now)
    c.binary_search.result as_many c.requires c.binary_search.ensures.bound c.binary_search.ensures.position

pub returns-else-le : goal.returns-else-le
returns-else-le c =
    let slow = c.args.slow.now in
    let filled : 0 < deque_len slow = c.in-Some.ensures.variant.0 refl in
    let as_many : deque_len slow ≡ length slow.items = omega arith in
    let compared : c.le.result ≡ is_le (rank_cmp c.args.self c.in-Some.last.now) = search rules in
    c.if-le.false ∙ sym (none_behind slow.items c.args.self c.in-Some.last.now c.requires (last_or_of slow.items
    (deque_len slow) c.in-Some.last.now as_many filled c.in-Some.ensures.lookup) (sym compared ∙ c.if-le.false))
