-- A rank is before the last if the comparison says so.
use Rattle.std.proofs.Common.{◌≡◌, ◌<◌, length, rules, arith, refl, ◌∙◌}
use Rattle.std.specs.VecDeque.{deque_len}
use Rattle.puffin_view.specs.inner.Ranks.{is_before}
use Rattle.puffin_view.proofs.Placing.{enters_before, last_or_of}
use Rattle.puffin_view.proofs.profile_view.slow_rank.SlowRank.enters.Goals as goal

pub returns-in-Some : goal.returns-in-Some
returns-in-Some c =
    let slow = c.args.slow.now in
    let filled : 0 < deque_len slow = c.in-Some.ensures.variant.0 refl in
    let as_many : deque_len slow ≡ length slow.items = omega arith in
    let compared : c.lt.result ≡ is_before c.args.self c.in-Some.last.now = search rules in
    compared ∙ enters_before c.args.max slow.items c.args.self c.in-Some.last.now (omega arith)
    (last_or_of slow.items (deque_len slow) c.in-Some.last.now as_many filled c.in-Some.ensures.lookup)
