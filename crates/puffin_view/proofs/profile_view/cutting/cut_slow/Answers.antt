-- The loop has dropped the frames of the ranks so far, unless they are recent.
use Rattle.std.proofs.Common.{◌≡◌, length, drop, refl, ap, ◌∙◌, arith}
use Rattle.std.specs.Prelude.{min}
use Rattle.std.specs.VecDeque.{deque_len}
use Rattle.std.specs.VecDeque.Iter.{deque_iter_rest}
use Rattle.puffin_view.proofs.LettingGo.{one_more_gone, all_gone, from_place}
use Rattle.puffin_view.proofs.Cutting.{unlike}
use Rattle.puffin_view.proofs.profile_view.cutting.cut_slow.Goals as goal

pub loop-rank-preserved-then-not-is_recent : goal.loop-rank-preserved-then-not-is_recent
loop-rank-preserved-then-not-is_recent c =
    one_more_gone _ _ _ _ _ _ _ c.in-Some.rank.now c.is_recent.result c.loop-rank.invariant c.in-Some.ensures.steps
    c.is_recent.ensures (λ e. c.remove.ensures) (λ e. unlike e c.if-not-is_recent.true)

pub loop-rank-preserved : goal.loop-rank-preserved
loop-rank-preserved c =
    one_more_gone _ _ _ _ _ _ _ c.in-Some.rank.now c.is_recent.result c.loop-rank.invariant c.in-Some.ensures.steps
    c.is_recent.ensures (λ e. unlike c.if-not-is_recent.false e) (λ e. refl)

pub returns-clause-held : goal.returns-clause-held
returns-clause-held c =
    let slow = c.args.slow.now in
    let as_many : deque_len slow ≡ length slow.items = omega arith in
    let first : c.min.result ≡ min c.args.max (deque_len slow) = omega arith in
    let whole : deque_iter_rest c.into_iter-rank-iterator.result ≡ drop c.args.max slow.items =
    ap deque_iter_rest c.into_iter-rank-iterator.ensures.into_iter_gives ∙ c.range-rank-items.ensures.rest
    ∙ from_place slow.items (deque_len slow) c.min.result c.args.max as_many first in
    all_gone _ _ _ _ _ _ c.loop-rank.invariant c.in-None.ensures.steps.0 whole
