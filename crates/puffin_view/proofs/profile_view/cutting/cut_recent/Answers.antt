-- The loop has dropped the first recent frames, unless they are slow.
use Rattle.std.proofs.Common.{◌<◌, ◌∙◌, arith, length, refl}
use Rattle.puffin_view.proofs.Searching.{still_ranked}
use Rattle.puffin_view.proofs.Cutting.{recent_step, unlike, dropped_next, first_dropped, some_dropped}
use Rattle.puffin_view.proofs.profile_view.cutting.cut_recent.Goals as goal
use Rattle.puffin_view.proofs.profile_view.cutting.cut_recent.Goals.{in-Some+else-is_slow, in-Some+then-is_slow, in_default}

within : (c : goal.Joined-pop_front) → c.loop.counter < length c.args.recent.now.items
within c = omega arith

pub loop-preserved : goal.loop-preserved
loop-preserved c = (
  c.pop_front.ensures.rest ∙ dropped_next c.loop.recent.items c.args.recent.now.items c.loop.counter c.loop.invariant.0,
  elim c.match-pop_front.branch [
    | in-Some+else-is_slow w ↦ recent_step _ _ _ _ _ _ _ w.is_slow.result (within c)
        (first_dropped c.loop.recent.items c.args.recent.now.items c.loop.counter w.in-Some.index c.loop.invariant.0
        w.in-Some.ensures.lookup) c.loop.invariant.1 w.is_slow.ensures
        (λ e. w.held-is ∙ w.remove.ensures) (λ e. unlike e w.if-is_slow.false)
    | in-Some+then-is_slow w ↦ recent_step _ _ _ _ _ _ _ w.is_slow.result (within c)
        (first_dropped c.loop.recent.items c.args.recent.now.items c.loop.counter w.in-Some.index c.loop.invariant.0
        w.in-Some.ensures.lookup) c.loop.invariant.1 w.is_slow.ensures
        (λ e. unlike w.if-is_slow.true e) (λ e. w.held-is ∙ w.set_aside.ensures)
    | in_default w ↦ let some : 0 < length c.loop.recent.items =
        some_dropped c.loop.recent.items c.args.recent.now.items c.loop.counter c.loop.invariant.0 (within c) in
        unlike (w.in_default.ensures.variant.1 (omega arith)) refl
  ],
)

pub is_slow-requires-clause-ranked : goal.is_slow-requires-clause-ranked
is_slow-requires-clause-ranked c = still_ranked _ _ c.args.slow.now.items _ c.loop.invariant.1 c.requires.ranked
