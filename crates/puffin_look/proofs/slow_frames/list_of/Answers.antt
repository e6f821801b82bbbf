-- The lines are the texts of the frames, one after the other.
use Rattle.std.proofs.Common.{[], refl, subst}
use Rattle.puffin_look.specs.declared.slow_frames.SlowFrame.{SlowFrame}
use Rattle.puffin_look.specs.inner.Lining.{Adds}
use Rattle.puffin_look.proofs.Lined.{lists_begun, row_more, rows_closed}
use Rattle.puffin_look.proofs.slow_frames.list_of.Goals as goal

pub loop-row-init : goal.loop-row-init
loop-row-init c = lists_begun c.args.form [] _ _ c.in_ok-lines.ensures.text c.in_ok-lines.ensures.separator c.in_ok-lines.ensures.none

pub loop-row-preserved : goal.loop-row-preserved
loop-row-preserved c =
    row_more (λ (row : SlowFrame). row.text.items) c.args.rows.now _ refl _ _ c.loop-row.row-index c.row-item.result
    _ _ c.loop-row-test.true c.row-item.is
    (subst (Adds c.loop-row.lines c.add.new.self) c.deref.ensures.value c.in_ok-add.ensures) c.loop-row.invariant

pub returns : goal.returns
returns c =
    rows_closed (λ (row : SlowFrame). row.text.items) c.args.rows.now _ refl c.args.form [] _ c.loop-row.row-index c.closed.result
    c.loop-row-test.false c.loop-row.invariant c.closed.ensures
