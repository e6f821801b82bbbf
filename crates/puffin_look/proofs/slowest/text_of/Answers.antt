-- The lines are those of the rows, one after the other.
use Rattle.std.proofs.Common.{refl}
use Rattle.puffin_look.specs.FrameLines.{frame_line, column_names}
use Rattle.puffin_look.proofs.Lined.{lists_begun, row_more, rows_closed}
use Rattle.puffin_look.proofs.slowest.text_of.Goals as goal

pub loop-row-init : goal.loop-row-init
loop-row-init c =
    lists_begun c.args.form column_names _ _ c.in_ok-lines.ensures.text c.in_ok-lines.ensures.separator c.in_ok-lines.ensures.none

pub loop-row-preserved : goal.loop-row-preserved
loop-row-preserved c =
    row_more (frame_line c.args.form) c.args.rows.now _ refl _ _ c.loop-row.row-index _ _ _ c.loop-row-test.true refl
    c.in_ok-push_row.ensures c.loop-row.invariant

pub returns : goal.returns
returns c =
    rows_closed (frame_line c.args.form) c.args.rows.now _ refl c.args.form column_names _ c.loop-row.row-index c.closed.result
    c.loop-row-test.false c.loop-row.invariant c.closed.ensures
