-- The row stands in front of the first that is faster.
use Rattle.puffin_look.proofs.SlowestKept.{placed_by}
use Rattle.puffin_look.proofs.slowest.place_for.Goals as goal

pub returns-clause-place : goal.returns-clause-place
returns-clause-place g c =
    placed_by g.R.Timed.duration c.args.rows.now c.args.row.now c.first_faster.result _ c.first_faster.ensures c.unwrap_or.ensures
