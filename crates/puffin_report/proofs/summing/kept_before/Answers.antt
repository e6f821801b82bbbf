-- A frame whose index rises is kept with those before it, and another one alone.
use Rattle.std.proofs.Common.{[], arith}
use Rattle.puffin_view.proofs.lemmas.ReadingViews.{end_goes_on, end_begins_anew}
use Rattle.puffin_report.proofs.Stepping.{rises_so, all_kept}
use Rattle.puffin_report.proofs.summing.kept_before.Goals as goal

pub returns-then-rises : goal.returns-then-rises
returns-then-rises c = λ info cs d last index h none.
    all_kept info cs d c.args.progress h
    (end_goes_on cs d
    (rises_so c.args.last c.args.index cs d c.rises.result _ last index c.rises.ensures c.if-rises.true))

pub returns : goal.returns
returns c = λ info cs d last index h none. record {
  before = [];
  fewer = omega arith;
  progress = none;
  kept = end_begins_anew cs d (rises_so c.args.last c.args.index cs d c.rises.result _ last index c.rises.ensures c.if-rises.false);
}
