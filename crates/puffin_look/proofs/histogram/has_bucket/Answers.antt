-- Whether the count at the place, if there is one, is that of the bucket. (`lookup.1` of `get` is what stands at a place, `lookup.3`
-- that the place is within the counts, or behind them.)
use Rattle.std.proofs.Common.{sym}
use Rattle.puffin_look.proofs.Ranked.{has_at, has_none}
use Rattle.puffin_look.proofs.histogram.has_bucket.Goals as goal

pub returns-in-Some : goal.returns-in-Some
returns-in-Some c =
    sym (has_at c.args.counts.now c.args.place c.args.bucket c.in-Some.count.now c.in-Some.ensures.lookup.3.0
    c.in-Some.ensures.lookup.1)

pub returns-in-None : goal.returns-in-None
returns-in-None c = sym (has_none c.args.counts.now c.args.place c.args.bucket c.in-None.ensures.lookup.3)
