-- What is left of the rank is the rank among the counts that are left.
use Rattle.std.proofs.Common.{◌≡◌, drop}
use Rattle.puffin_look.specs.inner.Counts.{bucket_at}
use Rattle.puffin_look.proofs.histogram.Histogram.bucket_at.Given as goal

abbrev pub invariant-loop-count : goal.invariant-loop-count
invariant-loop-count l = bucket_at (drop l.count-index l.self.counts.items) l.left ≡ bucket_at l.self.counts.items l.rank
