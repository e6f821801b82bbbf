-- The counts in front of the place have lower buckets, and those from it on have not.
use Rattle.std.proofs.Common.{rules, of_calls, ◌≡◌, List, true, false, subst, sym}
use Rattle.std.specs.Prelude.{nat_lt}
use Rattle.std.specs.List.Sorted.{IsPartitionPoint, IsNonDecreasingBy}
use Rattle.std.proofs.lemmas.Fn.{always_returns_same}
use Rattle.std.proofs.lemmas.List.Sorted.{IsPartitionedBy-ltb}
use Rattle.puffin_look.specs.inner.Counts.{by_bucket}
use Rattle.puffin_look.specs.declared.histogram.Count.{Count}
use Rattle.puffin_look.proofs.histogram.Histogram.place_of.Goals as goal

pub returns-clause-point : goal.returns-clause-point
returns-clause-point c =
    let all = c.args.self.now.counts.items in
    let same : c.deref.result.now ≡ all = c.deref.ensures.value in
    let sorted : IsNonDecreasingBy by_bucket c.deref.result.now = subst (IsNonDecreasingBy by_bucket) (sym same) c.args.self.now.sorted in
    let point = c.partition_point.ensures.partitioned (λ (x : Count). nat_lt x.bucket c.args.bucket)
    (always_returns_same _ _ _ (λ a r f k. search (rules, of_calls))) (IsPartitionedBy-ltb by_bucket c.deref.result.now
    c.args.bucket sorted) in
    subst (λ (l : List Count). IsPartitionPoint (λ (x : Count). nat_lt x.bucket c.args.bucket
    ≡ true) (λ (x : Count). nat_lt x.bucket c.args.bucket ≡ false) l c.partition_point.result) same point
