-- The duration was counted in its bucket, and the buckets are still in order.
--
-- The place is that of the first bucket that isn't lower. `at`: the bucket at this place is the one; `none`: it isn't.
use Rattle.std.proofs.Common.{List, sym, ap, ◌∙◌, arith}
use Rattle.puffin_look.specs.inner.Counts.{with_time, has_bucket}
use Rattle.puffin_look.specs.declared.histogram.Count.{Count}
use Rattle.puffin_look.proofs.Ranked.{has_within, put_more, put_new, sorted_if}
use Rattle.puffin_look.proofs.histogram.Histogram.add.Goals as goal

pub index-requires : goal.index-requires
index-requires c =
    let at = ap (λ (cs : List Count). has_bucket cs c.place_of-place.result c.bucket_of-bucket.result) (sym c.deref.ensures.value)
    ∙ sym c.has_bucket.ensures ∙ c.if-has_bucket.true in
    let within = has_within c.args.self.now.counts.items c.place_of-place.result c.bucket_of-bucket.result at in
    omega (arith, c.args.self.now.counts.ok.0, within)

pub index_mut-requires : goal.index_mut-requires
index_mut-requires c =
    let at = ap (λ (cs : List Count). has_bucket cs c.place_of-place.result c.bucket_of-bucket.result) (sym c.deref.ensures.value)
    ∙ sym c.has_bucket.ensures ∙ c.if-has_bucket.true in
    let within = has_within c.args.self.now.counts.items c.place_of-place.result c.bucket_of-bucket.result at in
    omega (arith, c.args.self.now.counts.ok.0, within)

pub returns-then-has_bucket : goal.returns-then-has_bucket
returns-then-has_bucket c =
    let all = c.args.self.now.counts.items in
    let at = ap (λ (cs : List Count). has_bucket cs c.place_of-place.result c.bucket_of-bucket.result) (sym c.deref.ensures.value)
    ∙ sym c.has_bucket.ensures ∙ c.if-has_bucket.true in
    let (all_lower, none_lower) = c.place_of-place.ensures.point in
    put_more all c.place_of-place.result c.bucket_of-bucket.result c.saturating_add-calls.result c.index.result.now
    all_lower at
    (omega (arith, c.saturating_add-calls.ensures, ap (λ (x : Count). x.calls) c.index.ensures))
    ∙ ap (with_time all) c.bucket_of-bucket.ensures.bucket

pub invariant_of-self-2 : goal.invariant_of-self-2
invariant_of-self-2 c =
    let all = c.args.self.now.counts.items in
    let none = ap (λ (cs : List Count). has_bucket cs c.place_of-place.result c.bucket_of-bucket.result)
    (sym c.deref.ensures.value) ∙ sym c.has_bucket.ensures ∙ c.if-has_bucket.false in
    let (all_lower, none_lower) = c.place_of-place.ensures.point in
    record {
      sorted = sorted_if _ all c.insert.new.self.items _ c.bucket_of-bucket.result c.args.self.now.sorted
          (put_new all c.place_of-place.result c.bucket_of-bucket.result c.place_of-place.ensures.within
          all_lower none_lower none) c.insert.ensures.items;
    }

pub returns : goal.returns
returns c =
    let all = c.args.self.now.counts.items in
    let none = ap (λ (cs : List Count). has_bucket cs c.place_of-place.result c.bucket_of-bucket.result)
    (sym c.deref.ensures.value) ∙ sym c.has_bucket.ensures ∙ c.if-has_bucket.false in
    let (all_lower, none_lower) = c.place_of-place.ensures.point in
    c.in_ok-insert.ensures.items
    ∙ put_new all c.place_of-place.result c.bucket_of-bucket.result c.place_of-place.ensures.within
    all_lower none_lower none
    ∙ ap (with_time all) c.bucket_of-bucket.ensures.bucket
