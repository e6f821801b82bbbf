-- The bucket of the duration with a rank.
--
-- The counts are in ascending order of their buckets (`Rising`), and as many calls are counted below a limit as there are durations with a
-- bucket below it (`counted`). So the bucket at a rank, where the sum of the counts first reaches the rank, can't be lower than the bucket
-- of the duration with this rank (`not_lower`), nor higher (`not_higher`).
use Rattle.std.proofs.Common.{◌≡◌, ℕ, zero, suc, ◌+◌, ◌-◌, ◌^◌, ◌<◌, ◌≤◌, inl, inr, Bool, true, false, List, [], ◌∷◌, length, get_or, refl, sym, ap, subst, ◌∙◌, arith, true≢false}
use Rattle.std.specs.Prelude.{nat_lt, nat_le, ◌==◌, cond, if◌then◌else◌, fold, sum_by, count_by, insert, slice_set}
use Rattle.std.specs.List.Sorted.{IsNonDecreasingBy}
use Rattle.std.proofs.lemmas.Bool.{cases_lt, lt-ltb, le-ltb, le-leb, lt-leb, eq-eqb, ne_eqb, ltb-true, ltb-false, eqb-true, eqb-false, leb-true, cond-true, cond-false, cond_both}
use Rattle.std.proofs.lemmas.List.Sums.{sum_by-cons, sum_by-le-sum_by, count_by-le-length}
use Rattle.puffin_view.specs.View.Stats.{cut}
use Rattle.puffin_look.specs.Buckets.{bucket_of}
use Rattle.puffin_look.specs.inner.Counts.{by_bucket, one_in, one_more, with_time, bucket_at, has_bucket}
use Rattle.puffin_look.specs.Top.{HasRank}
use Rattle.puffin_look.specs.declared.histogram.Count.{Count}
use Rattle.puffin_look.proofs.Bucketing.{bucket_rises}

-- ---- how many calls are in lower buckets

abbrev pub all_calls : List Count → ℕ
all_calls cs = sum_by (λ (c : Count). c.calls) cs

-- those of one count
abbrev below_one : ℕ → Count → ℕ
below_one limit c = cond (nat_lt c.bucket limit) c.calls 0

abbrev pub below : ℕ → List Count → ℕ
below limit cs = sum_by (below_one limit) cs

abbrev one_below : ℕ → ℕ → ℕ
one_below limit bucket = cond (nat_lt bucket limit) 1 0

-- the tests of `with_time`, by cases
abbrev step_by : Bool → Bool → Count → List Count → ℕ → List Count
step_by lower same c cs bucket = cond lower (c ∷ with_time cs bucket) (cond same (one_more c ∷ cs) (one_in bucket ∷ (c ∷ cs)))

-- a duration is counted behind the first count, in it, or in front of it
later : (c : Count) (cs : List Count) (bucket : ℕ) → c.bucket < bucket → with_time (c ∷ cs) bucket ≡ c ∷ with_time cs bucket
later c cs bucket h = ap (λ (b : Bool). step_by b (c.bucket == bucket) c cs bucket) (lt-ltb c.bucket bucket h)

here : (c : Count) (cs : List Count) (bucket : ℕ) → c.bucket ≡ bucket → with_time (c ∷ cs) bucket ≡ one_more c ∷ cs
here c cs bucket h = (λ i. step_by (le-ltb c.bucket bucket (omega arith) i) (eq-eqb c.bucket bucket h i) c cs bucket)

before : (c : Count) (cs : List Count) (bucket : ℕ) → bucket < c.bucket → with_time (c ∷ cs) bucket ≡ one_in bucket ∷ (c ∷ cs)
before c cs bucket h = (λ i. step_by (le-ltb c.bucket bucket (omega arith) i) (ne_eqb c.bucket bucket (λ e. omega arith) i) c cs bucket)

pub data Place (c : Count) (bucket : ℕ) : Type 0 where
  is_later : c.bucket < bucket → Place c bucket
  is_here : c.bucket ≡ bucket → Place c bucket
  is_before : bucket < c.bucket → Place c bucket

-- one of the three holds
place : (c : Count) (bucket : ℕ) → Place c bucket
place c bucket = elim (cases_lt c.bucket bucket) [
  | inl low ↦ is_later low
  | inr high ↦ elim (cases_lt bucket c.bucket) [
    | inl above ↦ is_before above
    | inr same ↦ is_here (omega arith)
  ]
]

-- what one duration more adds, where no count is at its limit
module _ (f : Count → ℕ) (plus : ℕ) (bucket : ℕ) (one : f (one_in bucket) ≡ plus)
    (more : (c : Count) → c.bucket ≡ bucket → c.calls + 1 < 2 ^ 64 → f (one_more c) ≡ f c + plus) where
  sum_more : (cs : List Count) → all_calls cs + 1 < 2 ^ 64 → sum_by f (with_time cs bucket) ≡ sum_by f cs + plus
  sum_more [] fits = omega (arith, one)
  sum_more (c ∷ cs) fits =
      let whole : all_calls (c ∷ cs) ≡ c.calls + all_calls cs = sum_by-cons (λ (c : Count). c.calls) c cs in
      elim (place c bucket) [
        | is_later h ↦ ap (sum_by f) (later c cs bucket h) ∙ sum_by-cons f c (with_time cs bucket)
            ∙ omega (arith, sum_more cs (omega arith), sum_by-cons f c cs)
        | is_here h ↦ ap (sum_by f) (here c cs bucket h) ∙ sum_by-cons f (one_more c) cs
            ∙ omega (arith, more c h (omega arith), sum_by-cons f c cs)
        | is_before h ↦ ap (sum_by f) (before c cs bucket h) ∙ sum_by-cons f (one_in bucket) (c ∷ cs) ∙ omega (arith, one)
      ]

-- a count that isn't at its limit grows by one
fits_more : (c : Count) → c.calls + 1 < 2 ^ 64 → (one_more c).calls ≡ c.calls + 1
fits_more c h = omega arith

-- one call more
pub all_more : (cs : List Count) (bucket : ℕ) → all_calls cs + 1 < 2 ^ 64 → all_calls (with_time cs bucket) ≡ all_calls cs + 1
all_more cs bucket fits = sum_more (λ (c : Count). c.calls) 1 bucket refl (λ c same h. fits_more c h) cs fits

-- one call more in a count counts below the limit if its bucket does (`b`)
below_same : (limit bucket : ℕ) (b : Bool) (c : Count) → nat_lt bucket limit ≡ b → c.bucket ≡ bucket → c.calls + 1 < 2 ^ 64
    → below_one limit (one_more c) ≡ below_one limit c + one_below limit bucket
below_same limit bucket true c is same h =
    let low : nat_lt c.bucket limit ≡ true = ap (λ (x : ℕ). nat_lt x limit) same ∙ is in
    let a = cond-true {A = ℕ} (nat_lt c.bucket limit) (one_more c).calls 0 low in
    let b = cond-true {A = ℕ} (nat_lt c.bucket limit) c.calls 0 low in
    let d = cond-true {A = ℕ} (nat_lt bucket limit) 1 0 is in
    omega (arith, a, b, d, fits_more c h)
below_same limit bucket false c is same h =
    let high : nat_lt c.bucket limit ≡ false = ap (λ (x : ℕ). nat_lt x limit) same ∙ is in
    let a = cond-false {A = ℕ} (nat_lt c.bucket limit) (one_more c).calls 0 high in
    let b = cond-false {A = ℕ} (nat_lt c.bucket limit) c.calls 0 high in
    let d = cond-false {A = ℕ} (nat_lt bucket limit) 1 0 is in
    omega (arith, a, b, d)

-- one call more below a limit, or above it
pub below_more : (limit : ℕ) (cs : List Count) (bucket : ℕ) → all_calls cs + 1 < 2 ^ 64
    → below limit (with_time cs bucket) ≡ below limit cs + one_below limit bucket
below_more limit cs bucket fits =
    sum_more (below_one limit) (one_below limit bucket) bucket refl
    (λ c same h. below_same limit bucket (nat_lt bucket limit) c refl same h) cs fits

-- ---- all durations

-- the counts with one duration more
abbrev pub count_time : List Count → ℕ → List Count
count_time cs time = with_time cs (bucket_of time)

abbrev pub counts_of : List ℕ → List Count
counts_of times = fold count_time [] times

-- a duration is in a bucket below the limit
abbrev lower : ℕ → ℕ → Bool
lower limit time = nat_lt (bucket_of time) limit

-- the same from some counts on
counted_from : (limit : ℕ) (cs : List Count) (times : List ℕ) → all_calls cs + length times < 2 ^ 64
    → below limit (fold count_time cs times) ≡ below limit cs + count_by (lower limit) times
counted_from limit cs [] fits = omega arith
counted_from limit cs (t ∷ ts) fits =
    let more : all_calls (count_time cs t) ≡ all_calls cs + 1 = all_more cs (bucket_of t) (omega arith) in
    let rest = counted_from limit (count_time cs t) ts (omega arith) in
    omega (arith, rest, below_more limit cs (bucket_of t) (omega arith), sum_by-cons (λ (x : ℕ). cond (lower limit x) 1 0) t ts)

-- and of all calls
counted_all_from : (cs : List Count) (times : List ℕ) → all_calls cs + length times < 2 ^ 64
    → all_calls (fold count_time cs times) ≡ all_calls cs + length times
counted_all_from cs [] fits = omega arith
counted_all_from cs (t ∷ ts) fits =
    let more : all_calls (count_time cs t) ≡ all_calls cs + 1 = all_more cs (bucket_of t) (omega arith) in
    omega (arith, counted_all_from (count_time cs t) ts (omega arith))

-- as many calls are counted below a limit as there are durations with a bucket below it
pub counted : (limit : ℕ) (times : List ℕ) → length times < 2 ^ 64 → below limit (counts_of times) ≡ count_by (lower limit) times
counted limit times fits = omega (arith, counted_from limit [] times (omega arith))

-- and as many calls in all as there are durations
pub counted_all : (times : List ℕ) → length times < 2 ^ 64 → all_calls (counts_of times) ≡ length times
counted_all times fits = omega (arith, counted_all_from [] times (omega arith))

-- ---- order

-- the buckets rise from here
abbrev pub Rising : ℕ → List Count → Type 0
Rising low [] = Unit {0}
Rising low (c ∷ cs) = (low ≤ c.bucket) × Rising c.bucket cs

-- they still do with one duration more
pub rising_more : (low : ℕ) (cs : List Count) (bucket : ℕ) → low ≤ bucket → Rising low cs → Rising low (with_time cs bucket)
rising_more low [] bucket from rising = (from, tt)
rising_more low (c ∷ cs) bucket from (first, others) = elim (place c bucket) [
  | is_later l ↦ subst (Rising low) (sym (later c cs bucket l)) (first, rising_more c.bucket cs bucket (omega arith) others)
  | is_here l ↦ subst (Rising low) (sym (here c cs bucket l)) (first, others)
  | is_before l ↦ subst (Rising low) (sym (before c cs bucket l)) (from, (omega arith, others))
]

rising_from : (cs : List Count) (times : List ℕ) → Rising 0 cs → Rising 0 (fold count_time cs times)
rising_from cs [] h = h
rising_from cs (t ∷ ts) h = rising_from (count_time cs t) ts (rising_more 0 cs (bucket_of t) (omega arith) h)

pub rising_all : (times : List ℕ) → Rising 0 (counts_of times)
rising_all times = rising_from [] times tt

-- none is below the first bucket
none_below : (limit low : ℕ) (cs : List Count) → limit ≤ low → Rising low cs → below limit cs ≡ 0
none_below limit low [] high rising = refl
none_below limit low (c ∷ cs) high (first, others) =
    omega (
      arith,
      sum_by-cons (below_one limit) c cs,
      cond-false {A = ℕ} (nat_lt c.bucket limit) c.calls 0
          (le-ltb c.bucket limit (omega arith)),
      none_below limit c.bucket cs (omega arith) others,
    )

-- ---- the bucket of a rank

-- the call with this rank is counted in this bucket: fewer calls are in lower ones, and enough in these and it
pub record IsBucketAt (cs : List Count) (low rank bucket : ℕ) : Type 0 where
  pub fewer : below bucket cs < rank
  pub enough : rank ≤ below (bucket + 1) cs
  pub from : low ≤ bucket

-- it is in the first count
found_here : (c : Count) (cs : List Count) (low rank bucket : ℕ) → bucket ≡ c.bucket → Rising low (c ∷ cs) → 0 < rank
    → rank ≤ c.calls → IsBucketAt (c ∷ cs) low rank bucket
found_here c cs low rank bucket is (first, others) some few = record {
  fewer = omega (
    arith,
    sum_by-cons (below_one bucket) c cs,
    cond-false {A = ℕ} (nat_lt c.bucket bucket) c.calls 0
        (le-ltb c.bucket bucket (omega arith)),
    none_below bucket c.bucket cs (omega arith) others,
  );
  enough = omega (
    arith,
    sum_by-cons (below_one (bucket + 1)) c cs,
    cond-true {A = ℕ} (nat_lt c.bucket (bucket + 1)) c.calls 0
        (lt-ltb c.bucket (bucket + 1) (omega arith)),
  );
  from = omega (arith, first);
}

-- of one count no more calls are below a limit than it has
one_at_most : (limit : ℕ) (c : Count) → below_one limit c ≤ c.calls
one_at_most limit c = cond_both (nat_lt c.bucket limit) c.calls 0 (λ x. x ≤ c.calls) (λ e. omega arith) (λ e. omega arith)

-- it is behind the first count
found_later : (c : Count) (cs : List Count) (low rank bucket : ℕ) → Rising low (c ∷ cs) → c.calls < rank
    → IsBucketAt cs c.bucket (rank - c.calls) bucket → IsBucketAt (c ∷ cs) low rank bucket
found_later c cs low rank bucket (first, others) more rest = record {
  fewer = omega (arith, sum_by-cons (below_one bucket) c cs, one_at_most bucket c, rest.fewer);
  enough = omega (
    arith,
    sum_by-cons (below_one (bucket + 1)) c cs,
    cond-true {A = ℕ} (nat_lt c.bucket (bucket + 1)) c.calls 0
        (lt-ltb c.bucket (bucket + 1) (omega (arith, rest.from))),
    rest.enough,
  );
  from = omega (arith, first, rest.from);
}

-- the bucket at a rank is found, count by count
pub bucket_found : (cs : List Count) (low rank : ℕ) → Rising low cs → 0 < rank → rank ≤ all_calls cs
    → IsBucketAt cs low rank (bucket_at cs rank)
bucket_found [] low rank rising some few = absurd (omega arith)
bucket_found (c ∷ cs) low rank (first, others) some few = elim (cases_lt c.calls rank) [
  | inl more ↦ subst (IsBucketAt (c ∷ cs) low rank)
      (sym (cond-false {A = ℕ} (nat_le rank c.calls) c.bucket (bucket_at cs (rank - c.calls)) (lt-leb rank c.calls more)))
      (found_later c cs low rank (bucket_at cs (rank - c.calls)) (first, others) more
      (bucket_found cs c.bucket (rank - c.calls) others (omega arith)
      (omega (arith, sum_by-cons (λ (c : Count). c.calls) c cs))))
  | inr enough ↦ found_here c cs low rank (bucket_at (c ∷ cs) rank)
      (cond-true {A = ℕ} (nat_le rank c.calls) c.bucket (bucket_at cs (rank - c.calls)) (le-leb rank c.calls enough))
      (first, others) some enough
]

-- ---- it is that of the duration with the rank

-- a test that implies another holds no more often
fewer_by : (p q : ℕ → Bool) (times : List ℕ) → ((t : ℕ) → p t ≡ true → q t ≡ true) → count_by p times ≤ count_by q times
fewer_by p q times all =
    sum_by-le-sum_by (λ (t : ℕ). cond (p t) 1 0) (λ (t : ℕ). cond (q t) 1 0) times (λ t. one_fewer (p t) (q t) (all t)) where
      one_fewer : (a b : Bool) → (a ≡ true → b ≡ true) → cond a 1 0 ≤ cond b 1 0
      one_fewer true true h = omega arith
      one_fewer true false h = absurd (true≢false (sym (h refl)))
      one_fewer false b h = omega arith

module _ (times : List ℕ) (rank exact : ℕ) (ranked : HasRank rank times exact) (fits : length times < 2 ^ 64) where
  -- fewer durations are shorter
  abbrev few_shorter : count_by (λ (t : ℕ). nat_lt t exact) times < rank
  few_shorter = ranked.0

  -- enough aren't longer
  abbrev enough_within : rank ≤ count_by (λ (t : ℕ). nat_le t exact) times
  enough_within = ranked.1

  -- the bucket at the rank
  at : IsBucketAt (counts_of times) 0 rank (bucket_at (counts_of times) rank)
  at =
      bucket_found (counts_of times) 0 rank (rising_all times)
      (omega (arith, few_shorter))
      (omega (arith, enough_within, count_by-le-length (λ (t : ℕ). nat_le t exact) times, counted_all times fits))

  not_lower : bucket_at (counts_of times) rank < bucket_of exact → ⊥
  not_lower h =
      let all : (t : ℕ) → lower (bucket_at (counts_of times) rank + 1) t ≡ true → nat_lt t exact ≡ true =
      λ t is. lt-ltb t exact (elim (cases_lt t exact) [
        | inl less ↦ less
        | inr more ↦ absurd (omega (arith, bucket_rises exact t more, ltb-true (bucket_of t) (bucket_at (counts_of times) rank + 1) is))
      ]) in
      omega (arith, at.enough, counted (bucket_at (counts_of times) rank + 1) times fits, fewer_by _ _ times all, few_shorter)

  not_higher : bucket_of exact < bucket_at (counts_of times) rank → ⊥
  not_higher h =
      let all : (t : ℕ) → nat_le t exact ≡ true → lower (bucket_at (counts_of times) rank) t ≡ true =
      λ t is. lt-ltb (bucket_of t) (bucket_at (counts_of times) rank) (omega (arith, bucket_rises t exact (leb-true t exact is))) in
      omega (arith, at.fewer, counted (bucket_at (counts_of times) rank) times fits, fewer_by _ _ times all, enough_within)

  -- so it is the same bucket
  pub bucket_ranked : bucket_at (counts_of times) rank ≡ bucket_of exact
  bucket_ranked = elim (cases_lt (bucket_at (counts_of times) rank) (bucket_of exact)) [
    | inl low ↦ absurd (not_lower low)
    | inr high ↦ elim (cases_lt (bucket_of exact) (bucket_at (counts_of times) rank)) [
      | inl above ↦ absurd (not_higher above)
      | inr same ↦ omega arith
    ]
  ]

-- ---- where a duration is counted

-- no bucket is below the first one
all_above : (low : ℕ) (cs : List Count) (j : ℕ) (d : Count) → Rising low cs → j < length cs → low ≤ by_bucket (get_or cs j d)
all_above low [] j d rising less = absurd (omega arith)
all_above low (c ∷ cs) zero d (first, others) less = first
all_above low (c ∷ cs) (suc j) d (first, others) less = omega (arith, first, all_above c.bucket cs j d others (omega arith))

-- `Rising` buckets are sorted as the code's invariant says it, and the other way round
pub sorted_from : (low : ℕ) (cs : List Count) → Rising low cs → IsNonDecreasingBy by_bucket cs
sorted_from low [] rising i j d le less = absurd (omega arith)
sorted_from low (c ∷ cs) (first, others) zero zero d le less = omega arith
sorted_from low (c ∷ cs) (first, others) zero (suc j) d le less = all_above c.bucket cs j d others (omega arith)
sorted_from low (c ∷ cs) (first, others) (suc i) zero d le less = absurd (omega arith)
sorted_from low (c ∷ cs) (first, others) (suc i) (suc j) d le less =
    sorted_from c.bucket cs others i j d (omega arith) (omega arith)

pub rising_of : (low : ℕ) (cs : List Count) → ((j : ℕ) (d : Count) → j < length cs → low ≤ by_bucket (get_or cs j d))
    → IsNonDecreasingBy by_bucket cs → Rising low cs
rising_of low [] above h = tt
rising_of low (c ∷ cs) above h = (
  above 0 c (omega arith),
  rising_of c.bucket cs (λ j d less. h 0 (suc j) d (omega arith) (omega arith))
      (λ i j d le less. h (suc i) (suc j) d (omega arith) (omega arith)),
)

-- counts stay sorted with one duration more
pub sorted_more : (cs : List Count) (bucket : ℕ) → IsNonDecreasingBy by_bucket cs → IsNonDecreasingBy by_bucket (with_time cs bucket)
sorted_more cs bucket h =
    sorted_from 0 (with_time cs bucket) (rising_more 0 cs bucket (omega arith) (rising_of 0 cs (λ j d less. omega arith) h))

-- ---- the place of a bucket

-- the test of the code, at the place of a count
pub has_at : (cs : List Count) (k bucket : ℕ) (a : Count) → k < length cs → a ≡ get_or cs k a
    → has_bucket cs k bucket ≡ (a.bucket == bucket)
has_at [] k bucket a h e = absurd (omega arith)
has_at (c ∷ cs) zero bucket a h e = ap (λ (x : Count). x.bucket == bucket) (sym e)
has_at (c ∷ cs) (suc k) bucket a h e = has_at cs k bucket a (omega arith) e

-- at the end
pub has_none : (cs : List Count) (k bucket : ℕ) → length cs ≤ k → has_bucket cs k bucket ≡ false
has_none [] k bucket h = refl
has_none (c ∷ cs) zero bucket h = absurd (omega arith)
has_none (c ∷ cs) (suc k) bucket h = has_none cs k bucket (omega arith)

-- only within the counts
pub has_within : (cs : List Count) (k bucket : ℕ) → has_bucket cs k bucket ≡ true → k < length cs
has_within [] k bucket h = absurd (true≢false (sym h))
has_within (c ∷ cs) zero bucket h = omega arith
has_within (c ∷ cs) (suc k) bucket h = omega (arith, has_within cs k bucket h)

-- all counts before this place have lower buckets
abbrev pub AllLower : List Count → ℕ → ℕ → Type 0
AllLower cs i bucket = (k : ℕ) (d : Count) → 0 ≤ k → k < i → nat_lt (get_or cs k d).bucket bucket ≡ true

-- and none from this place on
abbrev pub NoneLower : List Count → ℕ → ℕ → Type 0
NoneLower cs i bucket = (k : ℕ) (d : Count) → i ≤ k → k < length cs → nat_lt (get_or cs k d).bucket bucket ≡ false

rest_lower : (c : Count) (cs : List Count) (i bucket : ℕ) → AllLower (c ∷ cs) (suc i) bucket → AllLower cs i bucket
rest_lower c cs i bucket h k d _ less = h (suc k) d (omega arith) (omega arith)

first_lower : (c : Count) (cs : List Count) (i bucket : ℕ) → AllLower (c ∷ cs) (suc i) bucket → c.bucket < bucket
first_lower c cs i bucket h = ltb-true c.bucket bucket (h 0 c (omega arith) (omega arith))

-- the bucket is there, so its count is replaced
pub put_more : (cs : List Count) (i bucket calls : ℕ) (d : Count) → AllLower cs i bucket → has_bucket cs i bucket ≡ true
    → calls ≡ cut ((get_or cs i d).calls + 1)
    → slice_set cs i (record { bucket = bucket; calls = calls }) ≡ with_time cs bucket
put_more [] i bucket calls d low has e = absurd (true≢false (sym has))
put_more (c ∷ cs) zero bucket calls d low has e =
    let same : c.bucket ≡ bucket = eqb-true c.bucket bucket has in
    (λ j. record { bucket = sym same j; calls = e j } ∷ cs) ∙ sym (here c cs bucket same)
put_more (c ∷ cs) (suc i) bucket calls d low has e =
    ap (λ (xs : List Count). c ∷ xs) (put_more cs i bucket calls d (rest_lower c cs i bucket low) has e)
    ∙ sym (later c cs bucket (first_lower c cs i bucket low))

-- it isn't there, so a count is inserted
pub put_new : (cs : List Count) (i bucket : ℕ) → i ≤ length cs → AllLower cs i bucket → NoneLower cs i bucket
    → has_bucket cs i bucket ≡ false → insert cs i (one_in bucket) ≡ with_time cs bucket
put_new [] zero bucket within low high has = refl
put_new [] (suc i) bucket within low high has = absurd (omega arith)
put_new (c ∷ cs) zero bucket within low high has =
    let above : bucket ≤ c.bucket = ltb-false c.bucket bucket (high 0 c (omega arith) (omega arith)) in
    let other : c.bucket ≡ bucket → ⊥ = eqb-false c.bucket bucket has in
    sym (before c cs bucket (omega arith))
put_new (c ∷ cs) (suc i) bucket within low high has =
    ap (λ (xs : List Count). c ∷ xs) (put_new cs i bucket (omega arith) (rest_lower c cs i bucket low)
    (λ k d le less. high (suc k) d (omega arith) (omega arith)) has) ∙ sym (later c cs bucket (first_lower c cs i bucket low))

-- counts stay sorted whether or not a new one was put (`b`)
pub sorted_if : (b : Bool) (old new put : List Count) (bucket : ℕ) → IsNonDecreasingBy by_bucket old → put ≡ with_time old bucket
    → new ≡ (if b then put else old) → IsNonDecreasingBy by_bucket new
sorted_if true old new put bucket h same is = subst (IsNonDecreasingBy by_bucket) (sym (is ∙ same)) (sorted_more old bucket h)
sorted_if false old new put bucket h same is = subst (IsNonDecreasingBy by_bucket) (sym is) h
