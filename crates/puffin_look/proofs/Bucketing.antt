-- Buckets of durations: what they contain, and how wide they are.
--
-- `bucket_in n` and `last_in n` halve a duration, or a bucket, at most `n` times. With as many steps as the number itself there are always
-- enough of them, so the number of steps doesn't matter (`steady`, `last_steady`), and each fact goes by the halvings.
use Rattle.std.proofs.Common.{◌≡◌, ℕ, zero, suc, ◌+◌, ◌-◌, ◌*◌, ◌/◌, ◌^◌, ◌<◌, ◌≤◌, inl, inr, refl, sym, ap, ◌∙◌, arith}
use Rattle.std.specs.Prelude.{nat_lt}
use Rattle.std.proofs.lemmas.Bool.{cases_lt, lt-ltb, le-ltb, cond-true, cond-false}
use Rattle.puffin_view.specs.View.Stats.{cut}
use Rattle.puffin_look.specs.Buckets.{bucket_in, bucket_of, last_in, last_of}

-- ---- how often it is halved

-- a short duration is its own bucket
small_in : (n time : ℕ) → time < 256 → bucket_in n time ≡ time
small_in zero time h = refl
small_in (suc n) time h = cond-true (nat_lt time 256) time (128 + bucket_in n (time / 2)) (lt-ltb time 256 h)

-- a longer one is in a bucket 128 above that of its half
halved_in : (n time : ℕ) → 256 ≤ time → bucket_in (suc n) time ≡ 128 + bucket_in n (time / 2)
halved_in n time h = cond-false (nat_lt time 256) time (128 + bucket_in n (time / 2)) (le-ltb time 256 h)

-- more steps than the duration change nothing
steady : (n m time : ℕ) → time ≤ n → time ≤ m → bucket_in n time ≡ bucket_in m time
steady zero m time a b = sym (small_in m time (omega arith))
steady (suc n) zero time a b = small_in (suc n) time (omega arith)
steady (suc n) (suc m) time a b = elim (cases_lt time 256) [
  | inl small ↦ small_in (suc n) time small ∙ sym (small_in (suc m) time small)
  | inr large ↦ halved_in n time large ∙ ap (λ (b : ℕ). 128 + b) (steady n m (time / 2) (omega arith) (omega arith))
      ∙ sym (halved_in m time large)
]

-- the same of `bucket_of`, which takes enough steps
pub bucket_small : (time : ℕ) → time < 256 → bucket_of time ≡ time
bucket_small time h = small_in time time h

halved_by : (n time : ℕ) → time ≡ suc n → 256 ≤ time → bucket_in (suc n) time ≡ 128 + bucket_of (time / 2)
halved_by n time is h = halved_in n time h ∙ ap (λ (b : ℕ). 128 + b) (steady n (time / 2) (time / 2) (omega arith) (omega arith))

pub bucket_halved : (time : ℕ) → 256 ≤ time → bucket_of time ≡ 128 + bucket_of (time / 2)
bucket_halved zero h = absurd (omega arith)
bucket_halved (suc n) h = halved_by n (suc n) refl h

-- ---- the last of a bucket

-- a low bucket has one duration
last_small_in : (n bucket : ℕ) → bucket < 256 → last_in n bucket ≡ bucket
last_small_in zero bucket h = refl
last_small_in (suc n) bucket h = cond-true (nat_lt bucket 256) bucket (cut (cut (last_in n (bucket - 128) * 2) + 1)) (lt-ltb bucket 256 h)

-- the last duration of a higher one is twice that of the bucket 128 below, and one more
doubled_in : (n bucket : ℕ) → 256 ≤ bucket → last_in (suc n) bucket ≡ cut (cut (last_in n (bucket - 128) * 2) + 1)
doubled_in n bucket h = cond-false (nat_lt bucket 256) bucket (cut (cut (last_in n (bucket - 128) * 2) + 1)) (le-ltb bucket 256 h)

-- more steps than the bucket change nothing
last_steady : (n m bucket : ℕ) → bucket ≤ n → bucket ≤ m → last_in n bucket ≡ last_in m bucket
last_steady zero m bucket a b = sym (last_small_in m bucket (omega arith))
last_steady (suc n) zero bucket a b = last_small_in (suc n) bucket (omega arith)
last_steady (suc n) (suc m) bucket a b = elim (cases_lt bucket 256) [
  | inl small ↦ last_small_in (suc n) bucket small ∙ sym (last_small_in (suc m) bucket small)
  | inr large ↦ doubled_in n bucket large
      ∙ ap (λ (x : ℕ). cut (cut (x * 2) + 1)) (last_steady n m (bucket - 128) (omega arith) (omega arith))
      ∙ sym (doubled_in m bucket large)
]

-- the same of `last_of`, which takes enough steps
pub last_small : (bucket : ℕ) → bucket < 256 → last_of bucket ≡ bucket
last_small bucket h = last_small_in bucket bucket h

pub last_doubled : (bucket : ℕ) → 256 ≤ bucket → last_of bucket ≡ cut (cut (last_of (bucket - 128) * 2) + 1)
last_doubled zero h = absurd (omega arith)
last_doubled (suc n) h =
    doubled_in n (suc n) h ∙ ap (λ (x : ℕ). cut (cut (x * 2) + 1)) (last_steady n (suc n - 128) (suc n - 128) (omega arith)
    (omega arith))

-- ---- bounds

below_in : (n time : ℕ) → bucket_in n time ≤ time
below_in zero time = omega arith
below_in (suc n) time = elim (cases_lt time 256) [
  | inl small ↦ omega (arith, small_in (suc n) time small)
  | inr large ↦ omega (arith, halved_in n time large, below_in n (time / 2))
]

-- a duration from 128 on is in no lower bucket
not_low_in : (n time : ℕ) → 128 ≤ time → 128 ≤ bucket_in n time
not_low_in zero time h = h
not_low_in (suc n) time h = elim (cases_lt time 256) [
  | inl small ↦ omega (arith, small_in (suc n) time small)
  | inr large ↦ omega (arith, halved_in n time large)
]

-- in as many steps
rises_in : (n s t : ℕ) → t ≤ n → s ≤ t → bucket_in n s ≤ bucket_in n t
rises_in zero s t a b = b
rises_in (suc n) s t a b = elim (cases_lt t 256) [
  | inl small ↦ let one : s < 256 = omega arith in omega (arith, small_in (suc n) s one, small_in (suc n) t small)
  | inr large ↦ elim (cases_lt s 256) [
    | inl low ↦ omega (arith, small_in (suc n) s low, halved_in n t large, not_low_in n (t / 2) (omega arith))
    | inr high ↦ omega (arith, halved_in n s high, halved_in n t large, rises_in n (s / 2) (t / 2) (omega arith) (omega arith))
  ]
]

-- a longer duration isn't in a lower bucket
pub bucket_rises : (s t : ℕ) → s ≤ t → bucket_of s ≤ bucket_of t
bucket_rises s t h = omega (arith, steady s t s (omega arith) h, rises_in t s t (omega arith) h)

-- ---- how far the last of a bucket is from a duration in it

-- the last of a bucket is not before a duration in it, and less than a 128th behind it
pub record IsNear (time last : ℕ) : Type 0 where
  pub reached : time ≤ last
  pub near : 128 ≤ time → (last - time + 1) * 128 ≤ time
  pub exact : time < 256 → last ≡ time

-- a low bucket has one duration
near_small : (time : ℕ) → time < 256 → IsNear time (last_of (bucket_of time))
near_small time small =
    let same : last_of (bucket_of time) ≡ time = ap last_of (bucket_small time small) ∙ last_small time small in
    record { reached = omega (arith, same); near = λ h. omega (arith, same); exact = λ h. same }

-- what holds of the half holds of the whole
stepped : (time half last double : ℕ) → half ≡ time / 2 → 256 ≤ time → time < 2 ^ 64 → IsNear half last
    → double ≡ cut (cut (last * 2) + 1) → IsNear time double
stepped time half last double is large fits h same =
    let wide : (last - half + 1) * 128 ≤ half = h.near (omega arith) in
    let on : half ≤ last = h.reached in
    record { reached = omega arith; near = λ g. omega arith; exact = λ g. absurd (omega arith) }

-- one halving less
near_step : (time : ℕ) → 256 ≤ time → time < 2 ^ 64 → IsNear (time / 2) (last_of (bucket_of (time / 2)))
    → IsNear time (last_of (bucket_of time))
near_step time large fits h =
    let low : 128 ≤ bucket_of (time / 2) = not_low_in (time / 2) (time / 2) (omega arith) in
    let below : bucket_of time - 128 ≡ bucket_of (time / 2) = omega (arith, bucket_halved time large) in
    stepped time (time / 2) (last_of (bucket_of (time / 2))) (last_of (bucket_of time)) refl large fits h
    (last_doubled (bucket_of time) (omega (arith, bucket_halved time large)) ∙ ap (λ (b : ℕ). cut (cut (last_of b * 2) + 1)) below)

near_in : (n time : ℕ) → time ≤ n → time < 2 ^ 64 → IsNear time (last_of (bucket_of time))
near_in zero time a fits = near_small time (omega arith)
near_in (suc n) time a fits = elim (cases_lt time 256) [
  | inl small ↦ near_small time small
  | inr large ↦ near_step time large fits (near_in n (time / 2) (omega arith) (omega arith))
]

-- each duration fits 64 bits
pub last_is_near : (time : ℕ) → time < 2 ^ 64 → IsNear time (last_of (bucket_of time))
last_is_near time fits = near_in time time (omega arith) fits
