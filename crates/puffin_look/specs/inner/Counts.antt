-- Durations that were counted by bucket.
use Rattle.std.specs.Prelude.{ℕ, ◌+◌, ◌-◌, Bool, nat_lt, nat_le, ◌==◌, zero, suc, false, List, [], ◌∷◌, if◌then◌else◌}
use Rattle.puffin_view.specs.View.Stats.{cut}
use Rattle.puffin_look.specs.declared.histogram.Count.{Count}

abbrev pub by_bucket : Count → ℕ
by_bucket count = count.bucket

abbrev pub one_in : ℕ → Count
one_in bucket = record { bucket = bucket; calls = 1 }

abbrev pub one_more : Count → Count
one_more count = record { bucket = count.bucket; calls = cut (count.calls + 1) }

-- with one duration more in this bucket
abbrev pub with_time : List Count → ℕ → List Count
with_time [] bucket = one_in bucket ∷ []
with_time (count ∷ counts) bucket =
    if nat_lt count.bucket bucket then count ∷ with_time counts bucket else
    if count.bucket == bucket then one_more count ∷ counts else one_in bucket ∷ (count ∷ counts)

-- the bucket of the duration with this rank
abbrev pub bucket_at : List Count → ℕ → ℕ
bucket_at [] rank = 0
bucket_at (count ∷ counts) rank =
    if nat_le rank count.calls then count.bucket else bucket_at counts (rank - count.calls)

-- whether the count at a place is that of a bucket
abbrev pub has_bucket : List Count → ℕ → ℕ → Bool
has_bucket [] place bucket = false
has_bucket (count ∷ counts) zero bucket = count.bucket == bucket
has_bucket (count ∷ counts) (suc place) bucket = has_bucket counts place bucket
