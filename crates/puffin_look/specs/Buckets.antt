-- Durations in buckets: each up to 255 in its own, and above that in one that is at most a 128th of a duration wide.
use Rattle.std.specs.Prelude.{ℕ, zero, suc, ◌+◌, ◌-◌, ◌*◌, ◌/◌, nat_lt, if◌then◌else◌}
use Rattle.puffin_view.specs.View.Stats.{cut}

-- Halving a duration above 255 comes to a bucket that is 128 lower. The first argument limits how often.
abbrev pub bucket_in : ℕ → ℕ → ℕ
bucket_in zero time = time
bucket_in (suc limit) time = if nat_lt time 256 then time else 128 + bucket_in limit (time / 2)

-- the bucket of a duration
abbrev pub bucket_of : ℕ → ℕ
bucket_of time = bucket_in time time

-- Above 255 it is that of the bucket 128 lower, doubled, and one more.
abbrev pub last_in : ℕ → ℕ → ℕ
last_in zero bucket = bucket
last_in (suc limit) bucket =
    if nat_lt bucket 256 then bucket else cut (cut (last_in limit (bucket - 128) * 2) + 1)

-- the greatest duration of 64 bits in a bucket
abbrev pub last_of : ℕ → ℕ
last_of bucket = last_in bucket bucket
