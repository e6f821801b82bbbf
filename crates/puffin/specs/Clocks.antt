-- Clocks of threads that agree.
use Rattle.std.specs.Prelude.{◌≡◌, ℤ, List, All}
use Rattle.puffin_threads.specs.declared.thread_profiler.clock.SystemClock.{SystemClock}
use Rattle.puffin_threads.specs.Thread.Clock.{clock_start, clock_begun}

-- the clock has this start, on the wall clock and on the monotonic one
abbrev pub StartsAt : {R : Type 0} → ℤ → ℤ → SystemClock R → Type 0
StartsAt start begun clock = (clock_start clock ≡ start) × (clock_begun clock ≡ begun)

-- these clocks and this one have one start
abbrev pub AgreeWith : {T R : Type 0} → (T → SystemClock R) → SystemClock R → List T → Type 0
AgreeWith clock_of clock threads =
    (start begun : ℤ)
    × StartsAt start begun clock
    × All (λ thread. StartsAt start begun (clock_of thread)) threads
