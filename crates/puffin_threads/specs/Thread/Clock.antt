-- What contracts see of the system's clock.
use Rattle.std.specs.Prelude.{ℤ}
use Rattle.puffin_threads.specs.declared.thread_profiler.clock.SystemClock.{SystemClock}

-- the time at which it was made
abbrev pub clock_start : {R : Type 0} → SystemClock R → ℤ
clock_start clock = clock.start_ns

-- its last answer, or its start before the first one
abbrev pub last_answer : {R : Type 0} → SystemClock R → ℤ
last_answer clock = clock.last_ns

-- the monotonic clock's time when it was made
abbrev pub clock_begun : {R : Type 0} → SystemClock R → ℤ
clock_begun clock = clock.begun_ns
