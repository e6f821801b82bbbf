-- What contracts see of a thread profiler: its thread, its clock and its allocator.
use Rattle.std.specs.declared.alloc.Global.{Global}
use Rattle.puffin_threads.specs.declared.thread_profiler.profiler.ThreadProfiler.{ThreadProfiler}
use Rattle.puffin_threads.specs.Thread.Calls.{Thread}

-- what its thread has recorded
abbrev pub thread_of : {C : Type 0} → ThreadProfiler C → Thread
thread_of profiler = profiler.state

-- its clock
abbrev pub clock_of : {C : Type 0} → ThreadProfiler C → C
clock_of profiler = profiler.clock

-- its allocator
abbrev pub allocator_of : {C : Type 0} → ThreadProfiler C → Global
allocator_of profiler = profiler.alloc

-- the same profiler with another clock
abbrev pub with_clock : {C : Type 0} → ThreadProfiler C → C → ThreadProfiler C
with_clock profiler clock = record profiler { clock = clock }
