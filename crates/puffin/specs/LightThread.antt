-- What contracts see of a light thread.
use Rattle.std.specs.Prelude.{ℕ}
use Rattle.puffin_threads.specs.declared.thread_profiler.profiler.ThreadProfiler.{ThreadProfiler}
use Rattle.puffin.specs.declared.light.scopes.ThreadScopes.{ThreadScopes}
use Rattle.puffin.specs.declared.light.thread.Thread.{Thread}

-- its profiler
abbrev pub profiler_of : {C R : Type 0} → Thread C R → ThreadProfiler C
profiler_of thread = thread.profiler

-- where it reports to
abbrev pub reporter_of : {C R : Type 0} → Thread C R → R
reporter_of thread = thread.reporter

-- the scopes that it knows
abbrev pub scopes_of : {C R : Type 0} → Thread C R → ThreadScopes
scopes_of thread = thread.scopes

-- the number of scopes that were refused when they should have begun, or the largest `u64` if there were more
abbrev pub refused_of : {C R : Type 0} → Thread C R → ℕ
refused_of thread = thread.refused
