-- What contracts see of a guard.
use Rattle.std.specs.Prelude.{ℕ, Option, Some, None}
use Rattle.std.specs.Borrow.{GName}
use Rattle.puffin_data.specs.declared.error.Error.{Error}
use Rattle.puffin_threads.specs.declared.thread_profiler.profiler.ThreadProfiler.{ThreadProfiler}
use Rattle.puffin_scopes.specs.declared.guard_state.GuardState.{GuardState}
use Rattle.puffin_scopes.specs.declared.guard_state.GuardState.TheVariants.{On, Off, Refused}
use Rattle.puffin_scopes.specs.declared.profiler_scope.ProfilerScope.{ProfilerScope}

-- the borrowed profiler, as it is now
abbrev pub profiler_of : {Clock : Type 0} → ProfilerScope Clock → ThreadProfiler Clock
profiler_of scope = scope.profiler.now

-- the ghost name of the guard's borrow, which tells this borrow from any other
abbrev pub lender_of : {Clock : Type 0} → ProfilerScope Clock → GName
lender_of scope = scope.profiler.ghost_name

-- the offset of the size of the scope that began, if it did
abbrev pub offset_in : GuardState → Option ℕ
offset_in (On offset) = Some offset
offset_in Off = None
offset_in (Refused cause) = None

-- why the scope was refused, if it was
abbrev pub refusal_in : GuardState → Option Error
refusal_in (On offset) = None
refusal_in Off = None
refusal_in (Refused cause) = Some cause

-- the offset of the size of the guard's scope, if it has one
abbrev pub offset_of : {Clock : Type 0} → ProfilerScope Clock → Option ℕ
offset_of scope = offset_in scope.state

-- why the guard's scope was refused, if it was
abbrev pub guard_refusal : {Clock : Type 0} → ProfilerScope Clock → Option Error
guard_refusal scope = refusal_in scope.state
