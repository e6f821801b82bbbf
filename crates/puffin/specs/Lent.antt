-- What a guard lends, and what is left of what lends.
use Rattle.std.specs.Prelude.{◌≡◌, ◌++◌, ◌∷◌, [], List}
use Rattle.std.specs.Borrow.{GName}
use Rattle.puffin_scopes.specs.declared.guard_state.GuardState.{GuardState}
use Rattle.puffin.specs.declared.light.scopes.Guard.{Guard}
use Rattle.puffin.specs.declared.light.thread.Thread.{Thread}
use Rattle.puffin.specs.Happenings.{Happening, Mark, marked}
use Rattle.puffin.specs.LightThread.{reporter_of}

-- the thread that a guard lends
abbrev pub thread_in : {T : Type 0} → Guard T → T
thread_in guard = guard.thread.now

-- the name under which that thread's value is tracked
abbrev pub thread_name : {T : Type 0} → Guard T → GName
thread_name guard = guard.thread.ghost_name

-- whether its scope began
abbrev pub state_of : {T : Type 0} → Guard T → GuardState
state_of guard = guard.state

-- the guard with another thread behind its reference
abbrev pub with_thread : {T : Type 0} → Guard T → T → Guard T
with_thread guard thread = record guard { thread = record guard.thread { now = thread } }

-- the thread with another reporter
abbrev pub with_reporter : {C P : Type 0} → Thread C P → P → Thread C P
with_reporter thread reporter = record thread { reporter = reporter }

-- a thread marked this: nothing changed but its reporter, which tells this mark after all that it told before
abbrev pub MarksThere : {C P : Type 0} → (P → List Happening) → Thread C P → Mark → Thread C P → Type 0
MarksThere told old mark new =
    (new ≡ with_reporter old (reporter_of new))
    × (told (reporter_of new) ≡ told (reporter_of old) ++ marked mark ∷ [])
