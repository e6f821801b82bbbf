-- What a handle holds: a value if it is open, nothing if it isn't.
use Rattle.std.specs.Prelude.{Option, Bool}
use Rattle.puffin_threads.specs.Thread.Calls.{Thread}
use Rattle.puffin_c.specs.declared.handles.PuffinIds.{PuffinIds}
use Rattle.puffin_c.specs.declared.handles.PuffinThread.{PuffinThread}
use Rattle.puffin_c.specs.declared.handles.PuffinProfiler.{PuffinProfiler}
use Rattle.puffin_c.specs.declared.shared_ids.SharedIds.{SharedIds}
use Rattle.puffin_c.specs.declared.profiler.Profiler.{Profiler}
use Rattle.puffin_c.specs.Owning.{ids_of, thread_of, profiler_of}

abbrev pub ids_in : PuffinIds → Option SharedIds
ids_in handle = ids_of handle.slot.held

abbrev pub thread_in : PuffinThread → Option Thread
thread_in handle = thread_of handle.slot.held

-- whether the thread's scopes are on
abbrev pub scopes_on : PuffinThread → Bool
scopes_on handle = handle.is_on

abbrev pub profiler_in : PuffinProfiler → Option Profiler
profiler_in handle = profiler_of handle.slot.held
