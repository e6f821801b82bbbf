-- What contracts see of a profiler with its books.
use Rattle.std.specs.Prelude.{ℕ}
use Rattle.puffin_collector.specs.Collector.State.{Collected}
use Rattle.puffin.specs.declared.global_profiler.booked.Booked.{Booked}
use Rattle.puffin.specs.declared.global_profiler.profiler.GlobalProfiler.{GlobalProfiler}
use Rattle.puffin.specs.Profiler.{collected_of}
use Rattle.puffin.specs.Happenings.{History}

module _ {L M I : Type 0} {F : I → Type 0} where
  -- the profiler itself
  abbrev pub profiler_of : Booked L M I F → GlobalProfiler I F
  profiler_of booked = booked.profiler

  -- what that profiler collects
  abbrev pub collected_in : Booked L M I F → Collected
  collected_in booked = collected_of (profiler_of booked)

  -- what happened so far
  abbrev pub entries_of : Booked L M I F → History
  entries_of booked = booked.log.entries

  -- how many times a thread has arrived at the end of a round
  abbrev pub arrivals_in : Booked L M I F → ℕ
  arrivals_in booked = booked.arrived

  -- how many rounds were released
  abbrev pub releases_in : Booked L M I F → ℕ
  releases_in booked = booked.released
