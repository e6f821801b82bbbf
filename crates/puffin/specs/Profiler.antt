-- What contracts see of a profiler: what it collects, and its sinks.
pub mod Calls
use Rattle.std.specs.Prelude.{◌≡◌, ℕ, List, []}
use Rattle.puffin_collector.specs.Collector.State.{Collected, nothing_collected}
use Rattle.puffin.specs.declared.global_profiler.profiler.GlobalProfiler.{GlobalProfiler}
use Rattle.puffin.specs.declared.global_profiler.sinks.SinkEntry.{SinkEntry}

module _ {I : Type 0} {F : I → Type 0} where
  -- what its collector holds
  abbrev pub collected_of : GlobalProfiler I F → Collected
  collected_of profiler = profiler.collector

  -- its sinks, sorted by number
  abbrev pub sinks_of : GlobalProfiler I F → List (SinkEntry I F)
  sinks_of profiler = profiler.sinks.entries.items

  -- the number of the next sink
  abbrev pub next_sink_of : GlobalProfiler I F → ℕ
  next_sink_of profiler = profiler.sinks.next

  -- the sinks and the number of the next one are the same
  abbrev pub SameSinks : GlobalProfiler I F → GlobalProfiler I F → Type 0
  SameSinks old new = new.sinks ≡ old.sinks

  -- nothing was reported, the next frame has this index, and there are no sinks
  pub record IsNewProfiler (index : ℕ) (profiler : GlobalProfiler I F) : Type 0 where
    pub collected : collected_of profiler ≡ nothing_collected index
    pub sinks : sinks_of profiler ≡ []
    pub next : next_sink_of profiler ≡ 1
