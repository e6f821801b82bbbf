-- A map of streams as a list of pairs, as it is read.
use Rattle.std.specs.Prelude.{ℕ, List, Option, Some, None, if◌then◌else◌}
use Rattle.std.specs.FinMap.{is_sorted}
use Rattle.std.specs.declared.sync.Arc.{Arc}
use Rattle.puffin_data.specs.Honesty.{StreamFacts}
use Rattle.puffin_data.specs.Value.Decoding.{◌>>=◌}
use Rattle.puffin_data.specs.declared.data.info.StreamInfo.{StreamInfo}
use Rattle.puffin_threads.specs.declared.thread_profiler.thread_info.ThreadInfo.{ThreadInfo}
use Rattle.puffin_threads.specs.Thread.ThreadKey.{ThreadKey, key_cmp, key_entries}
use Rattle.puffin_frames.specs.Frame.Streams.{records, without_sharing}

-- what threads recorded, as a list of pairs in the order of the map's entries
abbrev pub pairs_of : {A : Type 0} → List (ThreadInfo × Arc StreamInfo A) →
    List (ThreadKey × StreamFacts)
pairs_of entries = key_entries (records (without_sharing entries))

-- the pairs that were read and the bytes after them, if the threads are in ascending order
abbrev pub only_sorted : Option (List (ThreadKey × StreamFacts) × List ℕ) →
    Option (List (ThreadKey × StreamFacts) × List ℕ)
only_sorted read = do
  pairs ← read
  if is_sorted key_cmp pairs.0 then Some pairs else None
