-- What contracts see of a merger: the frames that were added to it.
use Rattle.std.specs.Prelude.{◌≡◌, ℕ, ◌-◌, ◌^◌, ◌<◌, List, [], length}
use Rattle.std.specs.Borrow.{Bor}
use Rattle.puffin_threads.specs.declared.thread_profiler.thread_info.ThreadInfo.{ThreadInfo}
use Rattle.puffin_threads.specs.Thread.ThreadKey.{ThreadKey, key_of}
use Rattle.puffin_merge.specs.declared.merge.merger.Merger.{Merger}
use Rattle.puffin_merge.specs.Merge.Occurrences.{FrameScopes, occurrences}
use Rattle.puffin_merge.specs.Merge.FrameBytes.{FrameBytes, HaveScopes, start_of}
use Rattle.puffin_merge.specs.Merge.Refusals.{AreAccepted}
use Rattle.puffin_merge.specs.inner.Tables.{IsTableOf}

-- the info of the thread whose scopes are merged, as the merger borrows it
abbrev pub lent_info : Merger → Bor ThreadInfo
lent_info merger = merger.info

-- the key of that thread
abbrev pub merged_info : Merger → ThreadKey
merged_info merger = key_of (lent_info merger).now

-- These frames were added, in order; their scopes were accepted and are in the table.
pub record HasAdded (added : List FrameBytes) (merger : Merger) : Type 0 where
  pub scopes : List FrameScopes
  pub have : HaveScopes added scopes
  pub accepted : AreAccepted [] (occurrences scopes)
  pub table : IsTableOf (occurrences scopes) merger.merging.table
  pub number : merger.frames ≡ length added
  pub first : 0 < length added → merger.first ≡ start_of added

-- one try for each scope of the added frames
abbrev pub tries_for : {added : List FrameBytes} → {merger : Merger} → HasAdded added merger → ℕ
tries_for has_added = length (occurrences has_added.scopes)

-- some frames were added, and the count of one more fits `usize`
abbrev pub CanAdd : Merger → Type 0
CanAdd merger =
    ((added : List FrameBytes) × HasAdded added merger) × (merger.frames < 2 ^ 64 - 1)
