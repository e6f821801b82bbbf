-- The summary of the frames read so far, kept in the memory of one frame.
use Rattle.std.specs.Prelude.{◌≡◌, ◌<◌, ◌≤◌, ◌-◌, ◌^◌, List, [], ◌∷◌, ◌++◌, Ok, Err, map, length}
use Rattle.std.specs.List.{flat_map}
use Rattle.puffin_data.specs.declared.error.Error.{Error}
use Rattle.puffin_data.specs.declared.error.Error.TheVariants.{Memory}
use Rattle.puffin_threads.specs.Thread.ThreadKey.{ThreadKey, key_of}
use Rattle.puffin_threads.specs.Details.Collection.{no_details, with_all_details}
use Rattle.puffin_frames.specs.Packet.Stored.{PacketFields, Stored}
use Rattle.puffin_view.specs.View.{last_index}
use Rattle.puffin_view.specs.View.ViewedFrames.{fields_of, rising_end}
use Rattle.puffin_view.specs.View.File.{frame_stored, details_stored}
use Rattle.puffin_merge.specs.declared.merge.merger.Merger.{Merger}
use Rattle.puffin_merge.specs.Merge.FrameBytes.{FrameBytes}
use Rattle.puffin_merge.specs.Merge.Refusals.{IsMergeRefusal}
use Rattle.puffin_merge.specs.Merge.Merger.{HasAdded, merged_info}
use Rattle.puffin_report.specs.declared.summing.Progress.{Progress}
use Rattle.puffin_report.specs.declared.summing.Progress.TheVariants as progress
use Rattle.puffin_report.specs.declared.summing.Summing.{Summing}
use Rattle.puffin_report.specs.Summary.{all_bytes_in}

-- the contents of the frames that were read
abbrev pub said_by : List Stored → List PacketFields
said_by stored = map fields_of (map frame_stored stored)

-- those from the last frame whose index isn't greater than that of the frame before it
abbrev pub kept_of : List Stored → List PacketFields
kept_of stored = rising_end (said_by stored)

-- ---- how far merging got with the kept frames

-- all of them were unpacked and added
pub record AreAdded (info : ThreadKey) (kept : List PacketFields) (merger : Merger) : Type 0 where
  pub streams : List FrameBytes
  pub unpacked : all_bytes_in info kept ≡ Ok streams
  pub added : HasAdded streams merger
  pub thread : merged_info merger ≡ info

-- all of them were unpacked, and merging them is refused with this cause, whatever frames follow
pub record AreRefused (info : ThreadKey) (kept : List PacketFields) (cause : Error) : Type 0 where
  pub streams : List FrameBytes
  pub unpacked : all_bytes_in info kept ≡ Ok streams
  pub not_memory : cause ≡ Memory → ⊥
  pub refused : (later : List FrameBytes) → IsMergeRefusal (streams ++ later) cause

-- either of these two, or the fault of the first frame that can't be unpacked
abbrev pub IsProgress : ThreadKey → List PacketFields → Progress → Type 0
IsProgress info kept (progress.Merged merger) = AreAdded info kept merger
IsProgress info kept (progress.Refused cause) = AreRefused info kept cause
IsProgress info kept (progress.NotUnpacked fault) = all_bytes_in info kept ≡ Err fault

-- the progress of some frames, to which one more can be added
pub record CanGoOn (progress : Progress) : Type 0 where
  pub info : ThreadKey
  pub kept : List PacketFields
  pub so_far : IsProgress info kept progress
  pub fewer : length kept < 2 ^ 64 - 1

-- the progress of the frames that, followed by this one, are those kept of all
pub record IsKeptWith (info : ThreadKey) (all : List PacketFields) (next : PacketFields)
    (reached : Progress) : Type 0 where
  pub before : List PacketFields
  pub fewer : length before ≤ length all
  pub progress : IsProgress info before reached
  pub kept : rising_end (all ++ next ∷ []) ≡ before ++ next ∷ []

-- ---- how far summing up got with the frames that were read

-- what was summed up so far is that of these frames
pub record HasSummed (info : ThreadKey) (stored : List Stored) (sum : Summing) : Type 0 where
  pub thread : key_of sum.thread.now ≡ info
  pub last : sum.last_index ≡ last_index (said_by stored)
  pub scopes : sum.scopes ≡ with_all_details no_details (flat_map details_stored stored)
  pub progress : IsProgress info (kept_of stored) sum.progress

-- Some frames were read, and one more can be.
pub record CanTake (sum : Summing) : Type 0 where
  pub info : ThreadKey
  pub stored : List Stored
  pub summed : HasSummed info stored sum
  pub fewer : length stored < 2 ^ 64 - 1
