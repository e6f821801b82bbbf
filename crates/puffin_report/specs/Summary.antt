-- The summary of a file: its number of frames, their merge for one thread, and the details of scopes.
use Rattle.std.specs.Prelude.{◌≡◌, ◌⊎◌, ℕ, false, List, [], ◌∷◌, Option, Result, Ok, Err, map, length}
use Rattle.std.specs.List.{flat_map, list_any}
use Rattle.std.specs.Option.{option_map}
use Rattle.std.specs.FinMap as tree
use Rattle.puffin_data.specs.declared.error.Error.{Error}
use Rattle.puffin_data.specs.declared.error.Error.TheVariants.{Memory}
use Rattle.puffin_data.specs.declared.file_error.FileError.{FileError}
use Rattle.puffin_data.specs.declared.file_error.FileError.TheVariants.{Refused}
use Rattle.puffin_threads.specs.Thread.ThreadKey.{ThreadKey}
use Rattle.puffin_frames.specs.Frame.Streams.{Streams}
use Rattle.puffin_threads.specs.Details.{Details}
use Rattle.puffin_threads.specs.Details.Collection.{no_details, with_all_details}
use Rattle.puffin_frames.specs.Frame.Contents.{streams_in_fields}
use Rattle.puffin_frames.specs.Packet.Stored.{PacketFields, Stored}
use Rattle.puffin_view.specs.View.File.{fields_in, frame_stored, details_stored, file_at, read_view, TookFrames, FailsToRead}
use Rattle.puffin_merge.specs.Merge.FrameBytes.{FrameBytes}
use Rattle.puffin_merge.specs.Merge.Refusals.{IsMergeRefusal, AreMerged}
use Rattle.puffin_merge.specs.Merge.Scopes.{stream_in, forest_in}
use Rattle.puffin_view.specs.View.Known.{lacks_ids}
use Rattle.puffin_view.specs.View.{after_all}
use Rattle.puffin_report.specs.declared.summary.Summary.{Summary}

-- what merging reads of a frame with these streams: the start of its range, and the bytes under an info
abbrev pub bytes_under : ThreadKey → PacketFields → Result Streams FileError →
    Result FrameBytes FileError
bytes_under info frame (Ok streams) =
    Ok (
    record {
      start = frame.meta.range_ns.0;
      stream = option_map stream_in (tree.get streams info);
    })
bytes_under info frame (Err cause) = Err cause

-- what merging reads of a frame that is packed, or why it can't be unpacked
abbrev pub bytes_in : ThreadKey → PacketFields → Result FrameBytes FileError
bytes_in info frame = bytes_under info frame (streams_in_fields frame)

-- one frame before the others, or the first cause
abbrev pub followed_by : Result FrameBytes FileError → Result (List FrameBytes) FileError →
    Result (List FrameBytes) FileError
followed_by (Err cause) others = Err cause
followed_by (Ok frame) (Err cause) = Err cause
followed_by (Ok frame) (Ok frames) = Ok (frame ∷ frames)

-- what merging reads of each frame, or the fault of the first frame that can't be unpacked
abbrev pub all_bytes_in : ThreadKey → List PacketFields → Result (List FrameBytes) FileError
all_bytes_in info [] = Ok []
all_bytes_in info (frame ∷ later) = followed_by (bytes_in info frame) (all_bytes_in info later)

-- the contents of the frames of a view that reads these frames
abbrev pub fields_read : List Stored → List PacketFields
fields_read stored = fields_in (after_all read_view (map frame_stored stored))

-- The summary has the number of these frames, their merge under an info, and these details, added in order.
pub record SumsUp (info : ThreadKey) (kept : List PacketFields) (told : List Details)
    (summary : Summary) : Type 0 where
  pub frames : summary.frames ≡ length kept
  pub streams : List FrameBytes
  pub unpacked : all_bytes_in info kept ≡ Ok streams
  pub merged : AreMerged streams (forest_in summary.merged.items)
  pub scopes : summary.scopes ≡ with_all_details no_details told

-- the summary is that of the frames in a view that reads the file, with the details of all frames of the file
abbrev pub IsSummary : ThreadKey → List Stored → Summary → Type 0
IsSummary info stored summary =
    SumsUp info (fields_read stored) (flat_map details_stored stored) summary

-- the details of all frames, in order
abbrev pub details_said : List PacketFields → List Details
details_said frames = flat_map (λ frame. frame.details) frames

-- all details of all frames have ids
abbrev pub NoneLacksIds : List PacketFields → Type 0
NoneLacksIds frames = list_any lacks_ids frames ≡ false

-- all frames can be unpacked, but their merge is refused, with a cause other than memory
abbrev pub IsMergeFault : ThreadKey → List PacketFields → FileError → Type 0
IsMergeFault info frames fault =
    (streams : List FrameBytes)
    × (cause : Error)
    × (all_bytes_in info frames ≡ Ok streams)
    × (fault ≡ Refused cause)
    × (cause ≡ Memory → ⊥)
    × IsMergeRefusal streams cause

-- why frames can't be summed up: the fault of the first that can't be unpacked, or that of their merge
abbrev pub IsHindered : ThreadKey → List PacketFields → FileError → Type 0
IsHindered info frames fault =
    (all_bytes_in info frames ≡ Err fault) ⊎ IsMergeFault info frames fault

-- A call read a device and failed: the device or memory failed, or the bytes taken have this fault, or the frames in them do.
abbrev pub FailsToSumUp : ThreadKey → Option (List ℕ) → Option (List ℕ) → FileError → Type 0
FailsToSumUp info old new fault =
    FailsToRead file_at old new fault
    ⊎ ((stored : List Stored)
    × TookFrames file_at old new stored
    × IsHindered info (fields_read stored) fault)
