-- What reading the next frame returns.
use Rattle.std.specs.Prelude.{◌≡◌, ℕ, false, not, List, [], is_some, Option, Some, None, Result, Ok, Err}
use Rattle.std.specs.FinMap.{entries}
use Rattle.puffin_data.specs.Honesty.{StreamFacts}
use Rattle.puffin_data.specs.Device.{FromDevice, FailsAt}
use Rattle.puffin_data.specs.declared.file_error.FileError.{FileError}
use Rattle.puffin_frames.specs.declared.frame_data.frame.FrameData.{FrameData}
use Rattle.puffin_threads.specs.Thread.ThreadKey.{ThreadKey}
use Rattle.puffin_frames.specs.Packet.Structs.{Legacy}
use Rattle.puffin_frames.specs.Frame.Holding.{Packing}
use Rattle.puffin_frames.specs.Packet.Stored.{Stored, packed, legacy}
use Rattle.puffin_frames.specs.Frame.Contents.{Streams, holding_of, frame_meta, frame_details, packet_fields}
use Rattle.puffin_frames.specs.Packet.Front.{next_at, AtEnd}

-- the entries of streams, or none if there are no streams
abbrev pub entries_if_any : Option Streams → List (ThreadKey × StreamFacts)
entries_if_any None = []
entries_if_any (Some streams) = entries streams

-- what a legacy frame stores of an unpacked frame
abbrev pub legacy_of : FrameData → Legacy
legacy_of frame =
    record { meta = frame_meta frame; streams = entries_if_any (holding_of frame).unpacked }

-- a frame as it is stored: as a packet if it is held packed, otherwise as a legacy frame
abbrev pub stored_as : FrameData → Option Packing → Stored
stored_as frame (Some packing) = packed (packet_fields frame)
stored_as frame None = legacy (legacy_of frame)

-- the same, by how the frame is held
abbrev pub stored_of : FrameData → Stored
stored_of frame = stored_as frame (holding_of frame).packed

-- a frame that was read: it is held in one way, `full_delta` is false, and a legacy one has no details
pub record IsFresh (frame : FrameData) : Type 0 where
  pub one_way : is_some (holding_of frame).packed ≡ not (is_some (holding_of frame).unpacked)
  pub full_delta : frame.full_delta ≡ false
  pub no_details : (holding_of frame).packed ≡ None → frame_details frame ≡ []

-- A call took bytes from a device: those of the frame that it returned, whatever follows; or the device is at its end; or the bytes
-- taken have this fault. `old` and `new` are the bytes that the device had before and after, if they are known.
abbrev pub ReadsNext : Option (List ℕ) → Option (List ℕ) → Result (Option FrameData) FileError →
    Type 0
ReadsNext old new (Ok (Some frame)) =
    FromDevice {X = FrameData} (λ read. Some (stored_of read)) old new (Ok frame) next_at
ReadsNext old new (Ok None) = AtEnd old new
ReadsNext old new (Err fault) = FailsAt fault old new next_at
