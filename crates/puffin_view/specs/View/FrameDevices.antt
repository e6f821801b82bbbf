-- What contracts see of a reader of frames, as its source, and of a writer of frames, as its drain and its details.
use Rattle.std.specs.Prelude.{◌≡◌, ℕ, ◌+◌, ◌-◌, ◌^◌, Bool, true, false, [], Option, Some, None, Result, Ok, Err, min}
use Rattle.puffin_data.specs.declared.file_error.FileError.{FileError}
use Rattle.puffin_view.specs.declared.profile_view.frame_file.FrameReader.{FrameReader}
use Rattle.puffin_view.specs.declared.profile_view.frame_file.FrameWriter.{FrameWriter}
use Rattle.puffin_threads.specs.Details.Collection.{Collection, with_all_details}
use Rattle.puffin_frames.specs.declared.frame_data.frame.FrameData.{FrameData}
use Rattle.puffin_frames.specs.Frame.Contents.{frame_details}
use Rattle.puffin_frames.specs.Packet.Stored.{PacketFields}
use Rattle.puffin_view.specs.View.FrameFile.{HoldsFile, fields_if}

-- the source that frames are read from
abbrev pub source_of : {S : Type 0} {s : _} → FrameReader S s → S
source_of reader = reader.source

-- whether the end or a fault was returned
abbrev pub is_done_of : {S : Type 0} {s : _} → FrameReader S s → Bool
is_done_of reader = reader.is_done

-- how many frames were returned
abbrev pub num_frames_of : {S : Type 0} {s : _} → FrameReader S s → ℕ
num_frames_of reader = reader.num_frames

-- the same after a call; the number stays at the greatest that fits 64 bits
abbrev pub frames_after : {X : Type 0} → Result (Option X) FileError → ℕ → ℕ
frames_after (Ok (Some frame)) number = min (number + 1) (2 ^ 64 - 1)
frames_after (Ok None) number = number
frames_after (Err fault) number = number

-- whether a call returned the end or a fault, and no frame
abbrev pub ends_reading : {X : Type 0} → Result (Option X) FileError → Bool
ends_reading (Ok (Some frame)) = false
ends_reading (Ok None) = true
ends_reading (Err fault) = true

-- the drain that frames are written to
abbrev pub drain_of : {D : Type 0} {d : _} → FrameWriter D d → D
drain_of writer = writer.drain

-- whether a call failed with `Io`
abbrev pub is_broken_of : {D : Type 0} {d : _} → FrameWriter D d → Bool
is_broken_of writer = writer.is_broken

-- whether its file has no packet yet
abbrev pub is_first_of : {D : Type 0} {d : _} → FrameWriter D d → Bool
is_first_of writer = writer.is_first

-- the same after a call
abbrev pub is_first_after : {X E : Type 0} → Result X E → Bool → Bool
is_first_after (Ok done) is_first = false
is_first_after (Err fault) is_first = is_first

-- the details of all frames that were written
abbrev pub scopes_of : {D : Type 0} {d : _} → FrameWriter D d → Collection
scopes_of writer = writer.scopes

-- what the packet of a frame has: its own details or, if it is the first of its file, those of all frames so far
abbrev pub next_fields : {D : Type 0} {d : _} → FrameWriter D d → FrameData → PacketFields
next_fields writer frame =
    fields_if (is_first_of writer) (with_all_details (scopes_of writer) (frame_details frame)) frame

-- The writer has begun a file on this drain.
pub record BeginsFile {D : Type 0} {d : _} (drain : D) (writer : FrameWriter D d) : Type 0 where
  pub begun : HoldsFile (d.contents drain) (d.contents (drain_of writer)) []
  pub none_failed : d.failures (drain_of writer) ≡ d.failures drain
  pub sound : is_broken_of writer ≡ false
  pub first : is_first_of writer ≡ true
