-- What follows the four letters of a version: a packet, a legacy frame, or the first fault from the left.
use Rattle.std.specs.Prelude.{ℕ, ◌||◌, List, slice_index, Option, Some, None, Result, Ok, Err, ◌==◌, if◌then◌else◌}
use Rattle.byteorder.specs.Endian.{little_number}
use Rattle.puffin_data.specs.declared.file_error.FileError.{FileError}
use Rattle.puffin_data.specs.declared.file_error.FileError.TheVariants as file
use Rattle.puffin_data.specs.Part.{◌>>=◌}
use Rattle.puffin_frames.specs.declared.frame_data.version.Version.{Version}
use Rattle.puffin_frames.specs.Packet.Stored.{PacketFields, Stored, packed, legacy}
use Rattle.puffin_frames.specs.Packet.Letters.{digit_0, digit_1, from_letter, text_form, is_packet}
use Rattle.puffin_frames.specs.Packet.Parts.{meta_part_at, streams_part_at, details_part_at, legacy_part_at}

-- a packet of this version, from its meta on, and the bytes after it
abbrev pub packet_at : Version → List ℕ → Result (PacketFields × List ℕ) FileError
packet_at version bytes = do
  meta ← meta_part_at bytes
  streams ← streams_part_at version meta.1
  details ← details_part_at version streams.1
  Ok (
    record {
      meta = meta.0;
      form = text_form version;
      kind = streams.0.0;
      streams = streams.0.1;
      details = details.0;
    },
    details.1,
  )

-- a packet of this version, or why there is none with this letter
abbrev pub packet_if_read : ℕ → Option Version → List ℕ → Result (PacketFields × List ℕ) FileError
packet_if_read letter (Some version) bytes = packet_at version bytes
packet_if_read letter None bytes =
    if (letter == digit_0) || (letter == digit_1) then Err file.Legacy else Err file.Newer

-- the frame that follows the four letters, the last of which is `letter`
abbrev pub version_at : ℕ → List ℕ → Result (PacketFields × List ℕ) FileError
version_at letter bytes = packet_if_read letter (from_letter letter) bytes

-- a reading of a packet or of a legacy frame as one of a stored frame
abbrev pub as_stored : {A : Type 0} → (A → Stored) → Result (A × List ℕ) FileError →
    Result (Option Stored × List ℕ) FileError
as_stored form (Ok read) = Ok (Some (form read.0), read.1)
as_stored form (Err fault) = Err fault

-- the frame that follows a header of four bytes other than four zeros
abbrev pub stored_after : List ℕ → List ℕ → Result (Option Stored × List ℕ) FileError
stored_after header bytes =
    if is_packet header then as_stored packed (version_at (slice_index header 3) bytes)
    else as_stored legacy (legacy_part_at (little_number 4 header) bytes)
