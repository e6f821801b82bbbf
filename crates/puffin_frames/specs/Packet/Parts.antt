-- Reading the parts of a packet or of a legacy frame.
use Rattle.std.specs.Prelude.{ℕ, List, [], Option, Some, None, Result, Ok, Err, if◌then◌else◌}
use Rattle.puffin_data.specs.declared.file_error.FileError.{FileError}
use Rattle.puffin_data.specs.declared.file_error.FileError.TheVariants as file
use Rattle.puffin_data.specs.Range.{is_valid_range_at}
use Rattle.puffin_data.specs.Value.Decoding.{whole}
use Rattle.puffin_data.specs.Part.{◌>>=◌, part_of, first_at, part_length_at, counted_part_at}
use Rattle.puffin_frames.specs.declared.frame_data.kind.Kind.{Kind}
use Rattle.puffin_frames.specs.declared.frame_data.kind.Kind.TheVariants.{Zstd}
use Rattle.puffin_frames.specs.declared.frame_data.meta.FrameMeta.{FrameMeta}
use Rattle.puffin_frames.specs.declared.frame_data.version.Version.{Version}
use Rattle.puffin_threads.specs.Details.{Details}
use Rattle.puffin_frames.specs.Packet.Kinds.{from_byte}
use Rattle.puffin_frames.specs.Packet.Letters.{has_kind, has_details}
use Rattle.puffin_frames.specs.Packet.Structs.{meta_at, details_at, Legacy, legacy_at}

-- A name in `_at` reads at the front of bytes: it gives a part and the bytes after it, or the fault. A name in `_from` decodes a part
-- alone.

-- a decoded meta if its range is one that a frame can have, or the fault
abbrev pub meta_with_range : Option FrameMeta → Result FrameMeta FileError
meta_with_range None = Err file.BadMeta
meta_with_range (Some meta) =
    if is_valid_range_at meta.range_ns.0 meta.range_ns.1 then Ok meta else Err file.BadRange

-- all of the bytes are a meta, whose range isn't reversed or too long
abbrev pub meta_from : List ℕ → Result FrameMeta FileError
meta_from part = meta_with_range (whole meta_at part)

-- a counted part that is a meta
abbrev pub meta_part_at : List ℕ → Result (FrameMeta × List ℕ) FileError
meta_part_at bytes = do
  part ← counted_part_at bytes
  meta ← meta_from part.0
  Ok (meta, part.1)

-- the kind that this byte stores, or the fault if it stores none
abbrev pub known_kind : ℕ → Option Kind → Result Kind FileError
known_kind byte None = Err (file.UnknownKind byte)
known_kind byte (Some kind) = Ok kind

-- the same, from the byte alone
abbrev pub kind_from : ℕ → Result Kind FileError
kind_from byte = known_kind byte (from_byte byte)

-- a byte that stores a kind
abbrev pub given_kind_at : List ℕ → Result (Kind × List ℕ) FileError
given_kind_at bytes = do
  byte ← first_at bytes
  kind ← kind_from byte.0
  Ok (kind, byte.1)

-- the kind of the streams in a packet of this version; it is `Zstd` where none is stored
abbrev pub kind_at : Version → List ℕ → Result (Kind × List ℕ) FileError
kind_at version bytes =
    if has_kind version then given_kind_at bytes else Ok (Zstd, bytes)

-- decoded details, or the fault if there are none
abbrev pub details_from : Option (List Details) → Result (List Details) FileError
details_from None = Err file.BadScopes
details_from (Some details) = Ok details

-- a counted part that is a list of details
abbrev pub given_details_at : List ℕ → Result (List Details × List ℕ) FileError
given_details_at bytes = do
  part ← counted_part_at bytes
  details ← details_from (whole details_at part.0)
  Ok (details, part.1)

-- the details in a packet of this version; there are none where it has no such part
abbrev pub details_part_at : Version → List ℕ → Result (List Details × List ℕ) FileError
details_part_at version bytes =
    if has_details version then given_details_at bytes else Ok ([], bytes)

-- the kind and the bytes of the streams; the length comes first, and doesn't count the kind
abbrev pub streams_part_at : Version → List ℕ → Result ((Kind × List ℕ) × List ℕ) FileError
streams_part_at version bytes = do
  size ← part_length_at bytes
  kind ← kind_at version size.1
  streams ← part_of size.0 kind.1
  Ok ((kind.0, streams.0), streams.1)

-- a decoded legacy frame if its range is one that a frame can have, or the fault
abbrev pub legacy_with_range : Option Legacy → Result Legacy FileError
legacy_with_range None = Err file.BadStreams
legacy_with_range (Some frame) =
    if is_valid_range_at frame.meta.range_ns.0 frame.meta.range_ns.1 then Ok frame
    else Err file.BadRange

-- all of the bytes are a legacy frame, whose range isn't reversed or too long
abbrev pub legacy_from : List ℕ → Result Legacy FileError
legacy_from part = legacy_with_range (whole legacy_at part)

-- `size` bytes, which are a legacy frame
abbrev pub legacy_part_at : ℕ → List ℕ → Result (Legacy × List ℕ) FileError
legacy_part_at size bytes = do
  part ← part_of size bytes
  frame ← legacy_from part.0
  Ok (frame, part.1)
