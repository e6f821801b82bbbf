-- The bytes that store a frame: the packet that is written, older ones, and legacy frames.
use Rattle.std.specs.Prelude.{◌≡◌, ◌^◌, ◌<◌, ◌⊎◌, ℕ, true, false, List, [], ◌∷◌, ◌++◌, length, Option}
use Rattle.std.specs.Io.KnownBytes.{Consumes}
use Rattle.byteorder.specs.Endian.{little_bytes}
use Rattle.puffin_data.specs.declared.data.form.Form.{Form}
use Rattle.puffin_data.specs.declared.data.form.Form.TheVariants.{Short}
use Rattle.puffin_data.specs.Range.{is_valid_range_at}
use Rattle.puffin_frames.specs.declared.frame_data.kind.Kind.{Kind}
use Rattle.puffin_frames.specs.declared.frame_data.kind.Kind.TheVariants.{Zstd}
use Rattle.puffin_frames.specs.declared.frame_data.meta.FrameMeta.{FrameMeta}
use Rattle.puffin_frames.specs.declared.frame_data.version.Version.TheVariants.{Pfd2, Pfd3}
use Rattle.puffin_frames.specs.Packet.Kinds.{to_byte}
use Rattle.puffin_frames.specs.Packet.Letters.{letters, for_form, is_packet}
use Rattle.puffin_frames.specs.Packet.Structs.{IsMeta, meta_layout, AreDetails, details_layout, Legacy, IsLegacy, legacy_layout}
use Rattle.puffin_frames.specs.Packet.Stored.{PacketFields, Stored, packed, legacy}

-- a part with its length before it
abbrev pub counted_part : List ℕ → List ℕ
counted_part part = little_bytes 4 (length part) ++ part

-- the front of a packet: the letters, the meta, and the length and the kind of the streams
unfoldable pub packet_head : Form → FrameMeta → Kind → ℕ → List ℕ
packet_head form meta kind len =
    letters (for_form form)
    ++ (counted_part (meta_layout meta) ++ (little_bytes 4 len ++ (to_byte kind ∷ [])))

-- a packet of these streams and this part of details
abbrev pub packet_with : Form → FrameMeta → Kind → List ℕ → List ℕ → List ℕ
packet_with form meta kind streams details =
    (packet_head form meta kind (length streams) ++ streams) ++ counted_part details

-- a packet as it is written: `PFD4`, or `PFDL` if a stream is long
abbrev pub packet : PacketFields → List ℕ
packet fields =
    packet_with fields.form fields.meta fields.kind fields.streams (details_layout fields.details)

-- what a packet can store
pub record IsPacked (fields : PacketFields) : Type 0 where
  pub meta : IsMeta fields.meta
  pub range : is_valid_range_at fields.meta.range_ns.0 fields.meta.range_ns.1 ≡ true
  pub short : length fields.streams < 2 ^ 32
  pub details : AreDetails fields.details
  pub details_short : length (details_layout fields.details) < 2 ^ 32

-- an older version: `PFD3`, and no details
abbrev pub packet_without_details : PacketFields → List ℕ
packet_without_details fields =
    letters Pfd3
    ++ (counted_part (meta_layout fields.meta)
    ++ (little_bytes 4 (length fields.streams) ++ (to_byte fields.kind ∷ fields.streams)))

-- the version before that: `PFD2`, with neither details nor a kind; its streams are of kind `Zstd`
abbrev pub packet_without_kind : PacketFields → List ℕ
packet_without_kind fields =
    letters Pfd2 ++ (counted_part (meta_layout fields.meta) ++ counted_part fields.streams)

-- a legacy frame: a length, followed by the meta and the streams in one part
abbrev pub legacy_bytes : Legacy → List ℕ
legacy_bytes frame = counted_part (legacy_layout frame)

-- a packet of one of these versions that stores this; the older ones lack details, and the oldest the kind
abbrev pub IsPacketFor : PacketFields → List ℕ → Type 0
IsPacketFor fields bytes =
    (bytes ≡ packet fields)
    ⊎ ((bytes ≡ packet_without_details fields) × (fields.form ≡ Short) × (fields.details ≡ []))
    ⊎ ((bytes ≡ packet_without_kind fields)
    × (fields.form ≡ Short) × (fields.kind ≡ Zstd) × (fields.details ≡ []))

-- what can be stored as a legacy frame: its length isn't mistaken for the letters of a packet
pub record IsLegacyFrame (frame : Legacy) : Type 0 where
  pub layout : IsLegacy frame
  pub range : is_valid_range_at frame.meta.range_ns.0 frame.meta.range_ns.1 ≡ true
  pub short : length (legacy_layout frame) < 2 ^ 32
  pub no_packet : is_packet (little_bytes 4 (length (legacy_layout frame))) ≡ false

-- the bytes store this frame
abbrev pub Stores : List ℕ → Stored → Type 0
Stores bytes (packed fields) = IsPacked fields × IsPacketFor fields bytes
Stores bytes (legacy frame) = IsLegacyFrame frame × (bytes ≡ legacy_bytes frame)

-- A call took from a device the bytes that store this frame, and no others. `old` and `new` are the bytes that the device had before
-- and after, if they are known.
abbrev pub TookStored : Option (List ℕ) → Option (List ℕ) → Stored → Type 0
TookStored old new stored = (taken : List ℕ) × Consumes old new taken × Stores taken stored
