-- How a frame holds its streams: packed, unpacked or both, always with the same contents.
use Rattle.std.specs.Prelude.{◌≡◌, ℕ, List, [], Option, Some, None, Result, Ok, Err, if◌then◌else◌}
use Rattle.std.specs.FinMap.{entries, from_sorted}
use Rattle.std.specs.Option.{option_map}
use Rattle.puffin_data.specs.declared.data.form.Form.{Form}
use Rattle.puffin_data.specs.declared.data.form.Form.TheVariants.{Short}
use Rattle.puffin_data.specs.declared.file_error.FileError.{FileError}
use Rattle.puffin_data.specs.declared.file_error.FileError.TheVariants as file
use Rattle.puffin_data.specs.Honesty.{StreamFacts}
use Rattle.puffin_data.specs.Value.Layout.{AreItems}
use Rattle.puffin_data.specs.Value.Decoding.{whole}
use Rattle.puffin_threads.specs.Thread.ThreadKey.{ThreadKey}
use Rattle.puffin_frames.specs.declared.frame_data.kind.Kind.{Kind}
use Rattle.puffin_frames.specs.declared.frame_data.kind.Kind.TheVariants.{Uncompressed}
use Rattle.puffin_frames.specs.Frame.Streams.{Streams}
use Rattle.puffin_frames.specs.Packet.Kinds.{to_byte, is_uncompressed}
use Rattle.puffin_frames.specs.Packet.Structs.{IsThreadKey, AreCounts, form_of_all, streams_layout, streams_at, AreStreams}

-- packed streams: the form of their packet, how they are compressed, and their bytes
pub record Packing : Type 0 where
  pub form : Form
  pub kind : Kind
  pub bytes : List ℕ

-- how streams are held: packed, unpacked, or both
pub record Holding : Type 0 where
  pub packed : Option Packing
  pub unpacked : Option Streams

-- the bytes are the layout of these streams, uncompressed
abbrev pub HoldsStreams : Packing → Streams → Type 0
HoldsStreams packed streams =
    (packed.kind ≡ Uncompressed)
    × AreStreams packed.form (entries streams)
    × (packed.bytes ≡ streams_layout packed.form (entries streams))

-- the streams whose layout packed bytes are; none if they are compressed
abbrev pub streams_in : Packing → Option Streams
streams_in packed =
    if is_uncompressed packed.kind
    then option_map from_sorted (whole (streams_at packed.form) packed.bytes)
    else None

-- streams packed, uncompressed
abbrev pub plainly_packed : Streams → Packing
plainly_packed streams = record {
  form = form_of_all (entries streams);
  kind = Uncompressed;
  bytes = streams_layout (form_of_all (entries streams)) (entries streams);
}

-- streams that have a layout: their count and the numbers in each fit, names are UTF-8, and streams are bytes
abbrev pub HaveLayout : Streams → Type 0
HaveLayout streams =
    AreItems (λ (entry : ThreadKey × StreamFacts). IsThreadKey entry.0 × AreCounts entry.1)
    (entries streams)

-- when packed, they are read back as the same streams
abbrev pub AreReadAgain : Streams → Type 0
AreReadAgain streams = streams_in (plainly_packed streams) ≡ Some streams

-- the streams in what is packed, if anything is
abbrev pub if_packed : Option Packing → Option Streams
if_packed None = None
if_packed (Some packed) = streams_in packed

-- the unpacked streams, or else those in what is packed
abbrev pub either_content : Option Packing → Option Streams → Option Streams
either_content packed None = if_packed packed
either_content packed (Some streams) = Some streams

-- the streams, whichever way they are held
abbrev pub holding_streams : Holding → Option Streams
holding_streams holding = either_content holding.packed holding.unpacked

-- a frame is held in some way, and reading its packing gives its unpacked streams, if it has any
abbrev pub Agree : Option Packing → Option Streams → Type 0
Agree None None = ⊥
Agree (Some packed) None = Unit {0}
Agree None (Some streams) = AreReadAgain streams
Agree (Some packed) (Some streams) = streams_in packed ≡ Some streams

-- a way in which a frame can be held: the parts of it agree
abbrev pub IsHolding : Holding → Type 0
IsHolding holding = Agree holding.packed holding.unpacked

-- the streams as a packet has them: packed ones are taken as they are
abbrev pub packing : Option Packing → Option Streams → Packing
packing (Some packed) unpacked = packed
packing None (Some streams) = plainly_packed streams
packing None None = record { form = Short; kind = Uncompressed; bytes = [] }

-- the streams as the packet of a frame that is held so has them
abbrev pub packing_of : Holding → Packing
packing_of holding = packing holding.packed holding.unpacked

-- held packed only
abbrev pub as_packed : Holding → Holding
as_packed holding = record { packed = Some (packing_of holding); unpacked = None }

-- also held unpacked, if there are contents
abbrev pub as_unpacked : Holding → Holding
as_unpacked holding = record { packed = holding.packed; unpacked = holding_streams holding }

-- streams that were decoded, or the fault if there are none
abbrev pub or_bad : Option Streams → Result Streams FileError
or_bad None = Err file.BadStreams
or_bad (Some streams) = Ok streams

-- the streams in what is packed, or why they can't be unpacked: they are compressed, or their bytes are no layout
abbrev pub unpacking : Packing → Result Streams FileError
unpacking packed =
    if is_uncompressed packed.kind
    then or_bad (option_map from_sorted (whole (streams_at packed.form) packed.bytes))
    else Err (file.Compressed (to_byte packed.kind))

-- the unpacked streams, or else what unpacking gives
abbrev pub unpacked_of : Option Packing → Option Streams → Result Streams FileError
unpacked_of packed (Some streams) = Ok streams
unpacked_of (Some packed) None = unpacking packed
unpacked_of None None = Err file.BadStreams

-- the streams that a frame returns which is held so, or why it can't
abbrev pub unpacked_from : Holding → Result Streams FileError
unpacked_from holding = unpacked_of holding.packed holding.unpacked
