-- A frame's number, details and streams, which are the same whether it is packed or not.
use Rattle.std.specs.Prelude.{Bool, List, Option, Result}
use Rattle.puffin_data.specs.declared.file_error.FileError.{FileError}
use Rattle.puffin_frames.specs.declared.frame_data.frame.FrameData.{FrameData}
use Rattle.puffin_frames.specs.declared.frame_data.meta.FrameMeta.{FrameMeta}
use Rattle.puffin_threads.specs.Details.{Details, shared_details}
use Rattle.puffin_frames.specs.Frame.Holding.{Packing, Holding, packing_of, holding_streams, unpacking}
use Rattle.puffin_frames.specs.Packet.Stored.{PacketFields}
pub use Rattle.puffin_frames.specs.Frame.Streams.{Streams, facts_code, streams_code, records, all_facts, streams_of, without_sharing, shared_streams, no_scopes, stream_under, reported_to, AreHonest}
pub use Rattle.puffin_frames.specs.Frame.Unpacked.{streams_held}
pub use Rattle.puffin_frames.specs.Frame.Variants.{packed_as, held_as, held_meta, HasMeta, is_own}

-- how a frame's streams are held
abbrev pub holding_of : FrameData → Holding
holding_of frame = held_as frame.held

-- a frame's streams, however held; none if they are of a kind that isn't unpacked here, or if the packed bytes aren't streams
abbrev pub frame_streams : FrameData → Option Streams
frame_streams frame = holding_streams (holding_of frame)

-- the index and the totals of a frame
abbrev pub frame_meta : FrameData → FrameMeta
frame_meta frame = frame.meta

-- the details of the scopes that are new in a frame
abbrev pub frame_details : FrameData → List Details
frame_details frame = shared_details frame.scope_delta.items

-- the fields of a packet of these parts
abbrev pub fields_from : FrameMeta → Packing → List Details → PacketFields
fields_from meta packed details = record {
  meta = meta;
  form = packed.form;
  kind = packed.kind;
  streams = packed.bytes;
  details = details;
}

-- the fields of a frame's packet, however it is held
abbrev pub packet_fields : FrameData → PacketFields
packet_fields frame =
    fields_from (frame_meta frame) (packing_of (holding_of frame)) (frame_details frame)

-- the streams in a packet, or why they can't be unpacked
abbrev pub streams_in_fields : PacketFields → Result Streams FileError
streams_in_fields fields =
    unpacking (record { form = fields.form; kind = fields.kind; bytes = fields.streams })

-- whether a frame is held unpacked, and shares its data with no other
abbrev pub is_alone : FrameData → Bool
is_alone frame = is_own frame.held
