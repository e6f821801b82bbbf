-- A frame of a file with its streams unpacked.
use Rattle.std.specs.Prelude.{◌≡◌, List, [], ◌∷◌, Result, Ok, Err}
use Rattle.puffin_data.specs.declared.file_error.FileError.{FileError}
use Rattle.puffin_frames.specs.declared.frame_data.meta.FrameMeta.{FrameMeta}
use Rattle.puffin_frames.specs.declared.frame_data.unpacked.UnpackedFrameData.{UnpackedFrameData}
use Rattle.puffin_frames.specs.Frame.Streams.{Streams}
use Rattle.puffin_frames.specs.Frame.Contents.{streams_held, streams_in_fields}
use Rattle.puffin_frames.specs.Packet.Stored.{PacketFields, Stored}
use Rattle.puffin_view.specs.View.ViewedFrames.{fields_of}
use Rattle.puffin_view.specs.View.File.{frame_stored}

-- a frame's totals, and its streams by thread
pub record OpenFrame : Type 0 where
  pub meta : FrameMeta
  pub streams : Streams

abbrev pub open_of : UnpackedFrameData → OpenFrame
open_of frame = record { meta = frame.meta; streams = streams_held frame }

abbrev pub opened_with : PacketFields → Result Streams FileError → Result OpenFrame FileError
opened_with fields (Ok streams) =
    Ok (record { meta = fields.meta; streams = streams })
opened_with fields (Err fault) = Err fault

-- a frame with these fields, or why its streams can't be unpacked
abbrev pub opened_fields : PacketFields → Result OpenFrame FileError
opened_fields fields = opened_with fields (streams_in_fields fields)

-- the same of a frame that was read
abbrev pub opened : Stored → Result OpenFrame FileError
opened stored = opened_fields (fields_of (frame_stored stored))

-- frames that were read, each unpacked
abbrev pub AreOpened : List Stored → List OpenFrame → Type 0
AreOpened [] [] = Unit {0}
AreOpened [] (frame ∷ frames) = ⊥
AreOpened (stored ∷ more) [] = ⊥
AreOpened (stored ∷ more) (frame ∷ frames) = (opened stored ≡ Ok frame) × AreOpened more frames
