-- What writing a frame does.
use Rattle.std.specs.Prelude.{◌≡◌, ◌≢◌, ◌+◌, ◌^◌, ◌≤◌, ◌⊎◌, ℕ, List, length, Option, Some, None, Result, OnOk, IfErr}
use Rattle.std.specs.FinMap.{values}
use Rattle.std.specs.Io.KnownBytes.{Appends}
use Rattle.puffin_data.specs.declared.file_error.FileError.{FileError}
use Rattle.puffin_data.specs.declared.file_error.FileError.TheVariants.{Io, Memory, PartTooLong}
use Rattle.puffin_data.specs.Device.{TookNothing, WritesBeginning}
use Rattle.puffin_frames.specs.declared.frame_data.frame.FrameData.{FrameData}
use Rattle.puffin_threads.specs.Details.{Details}
use Rattle.puffin_threads.specs.Details.Collection.{Collection}
use Rattle.puffin_frames.specs.Frame.Contents.{packet_fields, frame_details}
use Rattle.puffin_frames.specs.Packet.Stored.{PacketFields}
use Rattle.puffin_frames.specs.Packet.Structs.{details_layout}

-- the details of a collection, or else the frame's own
abbrev pub details_or : List Details → Option Collection → List Details
details_or own None = own
details_or own (Some collection) = values collection.by_id

-- what a packet of a frame stores, with the details of a collection in place of its own, if there is one
abbrev pub fields_with : FrameData → Option Collection → PacketFields
fields_with frame collection =
    record (packet_fields frame) { details = details_or (frame_details frame) collection }

-- a part whose length can't be written
abbrev pub HasLongPart : PacketFields → Type 0
HasLongPart fields =
    (2 ^ 32 ≤ length fields.streams) ⊎ (2 ^ 32 ≤ length (details_layout fields.details))

-- The promise of a call that writes a packet's bytes to a device. It wrote them all; or the device failed, and a prefix of them is
-- written; or a part is too long or memory ran out, and nothing is written.
--
-- `contents`, `failures` and `takes` are the device's: the bytes that it holds, if they are known, the number of its failed writes,
-- and what one write may do. `old` and `new` are its states before and after, and `IsLong` says that a part is too long.
pub record WritesPacket {D : Type 0} (contents : D → Option (List ℕ)) (failures : D → ℕ)
    (takes : D → List ℕ → ℕ → D → Type 0) (old new : D)
    (bytes : List ℕ) (IsLong : Type 0) (result : Result (Unit {0}) FileError) : Type 0 where
  pub ok : OnOk result (Appends (contents old) (contents new) bytes)
  pub begun : IfErr result (λ cause.
      cause ≡ Io → WritesBeginning (contents old) (contents new) bytes)
  pub untouched : IfErr result (λ cause. cause ≢ Io → new ≡ old)
  pub io : IfErr result (λ cause.
      cause ≡ Io → (failures new ≡ failures old + 1) ⊎ TookNothing takes new)
  pub too_long : IfErr result (λ cause. cause ≡ PartTooLong → IsLong)
  pub cause : IfErr result (λ cause. (cause ≡ PartTooLong) ⊎ (cause ≡ Memory) ⊎ (cause ≡ Io))
  pub none_failed : OnOk result (failures new ≡ failures old)
