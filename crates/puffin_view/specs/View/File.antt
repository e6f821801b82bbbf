-- Files of frames: what they hold, and what reading one returns.
use Rattle.std.specs.Prelude.{◌≡◌, ◌⊎◌, ◌&&◌, ◌==◌, ◌^◌, ◌+◌, ◌-◌, ℕ, zero, suc, Bool, true, false, List, [], ◌∷◌, ◌++◌, Option, Some, None, Result, Ok, Err, OnOk, IfErr, map, drop, slice_index, if◌then◌else◌}
use Rattle.std.specs.List.{flat_map, AllByRecursion, Any}
use Rattle.std.specs.Io.KnownBytes.{Appends, Consumes, IsAtEnd}
use Rattle.puffin_data.specs.declared.error.Error.TheVariants.{MissingId}
use Rattle.puffin_data.specs.declared.file_error.FileError.{FileError}
use Rattle.puffin_data.specs.declared.file_error.FileError.TheVariants as file
use Rattle.puffin_data.specs.Device.{TookNothing, WritesBeginning}
use Rattle.puffin_data.specs.Part.{◌>>=◌}
use Rattle.puffin_threads.specs.Details.{Details}
use Rattle.puffin_threads.specs.Details.Collection.{Collection, no_details, with_all_details}
use Rattle.puffin_frames.specs.declared.frame_data.kind.Kind.TheVariants.{Uncompressed}
use Rattle.puffin_frames.specs.Packet.Structs.{Legacy, form_of_all, streams_layout}
use Rattle.puffin_frames.specs.Packet.Stored.{PacketFields, Stored, packed, legacy}
use Rattle.puffin_frames.specs.Packet.Front.{next_at}
use Rattle.puffin_frames.specs.Packet.Grammar.{packet, IsPacked}
use Rattle.puffin_frames.specs.Packet.Writing.{HasLongPart, details_or}
use Rattle.puffin_view.specs.declared.profile_view.frame_view.FrameView.{FrameView}
use Rattle.puffin_view.specs.View.ViewedFrames.{Frame, fields_of}
use Rattle.puffin_view.specs.View.FrameOf.{details_of_frame}
use Rattle.puffin_view.specs.View.{View, empty_view, after_all, all_uniq, Took}
use Rattle.puffin_view.specs.View.Known.{view_of, collection_of, lacks_ids}

-- ---- what is written

-- `PUF0`
abbrev pub magic : List ℕ
magic = 80 ∷ 85 ∷ 70 ∷ 48 ∷ []

-- the letters, and then a packet for each frame
abbrev pub file_of : List PacketFields → List ℕ
file_of frames = magic ++ flat_map packet frames

-- the contents of the frames in both lists of a view
abbrev pub fields_held : View → List PacketFields
fields_held view = map fields_of (view.recent ++ view.slow)

-- the contents of a view's frames, each once, in ascending order of index
abbrev pub fields_in : View → List PacketFields
fields_in view = map fields_of (all_uniq view)

-- frames' contents, where the first has the details of a collection in place of its own, if one is given
abbrev pub first_with : Option Collection → List PacketFields → List PacketFields
first_with scopes [] = []
first_with scopes (first ∷ others) =
    record first { details = details_or first.details scopes } ∷ others

-- what a packet has but for its details
abbrev pub without_details : PacketFields → PacketFields
without_details fields = record fields { details = [] }

-- The promise of a call that writes the file of these frames to a device, which is `old` before the call and `new` after it.
-- What is written can be read again; a refusal leaves a prefix of it. The first three arguments belong to the kind of device:
-- what it holds, how many of its writes failed, and what a single write does.
pub record WritesFile {D : Type 0} (contents : D → Option (List ℕ)) (failures : D → ℕ)
    (takes : D → List ℕ → ℕ → D → Type 0) (old new : D) (frames : List PacketFields)
    (result : Result (Unit {0}) FileError) : Type 0 where
  pub ok : OnOk result (Appends (contents old) (contents new) (file_of frames))
  pub packed : OnOk result (AllByRecursion IsPacked frames)
  pub begun : IfErr result (λ e. WritesBeginning (contents old) (contents new) (file_of frames))
  pub io : IfErr result (λ e.
      e ≡ file.Io → (failures new ≡ failures old + 1) ⊎ TookNothing takes new)
  pub too_long : IfErr result (λ e. e ≡ file.PartTooLong → Any HasLongPart frames)
  pub cause : IfErr result (λ e. (e ≡ file.PartTooLong) ⊎ (e ≡ file.Memory) ⊎ (e ≡ file.Io))
  pub none_failed : OnOk result (failures new ≡ failures old)

-- ---- frames that are read

-- the contents of a legacy frame, which has no details
abbrev pub legacy_fields : Legacy → PacketFields
legacy_fields frame = record {
  meta = frame.meta;
  form = form_of_all frame.streams;
  kind = Uncompressed;
  streams = streams_layout (form_of_all frame.streams) frame.streams;
  details = [];
}

-- a frame that was read, as a view sees it
abbrev pub frame_stored : Stored → Frame
frame_stored (packed fields) = record { fields = fields; is_unpacked = false; is_packed = true }
frame_stored (legacy frame) =
    record { fields = legacy_fields frame; is_unpacked = true; is_packed = false }

-- the details of a frame that was read
abbrev pub details_stored : Stored → List Details
details_stored frame = details_of_frame (frame_stored frame)

-- the frame, or a refusal if some of its details have no id
abbrev pub with_ids : Stored → Result Stored FileError
with_ids frame =
    if lacks_ids (fields_of (frame_stored frame)) then Err (file.Refused MissingId) else Ok frame

-- this frame, if there is one, and those that `read` reads after it from the remaining bytes
abbrev pub frames_from : (List ℕ → Result (List Stored × List ℕ) FileError) → Option Stored →
    List ℕ → Result (List Stored × List ℕ) FileError
frames_from read None rest = Ok ([], rest)
frames_from read (Some next) rest = do
  frame ← with_ids next
  others ← read rest
  Ok (frame ∷ others.0, others.1)

-- all frames up to the end, if they are fewer than this limit, and the bytes after the end; or the first fault
abbrev pub frames_at : ℕ → List ℕ → Result (List Stored × List ℕ) FileError
frames_at zero bytes = Err file.Truncated
frames_at (suc limit) bytes = do
  next ← next_at bytes
  frames_from (frames_at limit) next.0 next.1

-- a file with this many packets or more is refused
unfoldable pub most_packets : ℕ
most_packets = 2 ^ 64 - 1

-- whether the first four bytes are `PUF0`
abbrev pub begins_file : List ℕ → Bool
begins_file bytes =
    (slice_index bytes 0 == 80) && (slice_index bytes 1 == 85) && (slice_index bytes 2 == 70) &&
    (slice_index bytes 3 == 48)

-- the frames of a file and the bytes after it, or the first fault
abbrev pub file_at : List ℕ → Result (List Stored × List ℕ) FileError
file_at bytes =
    if begins_file bytes then frames_at most_packets (drop 4 bytes) else Err file.NoMagic

-- ---- devices

-- A reading of bytes: all frames and the bytes after them, or a fault.
abbrev pub FramesReading : Type 0
FramesReading = List ℕ → Result (List Stored × List ℕ) FileError

-- The bytes taken from a device are read as these frames. Either this holds whatever bytes follow, or the device is at its end.
pub record TookFrames (read : FramesReading) (old new : Option (List ℕ)) (frames : List Stored) :
    Type 0 where
  pub taken : List ℕ
  pub consumed : Consumes old new taken
  pub given : read taken ≡ Ok (frames, [])
  pub last : ((rest : List ℕ) → read (taken ++ rest) ≡ Ok (frames, rest)) ⊎ IsAtEnd new

-- The bytes taken from a device have this fault. Either this holds whatever bytes follow, or the device is at its end.
pub record TookFault (read : FramesReading) (old new : Option (List ℕ)) (fault : FileError) :
    Type 0 where
  pub taken : List ℕ
  pub consumed : Consumes old new taken
  pub fails : read taken ≡ Err fault
  pub last : ((rest : List ℕ) → read (taken ++ rest) ≡ Err fault) ⊎ IsAtEnd new

-- Why a call failed. Failures of the device or of memory are left unspecified.
abbrev pub FailsToRead : FramesReading → Option (List ℕ) → Option (List ℕ) → FileError → Type 0
FailsToRead read old new file.Io = Unit {0}
FailsToRead read old new file.Memory = Unit {0}
FailsToRead read old new fault = TookFault read old new fault

-- ---- views that are read

-- an empty view that keeps all recent frames
abbrev pub read_view : View
read_view = record empty_view { max_recent = 2 ^ 64 - 1 }

-- The view took exactly these frames, in order, and its collection has their details.
pub record IsViewOf (stored : List Stored) (view : FrameView) : Type 0 where
  pub took : Took (map fields_of (map frame_stored stored)) (view_of view)
  pub frames : view_of view ≡ after_all read_view (map frame_stored stored)
  pub details : collection_of view ≡ with_all_details no_details (flat_map details_stored stored)

-- A call read a view from a device: the view of the frames whose bytes it took.
abbrev pub ReadsView : FramesReading → Option (List ℕ) → Option (List ℕ) →
    Result FrameView FileError → Type 0
ReadsView read old new (Ok view) =
    (frames : List Stored) × TookFrames read old new frames × IsViewOf frames view
ReadsView read old new (Err fault) = FailsToRead read old new fault
