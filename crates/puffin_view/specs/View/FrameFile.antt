-- Files of frames that are read and written one frame at a time.
use Rattle.std.specs.Prelude.{◌≡◌, ◌<◌, ℕ, Bool, true, false, List, [], ◌∷◌, ◌++◌, Option, Some, None, Result, Ok, Err, length}
use Rattle.std.specs.Io.KnownBytes.{Consumes, Appends}
use Rattle.puffin_data.specs.declared.file_error.FileError.{FileError}
use Rattle.puffin_data.specs.Device.{FromDevice, FailsAt}
use Rattle.puffin_data.specs.Part.{◌>>=◌}
use Rattle.puffin_frames.specs.declared.frame_data.frame.FrameData.{FrameData}
use Rattle.puffin_threads.specs.Details.Collection.{Collection}
use Rattle.puffin_frames.specs.Frame.Contents.{packet_fields}
use Rattle.puffin_frames.specs.Packet.Writing.{fields_with}
use Rattle.puffin_frames.specs.Packet.Stored.{PacketFields, Stored}
use Rattle.puffin_frames.specs.Packet.Front.{next_at, AtEnd}
use Rattle.puffin_frames.specs.Packet.Next.{stored_of}
use Rattle.puffin_frames.specs.Packet.Grammar.{packet}
use Rattle.puffin_view.specs.View.File.{magic, file_of, with_ids}

-- ---- reading

-- the frame that was read, if there is one, or a refusal if some of its details have no id; and the remaining bytes
abbrev pub frame_with_ids : Option Stored → List ℕ → Result (Option Stored × List ℕ) FileError
frame_with_ids None rest = Ok (None, rest)
frame_with_ids (Some next) rest = do
  frame ← with_ids next
  Ok (Some frame, rest)

-- The next frame and the bytes after it, no frame at the end, or the first fault. Details without an id are a fault too.
abbrev pub frame_at : List ℕ → Result (Option Stored × List ℕ) FileError
frame_at bytes = do
  next ← next_at bytes
  frame_with_ids next.0 next.1

-- A call took bytes from a device: the bytes of the frame that it returned, whatever follows them; or those of the end; or
-- bytes that have this fault.
abbrev pub GivesNext : Option (List ℕ) → Option (List ℕ) → Result (Option FrameData) FileError →
    Type 0
GivesNext old new (Ok (Some frame)) =
    FromDevice {X = FrameData} (λ read. Some (stored_of read)) old new (Ok frame) frame_at
GivesNext old new (Ok None) = AtEnd old new
GivesNext old new (Err fault) = FailsAt fault old new frame_at

-- the bytes are those of these frames, one after the other: each is read from its own bytes, whatever follows them
abbrev pub AreGiven : List ℕ → List Stored → Type 0
AreGiven bytes [] = bytes ≡ []
AreGiven bytes (frame ∷ frames) =
    (front : List ℕ)
    × (others : List ℕ)
    × (bytes ≡ front ++ others)
    × ((rest : List ℕ) → frame_at (front ++ rest) ≡ Ok (Some frame, rest))
    × AreGiven others frames

-- The four letters of a file and these frames were taken from a device, and nothing else.
pub record HasGiven (old new : Option (List ℕ)) (frames : List Stored) : Type 0 where
  pub bytes : List ℕ
  pub consumed : Consumes old new (magic ++ bytes)
  pub given : AreGiven bytes frames

-- ---- writing

-- what the packet of a frame has: its own details or, if it is the first of its file, those of a collection
abbrev pub fields_if : Bool → Collection → FrameData → PacketFields
fields_if true scopes frame = fields_with frame (Some scopes)
fields_if false scopes frame = packet_fields frame

-- the device got the file of these frames
abbrev pub HoldsFile : Option (List ℕ) → Option (List ℕ) → List PacketFields → Type 0
HoldsFile old new frames = Appends old new (file_of frames)

-- the device got the file of these frames, and a prefix of one more packet
abbrev pub HoldsBegun : Option (List ℕ) → Option (List ℕ) → List PacketFields → PacketFields → Type 0
HoldsBegun old new frames next =
    (front : List ℕ) × (rest : List ℕ) × (packet next ≡ front ++ rest)
    × Appends old new (file_of frames ++ front)

-- What a device holds of the frames written so far: their file and, if a write broke off (`true`), a prefix of one more packet.
abbrev pub HoldsSoFar : Bool → Option (List ℕ) → Option (List ℕ) → List PacketFields → Type 0
HoldsSoFar false old new frames = HoldsFile old new frames
HoldsSoFar true old new frames = (next : PacketFields) × HoldsBegun old new frames next

-- the frames written so far, after a call that wrote one more or was refused
abbrev pub written_after : Result (Unit {0}) FileError → List PacketFields → PacketFields → List PacketFields
written_after (Ok done) frames next = frames ++ next ∷ []
written_after (Err fault) frames next = frames

-- ---- files that were cut

-- What is left of the next packet after a cut: a proper prefix, maybe empty. If there is no next packet, nothing is left.
abbrev pub IsLeftOf : List ℕ → List PacketFields → Type 0
IsLeftOf left [] = left ≡ []
IsLeftOf left (next ∷ others) =
    (lost : List ℕ) × (packet next ≡ left ++ lost) × (0 < length lost)

-- The file of these frames was cut, and these bytes remain: the file of the frames that are still whole, followed by what is
-- left of the next packet.
pub record IsCut (frames : List PacketFields) (bytes : List ℕ) (whole : List PacketFields) :
    Type 0 where
  pub lost : List PacketFields
  pub in_order : frames ≡ whole ++ lost
  pub left : List ℕ
  pub split : bytes ≡ file_of whole ++ left
  pub begun : IsLeftOf left lost
