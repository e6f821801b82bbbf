-- The format of files: letters, packets, the end, and what may follow it.
use Rattle.std.specs.Prelude.{◌≡◌, ◌⊎◌, ◌<◌, ℕ, List, [], ◌∷◌, ◌++◌, length, map}
use Rattle.puffin_frames.specs.Packet.Stored.{PacketFields, Stored}
use Rattle.puffin_frames.specs.Packet.Grammar.{Stores}
use Rattle.puffin_view.specs.View.ViewedFrames.{fields_of}
use Rattle.puffin_view.specs.View.File.{magic, frame_stored}

-- one packet for each frame, in order and with nothing between them, of any readable version, including older and legacy ones
abbrev pub ArePackets : List ℕ → List Stored → Type 0
ArePackets bytes [] = bytes ≡ []
ArePackets bytes (frame ∷ frames) =
    (packet : List ℕ)
    × (others : List ℕ)
    × Stores packet frame
    × ArePackets others frames
    × (bytes ≡ packet ++ others)

-- the end of a file: four zeros, whatever follows, or fewer than four bytes, with nothing after them
abbrev pub IsEnd : List ℕ → List ℕ → Type 0
IsEnd end after = (end ≡ 0 ∷ 0 ∷ 0 ∷ 0 ∷ []) ⊎ ((length end < 4) × (after ≡ []))

-- The bytes are a file of these frames, followed by the bytes `after`.
pub record IsFile (bytes : List ℕ) (frames : List Stored) (after : List ℕ) : Type 0 where
  pub packets : List ℕ
  pub end : List ℕ
  pub in_order : bytes ≡ magic ++ (packets ++ (end ++ after))
  pub stored : ArePackets packets frames
  pub ends : IsEnd end after

-- the contents of its frames
abbrev pub fields_stored : List Stored → List PacketFields
fields_stored frames = map fields_of (map frame_stored frames)
