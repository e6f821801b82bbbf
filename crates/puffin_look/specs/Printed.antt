-- What printing a file frame by frame writes, and where it stops.
use Rattle.std.specs.Prelude.{◌≡◌, ◌⊎◌, ℕ, ◌-◌, ◌^◌, ◌≤◌, length, List, [], ◌∷◌, ◌++◌, Option, Result, Ok, Err}
use Rattle.std.specs.Io.KnownBytes.{Appends}
use Rattle.puffin_data.specs.declared.error.Error.{Error}
use Rattle.puffin_data.specs.declared.file_error.FileError.{FileError}
use Rattle.puffin_data.specs.declared.file_error.FileError.TheVariants.{Refused, Truncated}
use Rattle.puffin_data.specs.Device.{FailsAt, IsOutside, WritesBeginning}
use Rattle.puffin_frames.specs.Packet.Stored.{Stored}
use Rattle.puffin_view.specs.View.File.{file_at, TookFrames, FailsToRead}
use Rattle.puffin_view.specs.View.FrameFile.{frame_at, HasGiven}
use Rattle.puffin_look.specs.OpenFrame.{OpenFrame, opened, AreOpened}

-- a file begins with these frames
abbrev pub Begins : Option (List ℕ) → List Stored → Type 0
Begins unread stored =
    (stored ≡ []) ⊎ ((now : Option (List ℕ)) × HasGiven unread now stored)

-- All frames of a file were printed, as this text.
pub record IsPrinted (IsText : List OpenFrame → List ℕ → Type 0)
    (unread left before after : Option (List ℕ)) : Type 0 where
  pub stored : List Stored
  pub took : TookFrames file_at unread left stored
  pub frames : List OpenFrame
  pub opens : AreOpened stored frames
  pub text : List ℕ
  pub is : IsText frames text
  pub written : Appends before after text

-- a file with this many frames is refused
abbrev pub IsFull : List Stored → FileError → Type 0
IsFull stored fault = (2 ^ 64 - 1 ≤ length stored) × (fault ≡ Truncated)

-- the frame behind these can't be read, or these are too many
abbrev pub StopsAtNext : Option (List ℕ) → Option (List ℕ) → List Stored → FileError → Type 0
StopsAtNext unread left stored fault =
    (now : Option (List ℕ)) × HasGiven unread now stored
    × (FailsAt fault now left frame_at ⊎ IsFull stored fault)

-- the file doesn't begin with its letters, or they can't be read, so it has no frames
abbrev pub StopsBeforeFrames : Option (List ℕ) → Option (List ℕ) → List Stored → FileError → Type 0
StopsBeforeFrames unread left stored fault =
    FailsToRead file_at unread left fault × (stored ≡ [])

-- why reading a file gave these frames and no more: these are all, or there is a fault
abbrev pub EndsBehind : Option (List ℕ) → Option (List ℕ) → List Stored → Type 0
EndsBehind unread left stored =
    TookFrames file_at unread left stored
    ⊎ ((fault : FileError) × StopsAtNext unread left stored fault)
    ⊎ ((fault : FileError) × StopsBeforeFrames unread left stored fault)

-- a frame can't be unpacked, or it is refused after the frames before it
abbrev pub IsRefused : (List OpenFrame → OpenFrame → Error → Type 0) → List OpenFrame →
    Result OpenFrame FileError → FileError → Type 0
IsRefused Refuses frames (Err cause) fault = fault ≡ cause
IsRefused Refuses frames (Ok frame) fault =
    (cause : Error) × (fault ≡ Refused cause) × Refuses frames frame cause

-- the first fault of a file is behind these frames: the next one can't be read, or it is refused
abbrev pub HasFaultBehind : (List OpenFrame → OpenFrame → Error → Type 0) →
    Option (List ℕ) → Option (List ℕ) → List Stored → List OpenFrame → FileError → Type 0
HasFaultBehind Refuses unread left stored frames fault =
    StopsAtNext unread left stored fault
    ⊎ ((next : Stored) × HasGiven unread left (stored ++ next ∷ [])
    × IsRefused Refuses frames (opened next) fault)

-- Printing a file failed. Either the reader, the writer or memory failed, and a prefix of the text of some first frames was
-- written; or the text of exactly those frames that are before the first fault was written; or the file doesn't begin with its
-- letters, and nothing was written.
pub record IsStopped (IsText : List OpenFrame → List ℕ → Type 0)
    (Refuses : List OpenFrame → OpenFrame → Error → Type 0)
    (unread left before after : Option (List ℕ)) (fault : FileError) : Type 0 where
  pub stored : List Stored
  pub begins : Begins unread stored
  pub frames : List OpenFrame
  pub opens : AreOpened stored frames
  pub text : List ℕ
  pub is : IsText frames text
  pub outcome : (IsOutside fault × WritesBeginning before after text)
      ⊎ (Appends before after text
      × HasFaultBehind Refuses unread left stored frames fault)
      ⊎ (StopsBeforeFrames unread left stored fault × Appends before after [])

-- no frame is refused
abbrev pub RefusesNone : List OpenFrame → OpenFrame → Error → Type 0
RefusesNone frames frame cause = ⊥

-- All frames of a file were read, and a prefix of this text was written.
pub record IsCutOff (IsText : List OpenFrame → List ℕ → Type 0)
    (unread left before after : Option (List ℕ)) : Type 0 where
  pub stored : List Stored
  pub took : TookFrames file_at unread left stored
  pub frames : List OpenFrame
  pub opens : AreOpened stored frames
  pub text : List ℕ
  pub is : IsText frames text
  pub written : WritesBeginning before after text
