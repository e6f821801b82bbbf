-- A listing of frames, step by step.
use Rattle.std.specs.Prelude.{◌≡◌, ◌⊎◌, ℕ, true, List, [], ◌∷◌, ◌++◌, Option, Result, Ok, Err}
use Rattle.std.specs.Io.KnownBytes.{Appends}
use Rattle.puffin_data.specs.declared.error.Error.{Error}
use Rattle.puffin_data.specs.declared.file_error.FileError.{FileError}
use Rattle.puffin_data.specs.declared.file_error.FileError.TheVariants as file
use Rattle.puffin_data.specs.Device.{IsOutside, WritesBeginning}
use Rattle.puffin_frames.specs.Packet.Stored.{Stored}
use Rattle.puffin_view.specs.View.File.{file_at, TookFrames, FailsToRead}
use Rattle.puffin_view.specs.View.FrameFile.{HasGiven}
use Rattle.puffin_look.specs.OpenFrame.{OpenFrame, opened, AreOpened}
use Rattle.puffin_look.specs.Wanted.{is_within, frames_within}
use Rattle.puffin_look.specs.declared.wanted.Indices.{Indices}
use Rattle.puffin_look.specs.Printed.{Begins, StopsAtNext}

-- `text`, `takes` and `refuses` are the ghost members of the trait `Listing` (src/listing.rt): the text that is still to be written,
-- what taking frames does, and why a frame is refused. `old` and `new` are the listing before and after a call. `unread` and `left` are
-- the bytes that the reader had left before and after it, `before` and `after` those that the writer had taken; `None` means that the
-- reader's or writer's bytes are unknown.

-- ---- one frame

-- A frame was unpacked and added. `answer` is the result of unpacking it. Of a frame with none of these `indices` nothing is taken.
pub record AddsFrame {L : Type 0} (text : L → List ℕ)
    (takes : L → List OpenFrame → List ℕ → L → Type 0) (indices : Option Indices) (old new : L)
    (answer : Result OpenFrame FileError) : Type 0 where
  pub frame : OpenFrame
  pub opens : answer ≡ Ok frame
  pub more : List ℕ
  pub pending : text new ≡ text old ++ more
  pub taken : takes old (frames_within indices (frame ∷ [])) more new

-- A frame can't be unpacked, and the listing stayed as it was; or it is refused; or memory ran out.
abbrev pub FailsToAdd : {L : Type 0} → (L → OpenFrame → Error → Type 0) → Option Indices → L → L →
    Result OpenFrame FileError → FileError → Type 0
FailsToAdd refuses indices old new answer fault =
    (fault ≡ file.Memory)
    ⊎ ((answer ≡ Err fault) × (new ≡ old))
    ⊎ ((frame : OpenFrame)
    × (cause : Error)
    × (answer ≡ Ok frame)
    × (fault ≡ file.Refused cause)
    × (is_within indices frame.meta.frame_index ≡ true)
    × refuses old frame cause)

-- ---- a file

-- those of these frames that have these indices were listed, from the state old to the state now
pub record HasListed {L : Type 0} (takes : L → List OpenFrame → List ℕ → L → Type 0)
    (indices : Option Indices) (old now : L)
    (stored : List Stored) (text : List ℕ) : Type 0 where
  pub frames : List OpenFrame
  pub opens : AreOpened stored frames
  pub taken : takes old (frames_within indices frames) text now

-- all frames were listed, and their text was written
pub record ListsAll {L : Type 0} (text : L → List ℕ)
    (takes : L → List OpenFrame → List ℕ → L → Type 0) (indices : Option Indices) (old new : L)
    (unread left before after : Option (List ℕ)) : Type 0 where
  pub stored : List Stored
  pub took : TookFrames file_at unread left stored
  pub begins : Begins unread stored
  pub more : List ℕ
  pub listed : HasListed takes indices old new stored more
  pub none_left : text new ≡ []
  pub written : Appends before after (text old ++ more)

-- Where and why listing stopped, behind the letters of the file. `state` is the listing after the frames of `stored`, before the step
-- that failed. If memory ran out while a frame was added, nothing is said of the listing's last state, `new`.
pub record StopsBehind {L : Type 0} (text : L → List ℕ)
    (takes : L → List OpenFrame → List ℕ → L → Type 0) (refuses : L → OpenFrame → Error → Type 0)
    (indices : Option Indices) (old new : L) (unread left before after : Option (List ℕ)) (fault : FileError) : Type 0 where
  pub stored : List Stored
  pub begins : Begins unread stored
  pub more : List ℕ
  pub state : L
  pub listed : HasListed takes indices old state stored more
  pub outcome :
      -- the reader, the writer or memory failed
      (IsOutside fault × WritesBeginning before after (text old ++ more)
      × ((fault ≡ file.Memory) ⊎ (state ≡ new)))
      -- the next frame can't be read
      ⊎ (Appends before after (text old ++ more) × (state ≡ new)
      × StopsAtNext unread left stored fault)
      -- it can't be added
      ⊎ (Appends before after (text old ++ more)
      × (next : Stored) × HasGiven unread left (stored ++ next ∷ [])
      × FailsToAdd refuses indices state new (opened next) fault)

-- the file doesn't begin with its letters, or they can't be read: nothing was taken or written
pub record IsNoFile {L : Type 0} (takes : L → List OpenFrame → List ℕ → L → Type 0) (old new : L)
    (unread left before after : Option (List ℕ)) (fault : FileError) : Type 0 where
  pub same : new ≡ old
  pub none : takes old [] [] old
  pub fails : FailsToRead file_at unread left fault
  pub written : Appends before after []

-- where and why listing stopped: behind the file's letters, or because of them
abbrev pub StopsListing : {L : Type 0} → (L → List ℕ) →
    (L → List OpenFrame → List ℕ → L → Type 0) → (L → OpenFrame → Error → Type 0) →
    Option Indices → L → L → Option (List ℕ) → Option (List ℕ) → Option (List ℕ) → Option (List ℕ) → FileError → Type 0
StopsListing text takes refuses indices old new unread left before after fault =
    StopsBehind text takes refuses indices old new unread left before after fault
    ⊎ IsNoFile takes old new unread left before after fault
