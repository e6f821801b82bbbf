-- The results of checking a file, and why it has no summary.
use Rattle.std.specs.Prelude.{◌≡◌, ◌≢◌, ◌⊎◌, ℕ, List, ◌++◌, ◌+◌, ◌-◌, length, take, drop, min, Option, Some, Result, Ok, Err}
use Rattle.core.specs.Bool.{then_some}
use Rattle.puffin_data.specs.declared.file_error.FileError.{FileError}
use Rattle.puffin_data.specs.declared.file_error.FileError.TheVariants as file
use Rattle.puffin_data.specs.Device.{FailsAt}
use Rattle.puffin_threads.specs.Thread.ThreadKey.{ThreadKey}
use Rattle.puffin_frames.specs.Packet.Stored.{Stored}
use Rattle.puffin_view.specs.View.File.{file_at, TookFrames, FailsToRead}
use Rattle.puffin_view.specs.View.FrameFile.{HasGiven, frame_at}
use Rattle.puffin_report.specs.Summary.{FailsToSumUp}
use Rattle.puffin_c.specs.declared.fault.Fault.{Fault}
use Rattle.puffin_c.specs.declared.thread_name.PuffinThreadName.{PuffinThreadName}
use Rattle.puffin_c.specs.Faults.{file_fault}

-- the magic bytes and these frames are at the file's beginning, up to this offset, from which these bytes follow
pub record EndAt (bytes : List ℕ) (stored : List Stored) (offset : ℕ) (rest : List ℕ) : Type 0 where
  pub given : HasGiven (Some bytes) (Some rest) stored
  pub end : offset + length rest ≡ length bytes

-- A fault comes after `number` frames, at an offset: at the file's beginning if the magic bytes there are missing, otherwise in the
-- frame that begins at the offset.
abbrev pub StandBefore : List ℕ → Option (List ℕ) → FileError → ℕ → ℕ → Type 0
StandBefore bytes left file_error number offset =
    ((number ≡ 0) × (offset ≡ 0) × (file_error ≡ file.NoMagic))
    ⊎ ((rest : List ℕ)
    × (stored : List Stored)
    × EndAt bytes stored offset rest
    × (number ≡ length stored)
    × FailsAt file_error (Some rest) left frame_at)

-- The bytes begin with a file of `number` frames, the last of which ends at the offset; or, after `number` frames, there is this fault or
-- memory ran out. No more than the first `read` bytes decide this.
abbrev pub IsChecked : List ℕ → ℕ → ℕ → ℕ → Result (Unit {0}) Fault → Type 0
IsChecked bytes number offset read (Ok _) =
    (left : List ℕ)
    × (stored : List Stored)
    × (rest : List ℕ)
    × TookFrames file_at (Some bytes) (Some left) stored
    × EndAt bytes stored offset rest
    × (number ≡ length stored)
    × (read ≡ length bytes - length left)
IsChecked bytes number offset read (Err cause) =
    (left : List ℕ)
    × (file_error : FileError)
    × (cause ≡ file_fault file_error)
    × (file_error ≢ file.Io)
    × FailsToRead file_at (Some bytes) (Some left) file_error
    × StandBefore bytes (Some left) file_error number offset
    × (read ≡ length bytes - length left)

-- the key of the thread that a program names
abbrev pub key_given : PuffinThreadName → ThreadKey
key_given thread = record {
  start = then_some thread.has_start thread.start_ns;
  name = thread.name.now;
}

-- why a file has no summary for a thread: the file's fault, or a lack of memory
abbrev pub LacksSummary : List ℕ → ThreadKey → FileError → Type 0
LacksSummary bytes info e = (left : Option (List ℕ)) × FailsToSumUp info (Some bytes) left e

-- `old` after as many of `items` as fit were copied over its beginning
abbrev pub laid_over : {X : Type 0} → List X → List X → List X
laid_over old items =
    take (min (length items) (length old)) items ++ drop (min (length items) (length old)) old
