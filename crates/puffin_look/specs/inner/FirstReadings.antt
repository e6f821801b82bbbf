-- What the first reading of a file ends with.
use Rattle.std.specs.Prelude.{◌⊎◌, ℕ, List, Option, Result, Ok, Err}
use Rattle.puffin_data.specs.declared.file_error.FileError.{FileError}
use Rattle.puffin_data.specs.Device.{IsOutside}
use Rattle.puffin_look.specs.FirstReading.{IsOverview}
use Rattle.puffin_look.specs.declared.overview.Overview.{Overview}

-- the frames before the end or the first fault were read, or the reader or memory failed
abbrev pub ReadsFrames : Option (List ℕ) → Option (List ℕ) → Overview →
    Result (Unit {0}) FileError → Type 0
ReadsFrames unread left overview (Ok done) = IsOverview unread left overview
ReadsFrames unread left overview (Err fault) = IsOutside fault ⊎ IsOverview unread left overview
