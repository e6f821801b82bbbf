-- Files in memory.
use Rattle.std.specs.Prelude.{◌≡◌, ◌⊎◌, ℕ, true, List}
use Rattle.std.specs.List.{AllByRecursion, list_any}
use Rattle.puffin_data.specs.declared.error.Error.TheVariants.{MissingId}
use Rattle.puffin_data.specs.declared.file_error.FileError.{FileError}
use Rattle.puffin_data.specs.declared.file_error.FileError.TheVariants as file
use Rattle.puffin_frames.specs.Packet.Stored.{PacketFields}
use Rattle.puffin_frames.specs.Packet.Grammar.{IsPacked}
use Rattle.puffin_view.specs.View.{View}
use Rattle.puffin_view.specs.View.Known.{lacks_ids}
use Rattle.puffin_view.specs.View.File.{file_of, fields_in}

-- the bytes are the file of a view, and can be read back
pub record IsFileOf (bytes : List ℕ) (view : View) : Type 0 where
  pub file : bytes ≡ file_of (fields_in view)
  pub packed : AllByRecursion IsPacked (fields_in view)

-- why a file of these frames can't be read back: memory runs out, or details have no id
abbrev pub IsReadFault : List PacketFields → FileError → Type 0
IsReadFault frames fault =
    (fault ≡ file.Memory)
    ⊎ ((fault ≡ file.Refused MissingId) × (list_any lacks_ids frames ≡ true))
