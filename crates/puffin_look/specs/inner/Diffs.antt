-- What each name has in each frame of a file, as a map holds it.
use Rattle.std.specs.Prelude.{◌≡◌, ℕ, Bool, not, is_some, List, [], ◌∷◌, if◌then◌else◌}
use Rattle.std.specs.Map.{lookup}
use Rattle.std.specs.Str.{bytes_eq}
use Rattle.std.specs.declared.vec.Vec.{Vec}
use Rattle.std.specs.declared.alloc.Global.{Global}
use Rattle.puffin_look.specs.Diff.{Entry, part_in}
use Rattle.puffin_look.specs.declared.top.TopRow.{TopRow}
use Rattle.puffin_look.specs.declared.diff.PerFrame.{PerFrame}

abbrev pub has_name : List ℕ → Vec ℕ Global → Bool
has_name name key = bytes_eq name key.items

abbrev pub Held : Type 0
Held = Vec ℕ Global × PerFrame

-- a name, and what the old file and the new one have under it
abbrev pub entry_in : List Held → List Held → List ℕ → Entry
entry_in old new name = (name, lookup (has_name name) old, lookup (has_name name) new)

-- the same, if the old file hasn't the name
abbrev pub new_entry_in : List Held → List Held → List ℕ → List Entry
new_entry_in old new name =
    if not (is_some (lookup (has_name name) old)) then entry_in old new name ∷ [] else []

-- under each name there is what these rows have in each of so many frames
abbrev pub HasParts : ℕ → List TopRow → List Held → Type 0
HasParts frames rows parts =
    (name : List ℕ) → lookup (has_name name) parts ≡ part_in frames rows name
