-- The name of a scope, by the details of a file; and names that are kept once.
use Rattle.std.specs.Prelude.{ℕ, List, [], ◌∷◌, ◌++◌, codes, Option, Some, None, if◌then◌else◌}
use Rattle.std.specs.List.{list_any}
use Rattle.std.specs.Str.{bytes_eq}
use Rattle.std.specs.Fmt.{decimal}
use Rattle.puffin_threads.specs.Details.{Details, name_of}

-- the name in these details, or without details a `#` and the id
abbrev pub name_or_id : ℕ → Option Details → List ℕ
name_or_id id (Some details) = name_of details
name_or_id id None = codes "#" ++ decimal id

-- with one name more, unless it is among these
abbrev pub with_name : List (List ℕ) → List ℕ → List (List ℕ)
with_name names name = if list_any (bytes_eq name) names then names else names ++ (name ∷ [])
