-- The short name of a file's path.
use Rattle.std.specs.Prelude.{codes, Bool, ℕ, suc, ◌+◌, ◌-◌, ◌==◌, if◌then◌else◌, nat_lt, List, [], ◌∷◌, map, length, Option, Some, None}
use Rattle.std.specs.List.{slice_split, join_with_byte, slice_index_or}
use Rattle.std.specs.Option.{option_map, option_or}
use Rattle.std.specs.Str.{bytes_eq}

-- each backslash, byte 92, replaced by a slash, byte 47
abbrev pub with_slashes : List ℕ → List ℕ
with_slashes path = map (λ byte. if byte == 92 then 47 else byte) path

-- `…`, in UTF-8
abbrev pub ellipsis : List ℕ
ellipsis = 226 ∷ 128 ∷ 166 ∷ []

-- whether a part of a path is `src`
abbrev pub is_src : List ℕ → Bool
is_src part = bytes_eq part (codes "src")

-- whether a part of a path is `lib.rs`
abbrev pub is_lib : List ℕ → Bool
is_lib part = bytes_eq part (codes "lib.rs")

-- the place of the last part that is `src`, counted from 0
abbrev pub last_src : List (List ℕ) → Option ℕ
last_src [] = None
last_src (part ∷ parts) =
    option_or (option_map suc (last_src parts)) (if is_src part then Some 0 else None)

-- the part at this place
abbrev pub part_at : List (List ℕ) → ℕ → List ℕ
part_at parts place = slice_index_or parts place []

-- The crate's folder and the file, which have these places, with the part between them if there is exactly one, else with `…`. For
-- a `lib.rs`, its folder is kept too.
abbrev pub kept_in_crate : List (List ℕ) → (crate file : ℕ) → List (List ℕ)
kept_in_crate parts crate file =
    if crate + 2 == file
    then part_at parts crate ∷ part_at parts (crate + 1) ∷ part_at parts file ∷ []
    else if is_lib (part_at parts file)
    then part_at parts crate ∷ ellipsis ∷ part_at parts (file - 1) ∷ part_at parts file ∷ []
    else part_at parts crate ∷ ellipsis ∷ part_at parts file ∷ []

-- The parts that are kept if the last `src` has this place. The crate's folder is the part before it, or `src` itself if it is the
-- first part. If there is no `src`, the last two parts are kept.
abbrev pub kept_round_src : List (List ℕ) → Option ℕ → List (List ℕ)
kept_round_src parts None =
    part_at parts (length parts - 2) ∷ part_at parts (length parts - 1) ∷ []
kept_round_src parts (Some src) = kept_in_crate parts (src - 1) (length parts - 1)

-- the parts that are kept: all of them if there are at most two
abbrev pub kept_parts : List (List ℕ) → List (List ℕ)
kept_parts parts = if nat_lt 2 (length parts) then kept_round_src parts (last_src parts) else parts

-- the parts of a path between its slashes
abbrev pub parts_of : List ℕ → List (List ℕ)
parts_of path = slice_split (λ byte. byte == 47) path

-- The short name of a file: the parts that are kept of its path, joined by slashes. Backslashes count as slashes.
abbrev pub short_file : List ℕ → List ℕ
short_file path = join_with_byte 47 (kept_parts (parts_of (with_slashes path)))
