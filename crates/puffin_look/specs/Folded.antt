-- The folded stacks of a file: each path of scopes with its own time.
use Rattle.std.specs.Prelude.{◌≡◌, ℕ, ◌-◌, Bool, false, List, [], ◌∷◌, ◌++◌, codes, map, fold, filter, ◌==◌, ◌||◌, nat_lt, if◌then◌else◌, Option, Some, None, sum_by}
use Rattle.std.specs.Fmt.{decimal}
use Rattle.std.specs.FinMap as tree
use Rattle.std.specs.List.{flat_map}
use Rattle.std.specs.Str.{bytes_eq}
use Rattle.puffin_data.specs.Forest.{Span, Forest}
use Rattle.puffin_data.specs.Walk.PlacedScopes.{ScopeInContext, nested_in}
use Rattle.puffin_threads.specs.Details.Collection.{Collection}
use Rattle.puffin_view.specs.View.Stats.{cut}
use Rattle.puffin_look.specs.OpenFrame.{OpenFrame}
use Rattle.puffin_look.specs.Trees.{TreeFrame}
use Rattle.puffin_look.specs.Wanted.{AreTaken}
use Rattle.puffin_look.specs.declared.wanted.Wanted.{Wanted}
use Rattle.puffin_look.specs.declared.stacks.Times.{Times}
use Rattle.puffin_look.specs.Names.{name_or_id, with_name}
use Rattle.puffin_look.specs.FrameTree.{time_of, found_in}

-- ---- a path

-- control characters, the blank before a number, and the `;` between the names of a path
abbrev pub is_reserved : ℕ → Bool
is_reserved byte = nat_lt byte 33 || (byte == 59 || byte == 127)

abbrev pub shown_byte : ℕ → ℕ
shown_byte byte = if is_reserved byte then 95 else byte

-- a scope's name, with a `_` in place of each reserved byte
abbrev pub label : Collection → ℕ → List ℕ
label known id = map shown_byte (name_or_id id (tree.get known.by_id id))

-- a path in front of a name that is below it
abbrev pub front : Option (List ℕ) → List ℕ
front None = []
front (Some path) = path ++ codes ";"

abbrev pub below : Option (List ℕ) → List ℕ → List ℕ
below path name = front path ++ name

abbrev pub path_with : Collection → Option (List ℕ) → Span → Option (List ℕ)
path_with known path span = Some (below path (label known span.id))

-- the path of the innermost of these scopes, or nothing if there are none
abbrev pub path_of : Collection → List Span → Option (List ℕ)
path_of known around = fold (path_with known) None around

-- ---- times

-- A part of the time of a path: the duration of a scope with the path, or of a scope directly within one.
pub record Part : Type 0 where
  pub path : List ℕ
  pub whole : ℕ
  pub nested : ℕ

abbrev pub outer_part : Option (List ℕ) → ℕ → List Part
outer_part None time = []
outer_part (Some path) time = record { path = path; whole = 0; nested = time } ∷ []

-- A scope's duration is a part of its own path's time, and nested in the path that it is directly below.
abbrev pub parts_at : Option (List ℕ) → List ℕ → ℕ → List Part
parts_at outer name time =
    record { path = below outer name; whole = time; nested = 0 } ∷ outer_part outer time

abbrev pub scope_parts : Collection → ScopeInContext → List Part
scope_parts known scope =
    parts_at (path_of known scope.around) (label known scope.span.id) (time_of scope.span)

abbrev pub forest_parts : Collection → Forest → List Part
forest_parts known forest = flat_map (scope_parts known) (nested_in [] forest)

-- the scopes of a frame
abbrev pub frame_parts : Collection → TreeFrame → List Part
frame_parts known frame = flat_map (λ t. forest_parts known t.1) frame.trees

abbrev pub parts : Collection → List TreeFrame → List Part
parts known frames = flat_map (frame_parts known) frames

abbrev pub parts_of : List ℕ → List Part → List Part
parts_of path all = filter (λ s. bytes_eq s.path path) all

-- The durations of the scopes with a path, and of those directly within them. A sum that doesn't fit `u64` is cut.
abbrev pub times_in : List Part → List ℕ → Times
times_in all path = record {
  whole = cut (sum_by (λ s. s.whole) (parts_of path all));
  nested = cut (sum_by (λ s. s.nested) (parts_of path all));
}

-- what of a path's time isn't that of the scopes directly within
abbrev pub own_time : List Part → List ℕ → ℕ
own_time all path = (times_in all path).whole - (times_in all path).nested

-- ---- lines

abbrev pub with_path : List (List ℕ) → Part → List (List ℕ)
with_path paths part = with_name paths part.path

-- each path once, in the order in which they are met
abbrev pub paths_in : List Part → List (List ℕ)
paths_in all = fold with_path [] all

abbrev pub path_line : List ℕ → ℕ → List ℕ
path_line path time = path ++ ((codes " " ++ decimal time) ++ codes "\n")

-- a line for each path: the path, a blank, and its own time in nanoseconds
abbrev pub folded_lines : List Part → List ℕ
folded_lines all = flat_map (λ path. path_line path (own_time all path)) (paths_in all)

-- The paths of the scopes of the wanted threads, in all wanted frames; `found` is whether there is a stream of such a thread.
abbrev pub IsFolded : Collection → Wanted → Bool → List OpenFrame → List ℕ → Type 0
IsFolded known wanted found frames text =
    (trees : List TreeFrame)
    × AreTaken wanted frames trees
    × (text ≡ folded_lines (parts known trees))
    × (found ≡ found_in false trees)

-- the folded stacks of some frames, whether there is a stream or not
abbrev pub IsAnyFolded : Collection → Wanted → List OpenFrame → List ℕ → Type 0
IsAnyFolded known wanted frames text = (found : Bool) × IsFolded known wanted found frames text
