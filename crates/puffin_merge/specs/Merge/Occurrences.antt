-- The occurrences of one thread's scopes, each with its path, start and duration.
use Rattle.std.specs.Prelude.{ℕ, ℤ, ◌-ℤ◌, nat_abs, pos, Bool, List, [], ◌∷◌, ◌++◌, map, flat_map}
use Rattle.std.specs.declared.cmp.Ordering.{Ordering}
use Rattle.std.specs.Ordering.{nat_cmp, on, then_cmp, eq_by_cmp}
use Rattle.std.specs.Cmp.Lexicographic.{slice_cmp}
use Rattle.puffin_data.specs.Forest.{Span, Forest}
use Rattle.puffin_data.specs.Walk.PlacedScopes.{ScopeInContext, nested_in}
use Rattle.puffin_data.specs.Text.{text_in}

-- identifies a scope among its siblings: its id and its text's bytes
pub record Label : Type 0 where
  pub id : ℕ
  pub text : List ℕ

-- by id, then by the text's bytes
abbrev pub label_cmp : Label → Label → Ordering
label_cmp =
    then_cmp (on (λ label. label.id) nat_cmp) (on (λ label. label.text) (slice_cmp nat_cmp))

-- the labels from the top level down to a scope, its own last
abbrev pub Path : Type 0
Path = List Label

-- whether two paths are the same
abbrev pub is_path : Path → Path → Bool
is_path = eq_by_cmp (slice_cmp label_cmp)

-- a scope's label, with the longest prefix of its text's bytes that is UTF-8
abbrev pub label_of : Span → Label
label_of span = record { id = span.id; text = text_in span.text }

-- the path of the innermost of these scopes, each within the one before
abbrev pub path_of : List Span → Path
path_of spans = map label_of spans

-- One scope in one frame. Its own start is measured from its parent's start, and that of a top-level scope as if every frame
-- began when the first did.
pub record Occurrence : Type 0 where
  pub path : Path
  pub own_start : ℤ
  pub duration : ℕ

-- the start of the innermost of these scopes, or the origin if there are none
abbrev pub origin_in : ℤ → List Span → ℤ
origin_in origin [] = origin
origin_in origin (span ∷ around) = origin_in span.start around

-- the occurrence of a scope of a forest; starts of top-level scopes are measured from the origin
abbrev pub occurrence_of : ℤ → ScopeInContext → Occurrence
occurrence_of origin scope = record {
  path = path_of scope.around ++ (label_of scope.span ∷ []);
  own_start = scope.span.start -ℤ origin_in origin scope.around;
  duration = nat_abs (scope.span.stop -ℤ scope.span.start);
}

-- the occurrences of these scopes, with the same origin
abbrev pub occurrences_in : ℤ → List ScopeInContext → List Occurrence
occurrences_in origin scopes = map (occurrence_of origin) scopes

-- what merging reads of a frame: the start of its range, and the thread's scopes (none if it has no stream)
pub record FrameScopes : Type 0 where
  pub start : ℤ
  pub forest : Forest

-- all scopes of a frame, with starts of top-level scopes measured as if the frame's range began when the first frame's did
abbrev pub occurrences_of : ℤ → FrameScopes → List Occurrence
occurrences_of first frame = occurrences_in (frame.start -ℤ first) (nested_in [] frame.forest)

-- all scopes of these frames, where the first frame's range starts at this time
abbrev pub occurrences_from : ℤ → List FrameScopes → List Occurrence
occurrences_from first frames = flat_map (occurrences_of first) frames

-- the start of the first frame's range; 0 if there are no frames
abbrev pub first_start : List FrameScopes → ℤ
first_start [] = pos 0
first_start (frame ∷ frames) = frame.start

-- all scopes of all frames
abbrev pub occurrences : List FrameScopes → List Occurrence
occurrences frames = occurrences_from (first_start frames) frames
