-- What the folded stacks take from a stream, scope by scope.
use Rattle.std.specs.Prelude.{◌≡◌, ℕ, ◌+◌, ◌-◌, true, false, List, [], ◌∷◌, ◌++◌, map, fold, slice_get, if◌then◌else◌, Option, Some, None}
use Rattle.std.specs.Option.{option_and_then}
use Rattle.std.specs.List.{flat_map, list_any}
use Rattle.std.specs.Map.{keys_of}
use Rattle.std.specs.Str.{bytes_eq}
use Rattle.std.specs.declared.vec.Vec.{Vec}
use Rattle.std.specs.declared.alloc.Global.{Global}
use Rattle.std.proofs.Common.{refl, sym, ap, subst, ◌∙◌}
use Rattle.std.proofs.lemmas.List.Sums.{fold-append}
use Rattle.std.proofs.lemmas.List.Concat.{flat_map-append}
use denote.Ref.{Bor}
use Rattle.puffin_data.specs.Forest.{Span}
use Rattle.puffin_data.specs.Walk.PlacedScopes.{ScopeInContext}
use Rattle.puffin_threads.specs.Details.Collection.{Collection}
use Rattle.puffin_view.specs.View.Stats.{cut}
use Rattle.puffin_look.specs.Folded.{Part, scope_parts, path_of, path_line}
use Rattle.puffin_look.specs.inner.Keys.{keys_of-append, place_stays}
use Rattle.puffin_look.specs.declared.stacks.Times.{Times}
use Rattle.puffin_look.specs.declared.stacks.Stacks.{Stacks}

-- ---- the times of paths

abbrev pub no_times : Times
no_times = record { whole = 0; nested = 0 }

abbrev pub times_with : Times → ℕ → ℕ → Times
times_with times whole nested =
    record { whole = cut (times.whole + whole); nested = cut (times.nested + nested) }

abbrev pub Row : Type 0
Row = List ℕ × Times

abbrev pub row_with : Part → Row → Row
row_with part row =
    if bytes_eq part.path row.0 then (row.0, times_with row.1 part.whole part.nested) else row

abbrev pub new_row : List (List ℕ) → Part → List Row
new_row paths part =
    if list_any (bytes_eq part.path) paths then []
    else (part.path, times_with no_times part.whole part.nested) ∷ []

-- the times of all paths, with one part more
abbrev pub with_part : List Row → Part → List Row
with_part rows part = map (row_with part) rows ++ new_row (keys_of rows) part

-- ---- as the code holds them

abbrev pub Held : Type 0
Held = Vec ℕ Global × Times

abbrev pub row_of : Held → Row
row_of entry = (entry.0.items, entry.1)

abbrev pub rows_in : List Held → List Row
rows_in entries = map row_of entries

abbrev pub rows_of : Stacks → List Row
rows_of stacks = rows_in stacks.rows.entries

-- the path at a place
abbrev pub path_at : List Row → Option ℕ → Option (List ℕ)
path_at rows place = option_and_then (λ i. slice_get (keys_of rows) i) place

-- the line of a path
abbrev pub row_text : Row → List ℕ
row_text row = path_line row.0 (row.1.whole - row.1.nested)

-- ---- a stream

-- these parts were added, and the details stayed
pub record HasMoreParts (old new : Stacks) (more : List Part) : Type 0 where
  pub rows : rows_of new ≡ fold with_part (rows_of old) more
  pub known : new.known ≡ old.known

abbrev pub all_parts : Stacks → List ScopeInContext → List Part
all_parts stacks scopes = flat_map (scope_parts stacks.known.now) scopes

abbrev pub TakesScopes : Stacks → List ScopeInContext → Stacks → Type 0
TakesScopes old scopes new = HasMoreParts old new (all_parts old scopes)

-- what is kept is the place of the path of the innermost of these scopes, or nothing outside of all scopes
abbrev pub StandsFor : Stacks → Option ℕ → List Span → Type 0
StandsFor stacks None around = path_of stacks.known.now around ≡ None
StandsFor stacks (Some place) around =
    (path : List ℕ) × (path_of stacks.known.now around ≡ Some path)
    × (slice_get (keys_of (rows_of stacks)) place ≡ Some path)

-- ---- laws

keys_kept : (s : Part) (rows : List Row) → keys_of (map (row_with s) rows) ≡ keys_of rows
keys_kept s [] = refl
keys_kept s (row ∷ rows) =
    elim (bytes_eq s.path row.0) as (λ b.
    (if b then (row.0, times_with row.1 s.whole s.nested) else row).0
    ∷ keys_of (map (row_with s) rows) ≡ row.0 ∷ keys_of rows) [
      | true ↦ ap (λ (ks : List (List ℕ)). row.0 ∷ ks) (keys_kept s rows)
      | false ↦ ap (λ (ks : List (List ℕ)). row.0 ∷ ks) (keys_kept s rows)
    ]

-- the paths stay, and a new one comes last
pub keys_with : (rows : List Row) (s : Part) →
    keys_of (with_part rows s) ≡ keys_of rows ++ keys_of (new_row (keys_of rows) s)
keys_with rows s =
    keys_of-append (map (row_with s) rows) (new_row (keys_of rows) s)
    ∙ ap (λ (ks : List (List ℕ)). ks ++ keys_of (new_row (keys_of rows) s)) (keys_kept s rows)

-- a path keeps its place
pub place_kept : (rows : List Row) (s : Part) (w : Option ℕ) (path : List ℕ) →
    path_at rows w ≡ Some path → path_at (with_part rows s) w ≡ Some path
place_kept rows s None path h = h
place_kept rows s (Some i) path h =
    ap (λ (ks : List (List ℕ)). slice_get ks i) (keys_with rows s)
    ∙ place_stays (keys_of rows) (keys_of (new_row (keys_of rows) s)) i path h

pub places_kept : (rows : List Row) (more : List Part) (w : Option ℕ) (path : List ℕ) →
    path_at rows w ≡ Some path → path_at (fold with_part rows more) w ≡ Some path
places_kept rows [] w path h = h
places_kept rows (s ∷ more) w path h =
    places_kept (with_part rows s) more w path (place_kept rows s w path h)

pub scopes_none : (v : Stacks) → TakesScopes v [] v
scopes_none v = record { rows = refl; known = refl }

pub parts_more : (u v w : Stacks) (xs ys : List Part) → HasMoreParts u v xs →
    HasMoreParts v w ys → HasMoreParts u w (xs ++ ys)
parts_more u v w xs ys a b = record {
  rows = b.rows ∙ ap (λ (rows : List Row). fold with_part rows ys) a.rows
      ∙ sym (fold-append with_part (rows_of u) xs ys);
  known = b.known ∙ a.known;
}

pub scopes_more : (u v w : Stacks) (xs ys : List ScopeInContext) → TakesScopes u xs v →
    TakesScopes v ys w → TakesScopes u (xs ++ ys) w
scopes_more u v w xs ys a b =
    subst (HasMoreParts u w) (sym (flat_map-append (scope_parts u.known.now) xs ys))
    (parts_more u v w (all_parts u xs) (all_parts u ys) a (subst (HasMoreParts v w)
    (λ i. flat_map (scope_parts (a.known i).now) ys) b))

pub still_stands : (u v : Stacks) (xs : List ScopeInContext) (w : Option ℕ) (around : List Span) →
    TakesScopes u xs v → StandsFor u w around → StandsFor v w around
still_stands u v xs None around t s = ap (λ (k : Bor Collection). path_of k.now around) t.known ∙ s
still_stands u v xs (Some i) around t s = (
  s.0,
  ap (λ (k : Bor Collection). path_of k.now around) t.known ∙ s.1,
  ap (λ (rows : List Row). slice_get (keys_of rows) i) t.rows
      ∙ places_kept (rows_of u) (all_parts u xs) (Some i) s.0 s.2,
)
