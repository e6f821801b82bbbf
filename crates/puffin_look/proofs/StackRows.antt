-- The times of paths, as a map in the order of insertion holds them.
--
-- `with_part` adds a part to the rows of all paths. The code does so in one of two ways: it appends the entry of a path that is new
-- (`row_added`), or sets the value at the place of one that is there (`part_added`). Both give the same rows.
use Rattle.std.proofs.Common.{◌≡◌, ℕ, zero, suc, Bool, true, false, List, [], ◌∷◌, ◌++◌, map, length, slice_get, position, Option, Some, None, refl, sym, ap, subst, ◌∙◌, is_some, true≢false, append-nil}
use Rattle.std.specs.Prelude.{if◌then◌else◌, cond, ◌||◌, fold, codes, IfSome}
use Rattle.std.specs.Str.{bytes_eq}
use Rattle.std.specs.List.{list_any, AllByRecursion, IsDistinct}
use Rattle.std.specs.Map.{keys_of, values_of, lookup}
use Rattle.std.proofs.lemmas.List.{map-append}
use Rattle.std.proofs.lemmas.Map.Keys.{IsDistinct-head, IsDistinct-tail}
use Rattle.std.proofs.lemmas.Option.{none-some, same_Some, slice_get-map, slice_get-get_or}
use Rattle.std.proofs.lemmas.List.Quantifiers.{position-Some}
use Rattle.std.specs.Option.{option_map}
use Rattle.std.proofs.lemmas.List.Folds.{list_any-append}
use Rattle.std.proofs.lemmas.Slice.Eq.{bytes_eq-Decides}
use Rattle.std.specs.declared.vec.Vec.{Vec}
use Rattle.std.specs.declared.alloc.Global.{Global}
use Rattle.indexmap.specs.IndexMap.{set_value_at}
use Rattle.puffin_look.specs.Folded.{Part, front, below, parts_at, outer_part}
use Rattle.puffin_look.specs.inner.Stacks.{Row, Held, row_of, rows_in, row_with, with_part, times_with, no_times, path_at, place_kept}
use Rattle.puffin_look.specs.declared.stacks.Times.{Times}

abbrev pub Key : Type 0
Key = Vec ℕ Global

abbrev pub same_key : Key → Key → Bool
same_key a b = bytes_eq a.items b.items

abbrev pub has_path : List ℕ → Key → Bool
has_path path key = bytes_eq path key.items

-- bytes that are found equal are the same
pub from_bytes_eq : (a b : List ℕ) → bytes_eq a b ≡ true → a ≡ b
from_bytes_eq a b = (bytes_eq-Decides a b).0

-- and the same bytes are found equal
pub to_bytes_eq : (a b : List ℕ) → a ≡ b → bytes_eq a b ≡ true
to_bytes_eq a b = (bytes_eq-Decides a b).1

pub itself : (path : List ℕ) → bytes_eq path path ≡ true
itself path = to_bytes_eq path path refl

-- bytes that differ do so in both orders
pub turned : (a b : List ℕ) (test : Bool) → bytes_eq b a ≡ test → bytes_eq a b ≡ false → bytes_eq b a ≡ false
turned a b false is differ = is
turned a b true is differ = absurd (true≢false (sym (to_bytes_eq a b (sym (from_bytes_eq b a is))) ∙ differ))

-- ---- a path that is new

-- the row of another path stays
row_kept : (part : Part) (row : Row) → bytes_eq part.path row.0 ≡ false → row_with part row ≡ row
row_kept part row other = ap (λ (b : Bool). if b then (row.0, times_with row.1 part.whole part.nested) else row) other

pub left_false : (a b : Bool) → (a || b) ≡ false → a ≡ false
left_false true b h = h
left_false false b h = refl

pub right_false : (a b : Bool) → (a || b) ≡ false → b ≡ false
right_false true b h = absurd (true≢false h)
right_false false b h = h

-- all rows are those of other paths
rows_kept : (part : Part) (rows : List Row) → list_any (bytes_eq part.path) (keys_of rows) ≡ false → map (row_with part) rows ≡ rows
rows_kept part [] absent = refl
rows_kept part (row ∷ rows) absent =
    let first = left_false (bytes_eq part.path row.0) _ absent in
    let rest = right_false (bytes_eq part.path row.0) _ absent in
    λ i. row_kept part row first i ∷ rows_kept part rows rest i

-- looking a path up finds whether there is a row of it
looked_up : (path : List ℕ) (es : List Held) → is_some (lookup (has_path path) es) ≡ list_any (bytes_eq path) (keys_of (rows_in es))
looked_up path [] = refl
looked_up path ((key, times) ∷ es) =
    elim (bytes_eq path key.items) as (λ b. is_some (cond b (Some times) (lookup (has_path path) es))
    ≡ (b || list_any (bytes_eq path) (keys_of (rows_in es)))) [
      | true ↦ refl
      | false ↦ looked_up path es
    ]

pub no_value : {X : Type 0} (found : Option X) → is_some found ≡ false → found ≡ None
no_value None h = refl
no_value (Some x) h = absurd (true≢false h)

-- the entry of a new path is appended
pub row_added : (part : Part) (es : List Held) (key : Key) (times : Times) → is_some (lookup (has_path part.path) es) ≡ false
    → key.items ≡ part.path → times ≡ times_with no_times part.whole part.nested
    → rows_in (es ++ (key, times) ∷ []) ≡ with_part (rows_in es) part
row_added part es key times new same time =
    let absent : list_any (bytes_eq part.path) (keys_of (rows_in es)) ≡ false = sym (looked_up part.path es) ∙ new in
    map-append row_of es ((key, times) ∷ [])
    ∙ (λ i. sym (rows_kept part (rows_in es) absent) i ++ (same i, time i) ∷ [])
    ∙ sym (ap (λ (b : Bool). map (row_with part) (rows_in es)
    ++ (if b then [] else (part.path, times_with no_times part.whole part.nested) ∷ [])) absent)

-- its place is the last one
pub place_added : (es : List Held) (key : Key) (times : Times) (path : List ℕ) → key.items ≡ path
    → slice_get (keys_of (rows_in (es ++ (key, times) ∷ []))) (length es) ≡ Some path
place_added [] key times path same = ap Some same
place_added (e ∷ es) key times path same = place_added es key times path same

-- A name that isn't found among some names and another, which was among them (`b`) or is put behind them, is neither that other nor
-- one of them.
pub unmet_by : (name other : List ℕ) (names : List (List ℕ)) (b : Bool) → list_any (bytes_eq other) names ≡ b
    → list_any (bytes_eq name) (if b then names else names ++ other ∷ []) ≡ false
    → (bytes_eq other name ≡ false) × (list_any (bytes_eq name) names ≡ false)
unmet_by name other names true is absent =
    let differs : (test : Bool) → bytes_eq other name ≡ test → test ≡ false =
    λ test e. elim test as (λ t. bytes_eq other name ≡ t → t ≡ false) [
      | true ↦ λ e. absurd (true≢false (sym is ∙ ap (λ (n : List ℕ). list_any (bytes_eq n) names) (from_bytes_eq other name e) ∙ absent))
      | false ↦ λ e. refl
    ] e in
    (differs _ refl, absent)
unmet_by name other names false is absent =
    let parts = sym (list_any-append (bytes_eq name) names (other ∷ [])) ∙ absent in
    let last = left_false (bytes_eq name other) false (right_false (list_any (bytes_eq name) names) _ parts) in
    (turned name other _ refl last, left_false (list_any (bytes_eq name) names) _ parts)

-- ---- a path that is there

-- the paths of the rows are the keys of the map
keys_seen : (es : List Held) → keys_of (rows_in es) ≡ map (λ (k : Key). k.items) (keys_of es)
keys_seen [] = refl
keys_seen ((key, times) ∷ es) = ap (λ (ks : List (List ℕ)). key.items ∷ ks) (keys_seen es)

-- a path is at the place that it is found at
pub place_found : (es : List Held) (path : List ℕ) (i : ℕ) → position (has_path path) (keys_of es) ≡ Some i
    → slice_get (keys_of (rows_in es)) i ≡ Some path
place_found [] path i found = absurd (none-some i found)
place_found (e ∷ es) path i found =
    let (within, has, first) = position-Some (has_path path) (keys_of (e ∷ es)) i e.0 found in
    ap (λ (ks : List (List ℕ)). slice_get ks i) (keys_seen (e ∷ es)) ∙ slice_get-map (λ (k : Key). k.items) (keys_of (e ∷ es)) i
    ∙ ap (option_map (λ (k : Key). k.items)) (slice_get-get_or (keys_of (e ∷ es)) i e.0 within)
    ∙ ap Some (sym (from_bytes_eq path _ has))

-- a key that no other equals isn't the path at a place of the others
apart : (key path : List ℕ) (es : List Held) (i : ℕ) → AllByRecursion (λ (y : Key). bytes_eq key y.items ≡ false) (keys_of es)
    → slice_get (keys_of (rows_in es)) i ≡ Some path → bytes_eq key path ≡ false
apart key path [] i others at = absurd (none-some path at)
apart key path ((first, times) ∷ es) zero (first_differs, others) at =
    ap (bytes_eq key) (sym (same_Some first.items path at)) ∙ first_differs
apart key path (e ∷ es) (suc i) (first_differs, others) at = apart key path es i others at

-- the rows behind the one of a path stay, since no other key equals it
others_kept : (part : Part) (key : List ℕ) (es : List Held) → key ≡ part.path
    → AllByRecursion (λ (y : Key). bytes_eq key y.items ≡ false) (keys_of es) → map (row_with part) (rows_in es) ≡ rows_in es
others_kept part key [] same others = refl
others_kept part key (e ∷ es) same (first_differs, others) =
    let first : bytes_eq part.path e.0.items ≡ false = ap (λ (p : List ℕ). bytes_eq p e.0.items) (sym same) ∙ first_differs in
    λ i. row_kept part (row_of e) first i ∷ others_kept part key es same others i

-- a path at a place is among the paths
there : (path : List ℕ) (paths : List (List ℕ)) (i : ℕ) → slice_get paths i ≡ Some path → list_any (bytes_eq path) paths ≡ true
there path [] i at = absurd (none-some path at)
there path (first ∷ paths) zero at =
    ap (λ (b : Bool). b || list_any (bytes_eq path) paths) (to_bytes_eq path first (sym (same_Some first path at)))
there path (first ∷ paths) (suc i) at =
    elim (bytes_eq path first) as (λ b. (b || list_any (bytes_eq path) paths) ≡ true) [ true ↦ refl | false ↦ there path paths i at ]

-- adding a part to the rows sets the value at the place of its path
row_grown : (part : Part) (es : List Held) (i : ℕ) (times : Times) → slice_get (keys_of (rows_in es)) i ≡ Some part.path
    → slice_get (values_of es) i ≡ Some times → IsDistinct same_key (keys_of es)
    → map (row_with part) (rows_in es) ≡ rows_in (set_value_at es i (times_with times part.whole part.nested))
row_grown part [] i times at value distinct = refl
row_grown part (e ∷ es) zero times at value distinct =
    let same = same_Some e.0.items part.path at in
    let here : bytes_eq part.path e.0.items ≡ true = to_bytes_eq part.path e.0.items (sym same) in
    let first : row_with part (row_of e) ≡ (e.0.items, times_with times part.whole part.nested) =
    ap (λ (b : Bool). if b then (e.0.items, times_with e.1 part.whole part.nested) else row_of e) here
    ∙ ap (λ (t : Times). (e.0.items, times_with t part.whole part.nested)) (same_Some e.1 times value) in
    λ i. first i ∷ others_kept part e.0.items es same (IsDistinct-head same_key e.0 (keys_of es) distinct) i
row_grown part (e ∷ es) (suc i) times at value distinct =
    let other = apart e.0.items part.path es i (IsDistinct-head same_key e.0 (keys_of es) distinct) at in
    let first = turned e.0.items part.path _ refl other in
    λ j. row_kept part (row_of e) first j ∷ row_grown part es i times at value (IsDistinct-tail same_key e.0 (keys_of es) distinct) j

-- the value at the place of a path is set
pub part_added : (part : Part) (es : List Held) (i : ℕ) (times : Times) → slice_get (keys_of (rows_in es)) i ≡ Some part.path
    → slice_get (values_of es) i ≡ Some times → IsDistinct same_key (keys_of es)
    → rows_in (set_value_at es i (times_with times part.whole part.nested)) ≡ with_part (rows_in es) part
part_added part es i times at value distinct =
    sym (row_grown part es i times at value distinct) ∙ sym (append-nil (map (row_with part) (rows_in es)))
    ∙ sym (ap (λ (b : Bool). map (row_with part) (rows_in es)
    ++ (if b then [] else (part.path, times_with no_times part.whole part.nested) ∷ [])) (there part.path (keys_of (rows_in es)) i at))

-- a place that has a path has a value
pub no_place : (es : List Held) (i : ℕ) (path : List ℕ) → slice_get (values_of es) i ≡ None
    → slice_get (keys_of (rows_in es)) i ≡ Some path → ⊥
no_place [] i path none at = none-some path at
no_place ((key, times) ∷ es) zero path none at = none-some times (sym none)
no_place (e ∷ es) (suc i) path none at = no_place es i path none at

-- ---- a scope

-- the path at a place is the key of the entry there
pub entry_seen : (es : List Held) (i : ℕ) → slice_get (keys_of (rows_in es)) i ≡ option_map (λ (e : Held). e.0.items) (slice_get es i)
entry_seen [] i = refl
entry_seen (e ∷ es) zero = refl
entry_seen (e ∷ es) (suc i) = entry_seen es i

-- nothing stands in front of a name outside of all scopes
pub front_none : (es : List Held) (place : Option ℕ) (i : ℕ) (text : List ℕ) → place ≡ Some i → slice_get es i ≡ None
    → text ≡ text ++ front (path_at (rows_in es) place)
front_none es place i text is none =
    sym (ap (λ (o : Option ℕ). text ++ front (path_at (rows_in es) o)) is
    ∙ ap (λ (o : Option (List ℕ)). text ++ front o) (entry_seen es i ∙ ap (option_map (λ (e : Held). e.0.items)) none)
    ∙ append-nil text)

-- the path of the scope around stands in front of a name, and a `;`
pub front_some : (es : List Held) (place : Option ℕ) (i : ℕ) (key : Key) (times : Times) → place ≡ Some i
    → slice_get es i ≡ Some (key, times) → key.items ++ codes ";" ≡ front (path_at (rows_in es) place)
front_some es place i key times is some =
    sym (ap (λ (o : Option ℕ). front (path_at (rows_in es) o)) is
    ∙ ap front (entry_seen es i ∙ ap (option_map (λ (e : Held). e.0.items)) some))

-- A scope changes `rows` to `mid`, where its own path has more time, and then to `new`, where the path around it has more nested time.
module _ (rows mid new : List Row) (name : List ℕ) (time : ℕ) where
  -- the first step, if `outer` is the place of the path around
  abbrev pub First : Option ℕ → Type 0
  First outer = mid ≡ with_part rows (record { path = below (path_at rows outer) name; whole = time; nested = 0 })

  -- the second step, at the place of the path around
  abbrev pub Second : ℕ → Type 0
  Second i =
      (path : List ℕ) → slice_get (keys_of mid) i ≡ Some path
      → new ≡ with_part mid (record { path = path; whole = 0; nested = time })

  -- a path stands at a place
  abbrev pub Stands : ℕ → Type 0
  Stands i = (path : List ℕ) × (slice_get (keys_of rows) i ≡ Some path)

  -- it still does after the first step
  still : (i : ℕ) (path : List ℕ) → slice_get (keys_of rows) i ≡ Some path → First (Some i) → slice_get (keys_of mid) i ≡ Some path
  still i path at first = ap (λ (r : List Row). slice_get (keys_of r) i) first ∙ place_kept rows _ (Some i) path at

  nested_at : (i : ℕ) → Stands i → First (Some i) → Second i → new ≡ fold with_part rows (parts_at (path_at rows (Some i)) name time)
  nested_at i (path, at) first second =
      second path (still i path at first)
      ∙ ap (λ (r : List Row). with_part r (record { path = path; whole = 0; nested = time })) first
      ∙ sym (ap (λ (o : Option (List ℕ)). fold with_part rows
      (record { path = below (path_at rows (Some i)) name; whole = time; nested = 0 } ∷ outer_part o time)) at)

  moved : (i j : ℕ) → i ≡ j → Second j → Second i
  moved i j same second = subst Second (sym same) second

  -- the scope counts for its own path, and in the path around it
  pub scope_nested : (outer : Option ℕ) (i : ℕ) → outer ≡ Some i → IfSome outer Stands → First outer → Second i
      → new ≡ fold with_part rows (parts_at (path_at rows outer) name time)
  scope_nested None i is stands first second = absurd (none-some i is)
  scope_nested (Some j) i is stands first second = nested_at j stands first (moved j i (same_Some j i is) second)

  place_at : (i : ℕ) → Stands i → First (Some i) → Second i → (place : ℕ) (path : List ℕ)
      → slice_get (keys_of mid) place ≡ Some path → slice_get (keys_of new) place ≡ Some path
  place_at i (outer, at) first second place path there =
      ap (λ (r : List Row). slice_get (keys_of r) place) (second outer (still i outer at first))
      ∙ place_kept mid (record { path = outer; whole = 0; nested = time }) (Some place) path there

  -- a path keeps its place in the second step
  pub place_nested : (outer : Option ℕ) (i : ℕ) → outer ≡ Some i → IfSome outer Stands → First outer → Second i
      → (place : ℕ) (path : List ℕ) → slice_get (keys_of mid) place ≡ Some path → slice_get (keys_of new) place ≡ Some path
  place_nested None i is stands first second = absurd (none-some i is)
  place_nested (Some j) i is stands first second = place_at j stands first (moved j i (same_Some j i is) second)
