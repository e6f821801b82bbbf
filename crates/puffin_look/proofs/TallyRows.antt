-- The tallies of names, as a map in the order of insertion holds them.
--
-- The code adds a piece in two steps: it finds the place of the piece's name (`row_there`), or appends the name with an empty tally
-- (`row_added`); then it sets the tally at that place (`row_grown`). Together they are `with_piece_in`.
use Rattle.std.proofs.Common.{◌≡◌, ℕ, zero, suc, Bool, true, false, List, [], ◌∷◌, ◌++◌, map, length, slice_get, position, Option, Some, None, refl, sym, ap, subst, ◌∙◌, is_some}
use Rattle.std.specs.Prelude.{if◌then◌else◌, cond, ◌||◌, fold, IfSome}
use Rattle.std.specs.Str.{bytes_eq}
use Rattle.std.specs.List.{list_any, AllByRecursion, IsDistinct}
use Rattle.std.specs.Map.{keys_of, values_of, lookup}
use Rattle.std.proofs.lemmas.Bool.{cond-true, cond-false}
use Rattle.std.proofs.lemmas.List.{map-append}
use Rattle.std.proofs.lemmas.Map.Keys.{IsDistinct-head, IsDistinct-tail}
use Rattle.std.proofs.lemmas.Option.{none-some, same_Some, slice_get-map, slice_get-get_or}
use Rattle.std.proofs.lemmas.List.Quantifiers.{position-Some}
use Rattle.std.specs.Option.{option_map}
use Rattle.indexmap.specs.IndexMap.{set_value_at}
use Rattle.puffin_look.specs.Top.{Piece, pieces_at}
use Rattle.puffin_look.specs.inner.Tallies.{Row, Held, Counted, row_of, rows_in, row_with, with_row, with_piece, with_piece_in, no_tally, tally_of, name_at, keys_kept, place_kept}
use Rattle.puffin_look.specs.declared.tallies.Tally.{Tally}
use Rattle.puffin_look.proofs.StackRows.{Key, same_key, has_path, from_bytes_eq, to_bytes_eq, turned}

-- ---- a name that is there

-- looking a name up finds whether there is a row of it
looked_up : (name : List ℕ) (es : List Held) → is_some (lookup (has_path name) es) ≡ list_any (bytes_eq name) (keys_of (rows_in es))
looked_up name [] = refl
looked_up name ((key, tally) ∷ es) =
    elim (bytes_eq name key.items) as (λ b. is_some (cond b (Some tally) (lookup (has_path name) es))
    ≡ (b || list_any (bytes_eq name) (keys_of (rows_in es)))) [
      | true ↦ refl
      | false ↦ looked_up name es
    ]

-- a name at a place is among the names
there : (name : List ℕ) (names : List (List ℕ)) (i : ℕ) → slice_get names i ≡ Some name → list_any (bytes_eq name) names ≡ true
there name [] i at = absurd (none-some name at)
there name (first ∷ names) zero at =
    ap (λ (b : Bool). b || list_any (bytes_eq name) names) (to_bytes_eq name first (sym (same_Some first name at)))
there name (first ∷ names) (suc i) at =
    elim (bytes_eq name first) as (λ b. (b || list_any (bytes_eq name) names) ≡ true) [ true ↦ refl | false ↦ there name names i at ]

-- no row is appended for a name at a place
pub row_there : (rows : List Row) (name : List ℕ) (i : ℕ) → slice_get (keys_of rows) i ≡ Some name → with_row rows name ≡ rows
row_there rows name i at =
    cond-true (list_any (bytes_eq name) (keys_of rows)) rows (rows ++ (name, no_tally) ∷ []) (there name (keys_of rows) i at)

-- the names of the rows are the keys of the map
keys_seen : (es : List Held) → keys_of (rows_in es) ≡ map (λ (k : Key). k.items) (keys_of es)
keys_seen [] = refl
keys_seen ((key, tally) ∷ es) = ap (λ (ks : List (List ℕ)). key.items ∷ ks) (keys_seen es)

-- a name is at the place that it is found at
pub place_found : (es : List Held) (name : List ℕ) (i : ℕ) → position (has_path name) (keys_of es) ≡ Some i
    → slice_get (keys_of (rows_in es)) i ≡ Some name
place_found [] name i found = absurd (none-some i found)
place_found (e ∷ es) name i found =
    let (within, has, first) = position-Some (has_path name) (keys_of (e ∷ es)) i e.0 found in
    ap (λ (ks : List (List ℕ)). slice_get ks i) (keys_seen (e ∷ es)) ∙ slice_get-map (λ (k : Key). k.items) (keys_of (e ∷ es)) i
    ∙ ap (option_map (λ (k : Key). k.items)) (slice_get-get_or (keys_of (e ∷ es)) i e.0 within)
    ∙ ap Some (sym (from_bytes_eq name _ has))

-- a place that has a name has a tally
pub no_place : (es : List Held) (i : ℕ) (name : List ℕ) → slice_get (values_of es) i ≡ None
    → slice_get (keys_of (rows_in es)) i ≡ Some name → ⊥
no_place [] i name none at = none-some name at
no_place ((key, tally) ∷ es) zero name none at = none-some tally (sym none)
no_place (e ∷ es) (suc i) name none at = no_place es i name none at

-- ---- a name that is new

-- the entry of a new name is appended, with an empty tally
pub row_added : (es : List Held) (name : List ℕ) (key : Key) (tally : Tally) → is_some (lookup (has_path name) es) ≡ false
    → key.items ≡ name → tally_of tally ≡ no_tally → rows_in (es ++ (key, tally) ∷ []) ≡ with_row (rows_in es) name
row_added es name key tally new same none =
    map-append row_of es ((key, tally) ∷ [])
    ∙ (λ i. rows_in es ++ (same i, none i) ∷ [])
    ∙ sym (cond-false (list_any (bytes_eq name) (keys_of (rows_in es))) (rows_in es)
    (rows_in es ++ (name, no_tally) ∷ []) (sym (looked_up name es) ∙ new))

-- its place is the last one
pub place_added : (es : List Held) (key : Key) (tally : Tally) (name : List ℕ) → key.items ≡ name
    → slice_get (keys_of (rows_in (es ++ (key, tally) ∷ []))) (length es) ≡ Some name
place_added [] key tally name same = ap Some same
place_added (e ∷ es) key tally name same = place_added es key tally name same

-- ---- a name that grows

-- the row of another name stays
row_kept : (piece : Piece) (row : Row) → bytes_eq piece.name row.0 ≡ false → row_with piece row ≡ row
row_kept piece row other = ap (λ (b : Bool). if b then (row.0, with_piece row.1 piece) else row) other

-- a key that no other equals isn't the name at a place of the others
apart : (key name : List ℕ) (es : List Held) (i : ℕ) → AllByRecursion (λ (y : Key). bytes_eq key y.items ≡ false) (keys_of es)
    → slice_get (keys_of (rows_in es)) i ≡ Some name → bytes_eq key name ≡ false
apart key name [] i others at = absurd (none-some name at)
apart key name ((first, tally) ∷ es) zero (first_differs, others) at =
    ap (bytes_eq key) (sym (same_Some first.items name at)) ∙ first_differs
apart key name (e ∷ es) (suc i) (first_differs, others) at = apart key name es i others at

-- the rows behind the one of a name stay, since no other key equals it
others_kept : (piece : Piece) (key : List ℕ) (es : List Held) → key ≡ piece.name
    → AllByRecursion (λ (y : Key). bytes_eq key y.items ≡ false) (keys_of es) → map (row_with piece) (rows_in es) ≡ rows_in es
others_kept piece key [] same others = refl
others_kept piece key (e ∷ es) same (first_differs, others) =
    let first : bytes_eq piece.name e.0.items ≡ false = ap (λ (n : List ℕ). bytes_eq n e.0.items) (sym same) ∙ first_differs in
    λ i. row_kept piece (row_of e) first i ∷ others_kept piece key es same others i

-- setting the tally at the place of a piece's name adds the piece
pub row_grown : (piece : Piece) (es : List Held) (i : ℕ) (tally new : Tally) → tally_of new ≡ with_piece (tally_of tally) piece
    → slice_get (keys_of (rows_in es)) i ≡ Some piece.name → slice_get (values_of es) i ≡ Some tally → IsDistinct same_key (keys_of es)
    → rows_in (set_value_at es i new) ≡ map (row_with piece) (rows_in es)
row_grown piece [] i tally new more at value distinct = refl
row_grown piece (e ∷ es) zero tally new more at value distinct =
    let same = same_Some e.0.items piece.name at in
    let here : bytes_eq piece.name e.0.items ≡ true = to_bytes_eq piece.name e.0.items (sym same) in
    let first : row_with piece (row_of e) ≡ (e.0.items, tally_of new) =
    ap (λ (b : Bool). if b then (e.0.items, with_piece (tally_of e.1) piece) else row_of e) here
    ∙ ap (λ (t : Counted). (e.0.items, t)) (ap (λ (t : Tally). with_piece (tally_of t) piece) (same_Some e.1 tally value) ∙ sym more) in
    λ i. sym first i ∷ sym (others_kept piece e.0.items es same (IsDistinct-head same_key e.0 (keys_of es) distinct)) i
row_grown piece (e ∷ es) (suc i) tally new more at value distinct =
    let other = apart e.0.items piece.name es i (IsDistinct-head same_key e.0 (keys_of es) distinct) at in
    let first = turned e.0.items piece.name _ refl other in
    λ j. sym (row_kept piece (row_of e) first) j
    ∷ row_grown piece es i tally new more at value (IsDistinct-tail same_key e.0 (keys_of es) distinct) j

-- ---- a scope

-- A scope changes `rows` in three steps: its name is there (`named`), the call is counted under it (`called`), and the name around it
-- has more nested time (`new`). `place` is the place of its name.
module _ (rows named called new : List Row) (name : List ℕ) (time place : ℕ) where
  abbrev pub Call : Piece
  Call = record { name = name; is_call = true; time = time }

  abbrev pub Within : List ℕ → Piece
  Within outer = record { name = outer; is_call = false; time = time }

  -- a name stands at a place
  abbrev pub Stands : ℕ → Type 0
  Stands i = (outer : List ℕ) × (slice_get (keys_of rows) i ≡ Some outer)

  -- the third step, at the place of the name around
  abbrev pub Nests : ℕ → Type 0
  Nests i = (outer : List ℕ) → slice_get (keys_of called) i ≡ Some outer → new ≡ map (row_with (Within outer)) called

  module _ (first : named ≡ with_row rows name) (second : called ≡ map (row_with Call) named)
      (at : slice_get (keys_of named) place ≡ Some name) where
    abbrev one : called ≡ with_piece_in rows Call
    one = second ∙ ap (map (row_with Call)) first

    -- a name keeps its place in the first two steps
    still : (i : ℕ) (outer : List ℕ) → slice_get (keys_of rows) i ≡ Some outer → slice_get (keys_of called) i ≡ Some outer
    still i outer has = ap (λ (r : List Row). slice_get (keys_of r) i) one ∙ place_kept rows Call (Some i) outer has

    pub call_at : slice_get (keys_of called) place ≡ Some name
    call_at =
        ap (λ (r : List Row). slice_get (keys_of r) place) second
        ∙ ap (λ (ks : List (List ℕ)). slice_get ks place) (keys_kept Call named) ∙ at

    nested_at : (i : ℕ) → Stands i → Nests i → new ≡ fold with_piece_in rows (pieces_at (name_at rows (Some i)) name time)
    nested_at i (outer, has) nests =
        nests outer (still i outer has)
        ∙ ap (map (row_with (Within outer))) (sym (row_there called outer i (still i outer has)))
        ∙ ap (λ (r : List Row). with_piece_in r (Within outer)) one
        ∙ sym (ap (λ (o : Option (List ℕ)). fold with_piece_in rows (pieces_at o name time)) has)

    -- the scope counts for its own name, and in the name around it
    pub scope_added : (outer : Option ℕ) (i : ℕ) → outer ≡ Some i → IfSome outer Stands → Nests i
        → new ≡ fold with_piece_in rows (pieces_at (name_at rows outer) name time)
    scope_added None i is stands nests = absurd (none-some i is)
    scope_added (Some j) i is stands nests = nested_at j stands (subst Nests (sym (same_Some j i is)) nests)

    place_at : (i : ℕ) → Stands i → Nests i → slice_get (keys_of new) place ≡ Some name
    place_at i (outer, has) nests =
        ap (λ (r : List Row). slice_get (keys_of r) place) (nests outer (still i outer has))
        ∙ ap (λ (ks : List (List ℕ)). slice_get ks place) (keys_kept (Within outer) called) ∙ call_at

    -- the scope's name keeps its place in the third step
    pub place_still : (outer : Option ℕ) (i : ℕ) → outer ≡ Some i → IfSome outer Stands → Nests i
        → slice_get (keys_of new) place ≡ Some name
    place_still None i is stands nests = absurd (none-some i is)
    place_still (Some j) i is stands nests = place_at j stands (subst Nests (sym (same_Some j i is)) nests)
