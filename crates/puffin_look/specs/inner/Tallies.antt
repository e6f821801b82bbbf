-- What the tallies of names take from a stream, scope by scope.
use Rattle.std.specs.Prelude.{◌≡◌, ℕ, ◌+◌, ◌-◌, ◌^◌, min, max, Bool, true, false, List, [], ◌∷◌, ◌++◌, map, fold, slice_get, if◌then◌else◌, Option, Some, None}
use Rattle.std.specs.Option.{option_and_then}
use Rattle.std.specs.List.{flat_map, list_any}
use Rattle.std.specs.Map.{keys_of}
use Rattle.std.specs.Str.{bytes_eq}
use Rattle.std.specs.declared.vec.Vec.{Vec}
use Rattle.std.specs.declared.alloc.Global.{Global}
use Rattle.std.proofs.Common.{refl, sym, ap, subst, ◌∙◌}
use Rattle.std.proofs.lemmas.List.Sums.{fold-append}
use Rattle.std.proofs.lemmas.List.Concat.{flat_map-append}
use Rattle.puffin_data.specs.Forest.{Span}
use Rattle.puffin_data.specs.Walk.PlacedScopes.{ScopeInContext}
use Rattle.puffin_view.specs.View.Stats.{cut}
use Rattle.puffin_look.specs.Buckets.{bucket_of}
use Rattle.puffin_look.specs.Top.{Piece, scope_pieces, name_around}
use Rattle.puffin_look.specs.inner.Counts.{with_time}
use Rattle.puffin_look.specs.inner.Keys.{keys_of-append, place_stays}
use Rattle.puffin_look.specs.declared.histogram.Count.{Count}
use Rattle.puffin_look.specs.declared.tallies.Times.{Times}
use Rattle.puffin_look.specs.declared.tallies.Tally.{Tally}
use Rattle.puffin_look.specs.declared.tallies.Tallies.{Tallies}

-- ---- what is counted under a name

abbrev pub no_times : Times
no_times = record { calls = 0; total = 0; nested = 0; least = 2 ^ 64 - 1; greatest = 0 }

abbrev pub times_with_call : Times → ℕ → Times
times_with_call times time = record {
  calls = cut (times.calls + 1);
  total = cut (times.total + time);
  nested = times.nested;
  least = min times.least time;
  greatest = max times.greatest time;
}

abbrev pub times_with_nested : Times → ℕ → Times
times_with_nested times time = record times { nested = cut (times.nested + time) }

-- the times of a name, and its durations by bucket
abbrev pub Counted : Type 0
Counted = Times × List Count

abbrev pub no_tally : Counted
no_tally = (no_times, [])

abbrev pub tally_of : Tally → Counted
tally_of tally = (tally.times, tally.histogram.counts.items)

abbrev pub with_call : Counted → ℕ → Counted
with_call counted time = (times_with_call counted.0 time, with_time counted.1 (bucket_of time))

abbrev pub with_nested : Counted → ℕ → Counted
with_nested counted time = (times_with_nested counted.0 time, counted.1)

abbrev pub with_piece : Counted → Piece → Counted
with_piece counted piece =
    if piece.is_call then with_call counted piece.time else with_nested counted piece.time

-- ---- the names

abbrev pub Row : Type 0
Row = List ℕ × Counted

abbrev pub row_with : Piece → Row → Row
row_with piece row = if bytes_eq piece.name row.0 then (row.0, with_piece row.1 piece) else row

-- a name that is new comes last
abbrev pub with_row : List Row → List ℕ → List Row
with_row rows name =
    if list_any (bytes_eq name) (keys_of rows) then rows else rows ++ (name, no_tally) ∷ []

-- the rows, with one piece more
abbrev pub with_piece_in : List Row → Piece → List Row
with_piece_in rows piece = map (row_with piece) (with_row rows piece.name)

-- ---- as the code holds them

abbrev pub Held : Type 0
Held = Vec ℕ Global × Tally

abbrev pub row_of : Held → Row
row_of entry = (entry.0.items, tally_of entry.1)

abbrev pub rows_in : List Held → List Row
rows_in entries = map row_of entries

abbrev pub rows_of : Tallies → List Row
rows_of tallies = rows_in tallies.rows.entries

-- the name at a place
abbrev pub name_at : List Row → Option ℕ → Option (List ℕ)
name_at rows place = option_and_then (λ i. slice_get (keys_of rows) i) place

-- ---- a stream

-- these pieces were added, and the rest stayed
pub record HasMorePieces (old new : Tallies) (more : List Piece) : Type 0 where
  pub rows : rows_of new ≡ fold with_piece_in (rows_of old) more
  pub known : new.known ≡ old.known
  pub texts : new.texts ≡ old.texts

abbrev pub all_pieces : Tallies → List ScopeInContext → List Piece
all_pieces tallies scopes = flat_map (scope_pieces tallies.known.now tallies.texts) scopes

abbrev pub TakesScopes : Tallies → List ScopeInContext → Tallies → Type 0
TakesScopes old scopes new = HasMorePieces old new (all_pieces old scopes)

-- what is kept is the place of the name of the innermost of these scopes, or nothing outside of all scopes
abbrev pub StandsFor : Tallies → Option ℕ → List Span → Type 0
StandsFor tallies None around = name_around tallies.known.now tallies.texts around ≡ None
StandsFor tallies (Some place) around =
    (name : List ℕ) × (name_around tallies.known.now tallies.texts around ≡ Some name)
    × (slice_get (keys_of (rows_of tallies)) place ≡ Some name)

-- ---- laws

pub keys_kept : (p : Piece) (rows : List Row) → keys_of (map (row_with p) rows) ≡ keys_of rows
keys_kept p [] = refl
keys_kept p (row ∷ rows) =
    elim (bytes_eq p.name row.0) as (λ b.
    (if b then (row.0, with_piece row.1 p) else row).0
    ∷ keys_of (map (row_with p) rows) ≡ row.0 ∷ keys_of rows) [
      | true ↦ ap (λ (ks : List (List ℕ)). row.0 ∷ ks) (keys_kept p rows)
      | false ↦ ap (λ (ks : List (List ℕ)). row.0 ∷ ks) (keys_kept p rows)
    ]

named_by : (rows : List Row) (name : List ℕ) (i : ℕ) (there : List ℕ) (b : Bool) →
    slice_get (keys_of rows) i ≡ Some there →
    slice_get (keys_of (if b then rows else rows ++ (name, no_tally) ∷ [])) i ≡ Some there
named_by rows name i there true h = h
named_by rows name i there false h =
    ap (λ (ks : List (List ℕ)). slice_get ks i) (keys_of-append rows ((name, no_tally) ∷ []))
    ∙ place_stays (keys_of rows) (name ∷ []) i there h

-- a name keeps its place where another is added
pub named_still : (rows : List Row) (name : List ℕ) (i : ℕ) (there : List ℕ) →
    slice_get (keys_of rows) i ≡ Some there →
    slice_get (keys_of (with_row rows name)) i ≡ Some there
named_still rows name i there h =
    named_by rows name i there (list_any (bytes_eq name) (keys_of rows)) h

-- a name keeps its place
pub place_kept : (rows : List Row) (p : Piece) (w : Option ℕ) (name : List ℕ) →
    name_at rows w ≡ Some name → name_at (with_piece_in rows p) w ≡ Some name
place_kept rows p None name h = h
place_kept rows p (Some i) name h =
    ap (λ (ks : List (List ℕ)). slice_get ks i) (keys_kept p (with_row rows p.name))
    ∙ named_still rows p.name i name h

pub places_kept : (rows : List Row) (more : List Piece) (w : Option ℕ) (name : List ℕ) →
    name_at rows w ≡ Some name → name_at (fold with_piece_in rows more) w ≡ Some name
places_kept rows [] w name h = h
places_kept rows (p ∷ more) w name h =
    places_kept (with_piece_in rows p) more w name (place_kept rows p w name h)

pub scopes_none : (v : Tallies) → TakesScopes v [] v
scopes_none v = record { rows = refl; known = refl; texts = refl }

pub pieces_more : (u v w : Tallies) (xs ys : List Piece) → HasMorePieces u v xs →
    HasMorePieces v w ys → HasMorePieces u w (xs ++ ys)
pieces_more u v w xs ys a b = record {
  rows = b.rows ∙ ap (λ (rows : List Row). fold with_piece_in rows ys) a.rows
      ∙ sym (fold-append with_piece_in (rows_of u) xs ys);
  known = b.known ∙ a.known;
  texts = b.texts ∙ a.texts;
}

pub scopes_more : (u v w : Tallies) (xs ys : List ScopeInContext) → TakesScopes u xs v →
    TakesScopes v ys w → TakesScopes u (xs ++ ys) w
scopes_more u v w xs ys a b =
    subst (HasMorePieces u w) (sym (flat_map-append (scope_pieces u.known.now u.texts) xs ys))
    (pieces_more u v w (all_pieces u xs) (all_pieces u ys) a (subst (HasMorePieces v w)
    (λ i. flat_map (scope_pieces (a.known i).now (a.texts i)) ys) b))

pub still_stands : (u v : Tallies) (xs : List ScopeInContext) (w : Option ℕ) (around : List Span) →
    TakesScopes u xs v → StandsFor u w around → StandsFor v w around
still_stands u v xs None around t s = (λ i. name_around (t.known i).now (t.texts i) around) ∙ s
still_stands u v xs (Some i) around t s = (
  s.0,
  (λ j. name_around (t.known j).now (t.texts j) around) ∙ s.1,
  ap (λ (rows : List Row). slice_get (keys_of rows) i) t.rows
      ∙ places_kept (rows_of u) (all_pieces u xs) (Some i) s.0 s.2,
)
