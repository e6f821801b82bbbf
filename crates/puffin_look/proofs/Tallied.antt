-- The tallies that all pieces lead to, and the rows that they are.
--
-- `table` has a row for each name of some pieces, with the tally of all its pieces. Adding one piece to it gives the table of one piece
-- more (`one_more`), so the rows that all pieces lead to are their table (`all_tallied`). What a tally counts of the pieces of one name
-- is said by `Grows`.
use Rattle.std.proofs.Common.{◌≡◌, ℕ, ◌+◌, ◌^◌, ◌<◌, Bool, true, false, List, [], ◌∷◌, ◌++◌, map, length, min, max, refl, sym, ap, ◌∙◌, append-nil, append_assoc, arith}
use Rattle.std.specs.Prelude.{fold, filter, sum, if◌then◌else◌}
use Rattle.std.proofs.Math.Bool.{not}
use Rattle.std.specs.Map.{keys_of}
use Rattle.std.specs.List.{list_any}
use Rattle.std.specs.Str.{bytes_eq}
use Rattle.std.proofs.lemmas.List.Sums.{fold-append, sum_by-cons}
use Rattle.std.proofs.lemmas.List.Elements.{filter-append}
use Rattle.puffin_view.specs.View.Stats.{cut}
use Rattle.puffin_look.specs.Buckets.{last_of}
use Rattle.puffin_look.specs.inner.Counts.{bucket_at}
use Rattle.puffin_look.specs.Top.{rank_of, IsPercentile}
use Rattle.puffin_look.specs.Top.{Piece, pieces_of, call_times, nested_times, names_in}
use Rattle.puffin_look.specs.Names.{with_name}
use Rattle.puffin_look.specs.inner.Tallies.{Row, Counted, row_with, with_row, with_piece, with_piece_in, with_call, with_nested, no_tally}
use Rattle.puffin_look.proofs.StackRows.{unmet_by}
use Rattle.puffin_look.proofs.Ranked.{count_time, bucket_ranked}

-- ---- by name

-- what the pieces of a name make of an empty tally
abbrev pub tally_in : List Piece → List ℕ → Counted
tally_in all name = fold with_piece no_tally (pieces_of name all)

-- the row of a name in these pieces
abbrev pub row_in : List Piece → List ℕ → Row
row_in all name = (name, tally_in all name)

abbrev pub table : List Piece → List Row
table all = map (row_in all) (names_in all)

abbrev with_piece_name : List (List ℕ) → Piece → List (List ℕ)
with_piece_name names p = with_name names p.name

-- the pieces of a name, with one piece more, of this name (`b`) or another
pieces_more : (done : List Piece) (p : Piece) (name : List ℕ) (b : Bool) → bytes_eq p.name name ≡ b
    → pieces_of name (done ++ p ∷ []) ≡ pieces_of name done ++ (if b then p ∷ [] else [])
pieces_more done p name b is =
    filter-append (λ (d : Piece). bytes_eq d.name name) done (p ∷ [])
    ∙ ap (λ (t : Bool). pieces_of name done ++ (if t then p ∷ [] else [])) is

-- the row of a name with one piece more
row_more_by : (done : List Piece) (p : Piece) (name : List ℕ) (b : Bool) → bytes_eq p.name name ≡ b
    → row_with p (row_in done name) ≡ row_in (done ++ p ∷ []) name
row_more_by done p name true is =
    let counted = fold-append with_piece no_tally (pieces_of name done) (p ∷ []) in
    let more = pieces_more done p name true is in
    ap (λ (t : Bool). if t then (name, with_piece (tally_in done name) p) else row_in done name) is
    ∙ ap (λ (t : Counted). (name, t)) (sym counted ∙ ap (fold with_piece no_tally) (sym more))
row_more_by done p name false is =
    ap (λ (t : Bool). if t then (name, with_piece (tally_in done name) p) else row_in done name) is
    ∙ ap (λ (ps : List Piece). (name, fold with_piece no_tally ps))
    (sym (append-nil (pieces_of name done)) ∙ sym (pieces_more done p name false is))

-- the rows of all names with one piece more
rows_grown : (done : List Piece) (p : Piece) (names : List (List ℕ))
    → map (row_with p) (map (row_in done) names) ≡ map (row_in (done ++ p ∷ [])) names
rows_grown done p [] = refl
rows_grown done p (n ∷ names) = λ i. row_more_by done p n (bytes_eq p.name n) refl i ∷ rows_grown done p names i

-- the rows' names are these
keys_in : (all : List Piece) (names : List (List ℕ)) → keys_of (map (row_in all) names) ≡ names
keys_in all [] = refl
keys_in all (n ∷ names) = ap (λ (ns : List (List ℕ)). n ∷ ns) (keys_in all names)

-- the row of one name more comes last
map_behind : (all : List Piece) (xs : List (List ℕ)) (y : List ℕ)
    → map (row_in all) (xs ++ y ∷ []) ≡ map (row_in all) xs ++ row_in all y ∷ []
map_behind all [] y = refl
map_behind all (x ∷ xs) y = ap (λ (rows : List Row). row_in all x ∷ rows) (map_behind all xs y)

-- a name that wasn't met has no pieces, and wasn't among the names before
unmet : (name : List ℕ) (names : List (List ℕ)) (pieces : List Piece)
    → list_any (bytes_eq name) (fold with_piece_name names pieces) ≡ false
    → (pieces_of name pieces ≡ []) × (list_any (bytes_eq name) names ≡ false)
unmet name names [] absent = (refl, absent)
unmet name names (piece ∷ pieces) absent =
    let (no_pieces, not_after) = unmet name (with_piece_name names piece) pieces absent in
    let (differs, not_before) = unmet_by name piece.name names _ refl not_after in
    (ap (λ (b : Bool). if b then piece ∷ pieces_of name pieces else pieces_of name pieces) differs ∙ no_pieces, not_before)

-- a name that was met (`b`) stays, another one comes last
named_by : (done : List Piece) (name : List ℕ) (b : Bool) → list_any (bytes_eq name) (names_in done) ≡ b
    → (if b then table done else table done ++ (name, no_tally) ∷ []) ≡ map (row_in done)
    (if b then names_in done else names_in done ++ name ∷ [])
named_by done name true is = refl
named_by done name false is =
    let (none, not_before) = unmet name [] done is in
    ap (λ (t : Counted). table done ++ (name, t) ∷ []) (sym (ap (fold with_piece no_tally) none))
    ∙ sym (map_behind done (names_in done) name)

-- the table, with a row for this name if it had none, has the rows of the names with this one
named : (done : List Piece) (name : List ℕ) → with_row (table done) name ≡ map (row_in done) (with_name (names_in done) name)
named done name =
    ap (λ (ks : List (List ℕ)). if list_any (bytes_eq name) ks then table done else table done ++ (name, no_tally)
    ∷ []) (keys_in done (names_in done)) ∙ named_by done name _ refl

-- one piece more
one_more : (done : List Piece) (p : Piece) → with_piece_in (table done) p ≡ table (done ++ p ∷ [])
one_more done p =
    ap (map (row_with p)) (named done p.name) ∙ rows_grown done p (with_name (names_in done) p.name)
    ∙ ap (map (row_in (done ++ p ∷ []))) (sym (fold-append with_piece_name [] done (p ∷ [])))

-- many pieces more
table_more : (done ps : List Piece) → fold with_piece_in (table done) ps ≡ table (done ++ ps)
table_more done [] = ap table (sym (append-nil done))
table_more done (p ∷ ps) =
    ap (λ (rows : List Row). fold with_piece_in rows ps) (one_more done p) ∙ table_more (done ++ p ∷ []) ps
    ∙ ap table (append_assoc done (p ∷ []) ps)

-- the rows that all pieces lead to
pub all_tallied : (all : List Piece) → fold with_piece_in [] all ≡ table all
all_tallied all = table_more [] all

-- ---- one name

-- `u` is what `t` becomes by these pieces of one name
pub record Grows (t : Counted) (ps : List Piece) (u : Counted) : Type 0 where
  pub calls : t.0.calls < 2 ^ 64 → u.0.calls ≡ cut (t.0.calls + length (call_times ps))
  pub total : t.0.total < 2 ^ 64 → u.0.total ≡ cut (t.0.total + sum (call_times ps))
  pub nested : t.0.nested < 2 ^ 64 → u.0.nested ≡ cut (t.0.nested + sum (nested_times ps))
  pub least : u.0.least ≡ fold min t.0.least (call_times ps)
  pub greatest : u.0.greatest ≡ fold max t.0.greatest (call_times ps)
  pub counts : u.1 ≡ fold count_time t.1 (call_times ps)

module _ (t : Counted) (p : Piece) (ps : List Piece) (u : Counted) where
  -- the times of the calls, and of those within, if the first piece is a call (`b`) or not
  abbrev calls_by : Bool → List ℕ
  calls_by b = map (λ (x : Piece). x.time) (if b then p ∷ filter (λ (x : Piece). x.is_call) ps else filter (λ (x : Piece). x.is_call) ps)

  abbrev nested_by : Bool → List ℕ
  nested_by b =
      map (λ (x : Piece). x.time) (if not b then p ∷ filter (λ (x : Piece). not x.is_call) ps else filter
      (λ (x : Piece). not x.is_call) ps)

  -- the first piece is a call
  called : p.is_call ≡ true → Grows (with_call t p.time) ps u → Grows t (p ∷ ps) u
  called is h =
      let times : call_times (p ∷ ps) ≡ p.time ∷ call_times ps = ap calls_by is in
      let others : nested_times (p ∷ ps) ≡ nested_times ps = ap nested_by is in
      let more : sum (call_times (p ∷ ps)) ≡ p.time + sum (call_times ps) = ap sum times
      ∙ sum_by-cons (λ (x : ℕ). x) p.time (call_times ps) in
      let size : length (call_times (p ∷ ps)) ≡ length (p.time ∷ call_times ps) = ap (length {A = ℕ}) times in
      record {
        calls = λ fits. omega (arith, h.calls (omega arith), size);
        total = λ fits. omega (arith, h.total (omega arith), more);
        nested = λ fits. h.nested fits ∙ ap (λ (ts : List ℕ). cut (t.0.nested + sum ts)) (sym others);
        least = h.least ∙ ap (fold min t.0.least) (sym times);
        greatest = h.greatest ∙ ap (fold max t.0.greatest) (sym times);
        counts = h.counts ∙ ap (fold count_time t.1) (sym times);
      }

  -- it is a scope within
  nested : p.is_call ≡ false → Grows (with_nested t p.time) ps u → Grows t (p ∷ ps) u
  nested is h =
      let times : call_times (p ∷ ps) ≡ call_times ps = ap calls_by is in
      let others : nested_times (p ∷ ps) ≡ p.time ∷ nested_times ps = ap nested_by is in
      let more : sum (nested_times (p ∷ ps)) ≡ p.time + sum (nested_times ps) = ap sum others
      ∙ sum_by-cons (λ (x : ℕ). x) p.time (nested_times ps) in
      record {
        calls = λ fits. h.calls fits ∙ ap (λ (ts : List ℕ). cut (t.0.calls + length ts)) (sym times);
        total = λ fits. h.total fits ∙ ap (λ (ts : List ℕ). cut (t.0.total + sum ts)) (sym times);
        nested = λ fits. omega (arith, h.nested (omega arith), more);
        least = h.least ∙ ap (fold min t.0.least) (sym times);
        greatest = h.greatest ∙ ap (fold max t.0.greatest) (sym times);
        counts = h.counts ∙ ap (fold count_time t.1) (sym times);
      }

-- the first piece is a call (`b`) or not
grows_by : (t : Counted) (p : Piece) (ps : List Piece) (b : Bool) → p.is_call ≡ b
    → ((v : Counted) → Grows v ps (fold with_piece v ps))
    → Grows t (p ∷ ps) (fold with_piece (if b then with_call t p.time else with_nested t p.time) ps)
grows_by t p ps true is rest = called t p ps _ is (rest (with_call t p.time))
grows_by t p ps false is rest = nested t p ps _ is (rest (with_nested t p.time))

-- many pieces
grows : (t : Counted) (ps : List Piece) → Grows t ps (fold with_piece t ps)
grows t [] =
    record {
      calls = λ fits. omega arith;
      total = λ fits. omega arith;
      nested = λ fits. omega arith;
      least = refl;
      greatest = refl;
      counts = refl;
    }
grows t (p ∷ ps) = grows_by t p ps p.is_call refl (λ v. grows v ps)

-- what is counted under a name is what its pieces say
pub tally_grows : (ps : List Piece) → Grows no_tally ps (fold with_piece no_tally ps)
tally_grows ps = grows no_tally ps

-- the value at a rank among the counts of these pieces, at most the greatest duration, is that percentile of their calls
pub percentile_is : (ps : List Piece) (percent value : ℕ)
    → let t = fold with_piece no_tally ps in value ≡ min (last_of (bucket_at t.1 (rank_of percent t.0.calls))) t.0.greatest
    → IsPercentile percent (call_times ps) value
percentile_is ps percent value is = λ fits exact below ranked.
    let tallied = tally_grows ps in
    let times = call_times ps in
    let calls : (fold with_piece no_tally ps).0.calls ≡ length times = omega (arith, tallied.calls (omega arith)) in
    is
    ∙ (λ i. min (last_of (bucket_at (tallied.counts i) (rank_of percent (calls i)))) (tallied.greatest i))
    ∙ ap (λ (b : ℕ). min (last_of b) (fold max 0 times)) (bucket_ranked times (rank_of percent (length times)) exact ranked fits)
