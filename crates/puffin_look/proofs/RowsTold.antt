-- The rows of names are what the pieces of each name say.
use Rattle.std.proofs.Common.{◌≡◌, ℕ, ◌-◌, List, [], ◌∷◌, map, subst, ◌∙◌, arith}
use Rattle.std.specs.Prelude.{fold, sum}
use Rattle.puffin_view.specs.View.Stats.{cut}
use Rattle.puffin_look.specs.Top.{Piece, pieces_of, call_times, nested_times, names_in, IsRow, AreRowsOf}
use Rattle.puffin_look.specs.inner.Tallies.{Row, with_piece, with_piece_in, no_tally}
use Rattle.puffin_look.specs.inner.Tops.{HasTally, HaveTallies}
use Rattle.puffin_look.specs.declared.top.TopRow.{TopRow}
use Rattle.puffin_look.proofs.Tallied.{row_in, all_tallied, tally_grows, percentile_is}

-- the row of one name
row_told : (name : List ℕ) (ps : List Piece) (row : TopRow) → HasTally (name, fold with_piece no_tally ps) row
    → (row.name.items ≡ name) × IsRow ps row
row_told name ps row h =
    let g = tally_grows ps in
    let total : (fold with_piece no_tally ps).0.total ≡ cut (sum (call_times ps)) = omega (arith, g.total (omega arith)) in
    let nested : (fold with_piece no_tally ps).0.nested ≡ cut (sum (nested_times ps)) = omega (arith, g.nested (omega arith)) in (
      h.name,
      record {
        calls = omega (arith, h.calls, g.calls (omega arith));
        total = h.total ∙ total;
        own = h.own ∙ (λ i. total i - nested i);
        least = h.least ∙ g.least;
        median = percentile_is ps 50 row.median h.median;
        p95 = percentile_is ps 95 row.p95 h.p95;
        p99 = percentile_is ps 99 row.p99 h.p99;
        greatest = h.greatest ∙ g.greatest;
      },
    )

-- the rows of these names
rows_in_order : (all : List Piece) (names : List (List ℕ)) (rows : List TopRow) → HaveTallies (map (row_in all) names) rows
    → AreRowsOf all names rows
rows_in_order all [] [] held = tt
rows_in_order all [] (row ∷ rows) held = absurd held
rows_in_order all (name ∷ names) [] held = absurd held
rows_in_order all (name ∷ names) (row ∷ rows) (first, others) =
    (row_told name (pieces_of name all) row first, rows_in_order all names rows others)

-- the rows of all pieces
pub rows_told : (all : List Piece) (rows : List TopRow) → HaveTallies (fold with_piece_in [] all) rows → AreRowsOf all (names_in all) rows
rows_told all rows h = rows_in_order all (names_in all) rows (subst (λ (named : List Row). HaveTallies named rows) (all_tallied all) h)
