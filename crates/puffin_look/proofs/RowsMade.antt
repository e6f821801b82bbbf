-- Rows that were made of names, one after the other.
use Rattle.std.proofs.Common.{◌≡◌, List, [], ◌∷◌, ◌++◌, sym, ap, subst, ◌∙◌, append_assoc}
use Rattle.puffin_look.specs.inner.Tallies.{Held, row_of, rows_in}
use Rattle.puffin_look.specs.inner.Tops.{HasTally, HaveTallies}
use Rattle.puffin_look.specs.declared.top.TopRow.{TopRow}

-- these rows are of the first of all names, and those are left
pub record AreMade (rows : List TopRow) (left all : List Held) : Type 0 where
  pub done : List Held
  pub all_are : all ≡ done ++ left
  pub rows_are : HaveTallies (rows_in done) rows

-- one row more
one_made : (done : List Held) (rows : List TopRow) (e : Held) (row : TopRow) → HaveTallies (rows_in done) rows
    → HasTally (row_of e) row → HaveTallies (rows_in (done ++ e ∷ [])) (rows ++ row ∷ [])
one_made [] [] e row made one = (one, tt)
one_made [] (r ∷ rows) e row made one = absurd made
one_made (d ∷ done) [] e row made one = absurd made
one_made (d ∷ done) (r ∷ rows) e row (first, others) one = (first, one_made done rows e row others one)

-- the row of the next name
pub made_more : (rows new : List TopRow) (left rest all : List Held) (e : Held) (row : TopRow) → left ≡ e ∷ rest
    → AreMade rows left all → HasTally (row_of e) row → new ≡ rows ++ row ∷ [] → AreMade new rest all
made_more rows new left rest all e row next h one is = record {
  done = h.done ++ e ∷ [];
  all_are = h.all_are ∙ ap (λ (es : List Held). h.done ++ es) next ∙ sym (append_assoc h.done (e ∷ []) rest);
  rows_are = subst (HaveTallies (rows_in (h.done ++ e ∷ []))) (sym is) (one_made h.done rows e row h.rows_are one);
}
