-- The lines of paths, one after the other.
use Rattle.std.proofs.Common.{◌≡◌, ℕ, List, [], ◌∷◌, ◌++◌, ap, sym, ◌∙◌, append_assoc, append-nil}
use Rattle.std.specs.List.{flat_map}
use Rattle.puffin_look.specs.inner.Stacks.{Held, row_of, rows_in, row_text}

-- the line of the next path was appended
pub line_more : (before after : List ℕ) (e : Held) (rest it : List Held) (total : List ℕ) → it ≡ e ∷ rest
    → after ≡ before ++ row_text (row_of e) → before ++ flat_map row_text (rows_in it) ≡ total
    → after ++ flat_map row_text (rows_in rest) ≡ total
line_more before after e rest it total left step so_far =
    let others = flat_map row_text (rows_in rest) in
    ap (λ (x : List ℕ). x ++ others) step ∙ append_assoc before (row_text (row_of e)) others
    ∙ ap (λ (es : List Held). before ++ flat_map row_text (rows_in es)) (sym left) ∙ so_far

-- no path is left
pub lines_done : (text : List ℕ) (all it : List Held) → it ≡ []
    → text ++ flat_map row_text (rows_in it) ≡ flat_map row_text (rows_in all) → text ≡ flat_map row_text (rows_in all)
lines_done text all it none so_far =
    sym (append-nil text) ∙ sym (ap (λ (es : List Held). text ++ flat_map row_text (rows_in es)) none) ∙ so_far
