-- A text whose backslashes, byte 92, were replaced by slashes, byte 47. std's `replace` cuts the text at each backslash that it finds.
use Rattle.std.proofs.Common.{lit<, ◌==◌, ◌≡◌, ◌≢◌, ℕ, zero, suc, ◌<◌, inl, inr, List, [], ◌∷◌, ◌++◌, length, take, drop, get_or, refl, sym, ◌∙◌, ap, subst, arith, Some, None}
use Rattle.std.proofs.lemmas.List.{map-append, take-append-drop}
use Rattle.std.proofs.lemmas.Str.Pattern.{NoCharPasses-char, drop_at_char}
use Rattle.std.proofs.lemmas.Grind.{common_steps}
use Rattle.std.specs.Str.{NoCharPasses}
use Rattle.std.specs.Str.Pattern.{FindsChar, HasCharAt}
use Rattle.std.specs.Str.Replace.{ReplacesMatches}
use Rattle.puffin_scopes.specs.Names.Files.{with_slashes}

-- without a backslash at any place nothing changes
pub same : (text : List ℕ) → ((i : ℕ) → i < length text → get_or text i 0 ≢ 92) → with_slashes text ≡ text
same [] none = refl
same (byte ∷ text) none =
    let first : byte ≢ 92 = none 0 (omega arith) in
    let rest : with_slashes text ≡ text = same text (λ i less. none (suc i) (omega arith)) in
    grind (arith, common_steps, rest)

-- the same, by std's word for it
clear : (text : List ℕ) → NoCharPasses (λ char. char == 92) text → with_slashes text ≡ text
clear text none = same text (λ i less. NoCharPasses-char 92 text i none (lit< tt) less)

-- the first backslash, from one place to another, is replaced, and then all in the rest
one_step : (text out rest : List ℕ) (from to : ℕ) → NoCharPasses (λ char. char == 92) (take from text) → HasCharAt 92 text from to
    → rest ≡ with_slashes (drop to text) → out ≡ take from text ++ (47 ∷ rest) → out ≡ with_slashes text
one_step text out rest from to front at slashed put =
    let cut : drop from text ≡ 92 ∷ drop to text = drop_at_char 92 text from to at (lit< tt) in
    let whole : with_slashes text ≡ with_slashes (take from text) ++ with_slashes (drop from text) =
    ap with_slashes (sym (take-append-drop from text)) ∙ map-append _ (take from text) (drop from text) in
    let tail : with_slashes (drop from text) ≡ 47 ∷ with_slashes (drop to text) = ap with_slashes cut in
    put ∙ sym (whole ∙ rw (clear (take from text) front, tail, slashed) refl)

-- a match isn't empty
longer : (text : List ℕ) (from to : ℕ) → HasCharAt 92 text from to → from ≡ to → ⊥
longer text from to at same = let ends = at.ends in omega arith

-- what `replace` answers after n matches; `char` is the backslash
pub slashed_by_replace : (n char : ℕ) (text out : List ℕ) → char ≡ 92
    → ReplacesMatches FindsChar (λ from to. to ≡ from) (47 ∷ []) n char text out → out ≡ with_slashes text
slashed_by_replace zero char text out is (none_found, kept) =
    let none : NoCharPasses (λ char. char == 92) text = subst (λ (char : ℕ). FindsChar char text None) is none_found in
    kept ∙ sym (clear text none)
slashed_by_replace (suc n) char text out is (from, to, next, rest, found, keeps, goes, put) =
    let at : NoCharPasses (λ char. char == 92) (take from text) × HasCharAt 92 text from to =
    subst (λ (char : ℕ). FindsChar char text (Some (from, to))) is found in
    elim goes [
      | inl more ↦ one_step text out rest from to at.0 at.1 (slashed_by_replace n next (drop to text) rest (keeps ∙ is) more.1) put
      | inr none ↦ absurd (longer text from to at.1 none.0)
    ]
