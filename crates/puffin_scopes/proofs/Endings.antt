-- Endings of a text, taken off. std's `trim_end_matches` takes closure endings off one by one, and leaves a text without one;
-- `without_closures` has as many steps as the text has bytes, which are enough, since each ending has bytes.
use Rattle.std.proofs.Common.{◌≡◌, ◌≢◌, ℕ, zero, suc, ◌-◌, ◌≤◌, true, false, List, [], ◌∷◌, ◌++◌, length, take, refl, sym, ◌∙◌, ap, arith, Option, Some, None, nat_eq}
use Rattle.std.specs.List.{ends_with}
use Rattle.std.specs.Option.{IfSome}
use Rattle.std.specs.Str.Pattern.{FindsTextSuffix, CutsSuffixes, IsTrimEndMatches}
use Rattle.std.proofs.lemmas.Slice.Eq.{ends_is}
use Rattle.std.proofs.lemmas.List.{length-take-le, length-append}
use Rattle.std.proofs.lemmas.Bool.Decides.{Decides-eqb}
use Rattle.std.proofs.lemmas.Bool.{false_from_ne_true}
use Rattle.puffin_scopes.specs.Names.Functions.{closure_ending, without_last, without_closures_by, without_closures}

-- a text that ends with a word
pub ends : (word text front : List ℕ) → text ≡ front ++ word → ends_with nat_eq text word ≡ true
ends word text front split = (ends_is Decides-eqb text word (ends_with nat_eq text word) refl).1 front split

-- a text that doesn't end with a word
pub lacks_end : (word text : List ℕ) → ((front : List ℕ) → text ≢ front ++ word) → ends_with nat_eq text word ≡ false
lacks_end word text lacks = false_from_ne_true _ (λ has.
    lacks (take (length text - length word) text) ((ends_is Decides-eqb text word (ends_with nat_eq text word) refl).0 has))

-- nothing is taken off what has no such ending
stays : (n : ℕ) (text : List ℕ) → ends_with nat_eq text closure_ending ≡ false → without_closures_by n text ≡ text
stays zero text lacks = refl
stays (suc n) text lacks = rw lacks refl

-- one step takes an ending off
step : (n : ℕ) (text : List ℕ) → ends_with nat_eq text closure_ending ≡ true
    → without_closures_by (suc n) text ≡ without_closures_by n (without_last 13 text)
step n text has = rw has refl

-- n steps from one text come to the same as some number of steps from another, which are enough for it
abbrev ComesTo : (n : ℕ) → (text rest : List ℕ) → Type 0
ComesTo n text rest = (m : ℕ) × (length rest ≤ m) × (without_closures_by n text ≡ without_closures_by m rest)

-- the ending that was found last is taken off too
cut_more : (text : List ℕ) (n : ℕ) (between rest : List ℕ) (size : ℕ) → FindsTextSuffix closure_ending between (Some size)
    → rest ≡ without_last size between → ComesTo n text between → ComesTo n text rest
cut_more text n between rest size found off (zero, fits, same) =
    let thirteen : size ≡ 13 = found.0 in
    let long : 13 ≤ length between = omega (arith, ap length found.1, length-append {A = ℕ}) in
    absurd (omega arith)
cut_more text n between rest size found off (suc m, fits, same) =
    let thirteen : size ≡ 13 = found.0 in
    let short : rest ≡ without_last 13 between = off ∙ ap (λ k. without_last k between) thirteen in
    let long : 13 ≤ length between = omega (arith, ap length found.1, length-append {A = ℕ}) in
    let left : length rest ≡ length between - 13 = ap length short ∙ length-take-le (length between - 13) between (omega arith) in
    let on : without_closures_by (suc m) between ≡ without_closures_by m (without_last 13 between) =
    step m between (ends closure_ending between _ found.1) in
    (m, omega arith, same ∙ (on ∙ ap (without_closures_by m) (sym short)))

-- a text that is fully trimmed has no such ending
bare : (text : List ℕ) (last : Option ℕ) → FindsTextSuffix closure_ending text last → IfSome last (λ size. size ≡ 0)
    → ends_with nat_eq text closure_ending ≡ false
bare text None lacks none = lacks_end closure_ending text lacks
bare text (Some size) found none =
    let thirteen : size ≡ 13 = found.0 in
    let nothing : size ≡ 0 = none in
    absurd (omega arith)

-- all endings that were found are taken off; `sizes` are theirs
pub cut_off : (sizes text rest : List ℕ) (n : ℕ) → length text ≤ n → CutsSuffixes (FindsTextSuffix closure_ending) text sizes rest
    → ComesTo n text rest
cut_off [] text rest n enough same = (n, rw same enough, rw same refl)
cut_off (size ∷ sizes) text rest n enough (between, before, found, off) =
    cut_more text n between rest size found off (cut_off sizes text between n enough before)

-- what `trim_end_matches` leaves
pub trimmed : (text rest : List ℕ) → IsTrimEndMatches (FindsTextSuffix closure_ending) text rest → rest ≡ without_closures text
trimmed text rest ((sizes, cuts), (last, found, none)) =
    let far = cut_off sizes text rest (length text) (omega arith) cuts in
    sym (far.2 ∙ stays far.0 rest (bare rest last found none))
