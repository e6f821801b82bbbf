-- Where a text is cut at the last place of a word. `last_cut` looks from the end of the text; std's `rsplit_once` answers with a place
-- at which the word is found, and with none found after it.
use Rattle.std.proofs.Common.{◌≡◌, ℕ, zero, suc, ◌+◌, ◌<◌, ◌≤◌, true, false, List, [], ◌∷◌, ◌++◌, length, take, drop, refl, ◌∙◌, arith, Option, Some, None, nat_eq, Bor}
use Rattle.std.specs.List.{starts_with}
use Rattle.std.specs.Option.{MatchOption}
use Rattle.std.specs.Str.Pattern.{LacksTextAt, RFindsText, SplitsAroundMatch}
use Rattle.std.proofs.lemmas.Slice.Eq.{starts_is}
use Rattle.std.proofs.lemmas.Bool.Decides.{Decides-eqb}
use Rattle.std.proofs.lemmas.Bool.{false_from_ne_true}
use Rattle.puffin_scopes.specs.Names.Functions.{Cut, last_cut}

-- a text that begins with a word
starts : (word text rest : List ℕ) → text ≡ word ++ rest → starts_with nat_eq text word ≡ true
starts word text rest split = (starts_is Decides-eqb text word (starts_with nat_eq text word) refl).1 rest split

-- a text that doesn't begin with a word
lacks_front : (word text : List ℕ) → LacksTextAt word text 0 → starts_with nat_eq text word ≡ false
lacks_front word text lacks = false_from_ne_true _ (λ begins.
    lacks (drop (length word) text) ((starts_is Decides-eqb text word (starts_with nat_eq text word) refl).0 begins))

-- no cut, if the word is at no place
pub no_cut : (word text : List ℕ) → ((i : ℕ) → i ≤ length text → LacksTextAt word text i) → last_cut word text ≡ None
no_cut word [] lacks = refl
no_cut word (byte ∷ text) lacks =
    let later : last_cut word text ≡ None = no_cut word text (λ i le. lacks (suc i) (omega arith)) in
    let front : starts_with nat_eq (byte ∷ text) word ≡ false = lacks_front word (byte ∷ text) (lacks 0 (omega arith)) in
    rw (later, front) refl

-- nothing isn't a text that has a byte
not_empty : (byte : ℕ) (word rest : List ℕ) (i : ℕ) → drop i [] ≡ (byte ∷ word) ++ rest → ⊥
not_empty byte word rest zero split = cc split
not_empty byte word rest (suc i) split = cc split

-- a text that is cut round a word of this size, at this place
abbrev pub cut_round : (place size : ℕ) → (text : List ℕ) → Cut
cut_round place size text = record { before = take place text; after = drop (place + size) text }

-- the cut at a place of a word, if the word is at no later place; the word has a first byte
pub cut_at : (first : ℕ) (word text rest : List ℕ) (i : ℕ) → drop i text ≡ (first ∷ word) ++ rest
    → ((j : ℕ) → i < j → j ≤ length text → LacksTextAt (first ∷ word) text j)
    → last_cut (first ∷ word) text ≡ Some (cut_round i (length (first ∷ word)) text)
cut_at first word [] rest i split lacks = absurd (not_empty first word rest i split)
cut_at first word (byte ∷ text) rest zero split lacks =
    let none : last_cut (first ∷ word) text ≡ None =
    no_cut (first ∷ word) text (λ j le. lacks (suc j) (omega arith) (omega arith)) in
    let here : starts_with nat_eq (byte ∷ text) (first ∷ word) ≡ true = starts (first ∷ word) (byte ∷ text) rest split in
    let size : 0 + length (first ∷ word) ≡ length (first ∷ word) = omega arith in
    rw (none, here, size) refl
cut_at first word (byte ∷ text) rest (suc i) split lacks =
    let later : last_cut (first ∷ word) text ≡ Some (cut_round i (length (first ∷ word)) text) =
    cut_at first word text rest i split (λ j lt le. lacks (suc j) (omega arith) (omega arith)) in
    let shifted : suc i + length (first ∷ word) ≡ suc (i + length (first ∷ word)) = omega arith in
    rw (later, shifted) refl

-- what `rsplit_once` at a word answers
abbrev pub IsLastSplit : (word text : List ℕ) → Option (Bor (List ℕ) × Bor (List ℕ)) → Type 0
IsLastSplit word text answer = MatchOption answer (RFindsText word text None)
    (λ halves. SplitsAroundMatch (RFindsText word) text halves.0.now halves.1.now)

-- what `rsplit_once` answers is the last cut
pub last_cut-by_split : (first : ℕ) (word text : List ℕ) (answer : Option (Bor (List ℕ) × Bor (List ℕ)))
    → IsLastSplit (first ∷ word) text answer
    → MatchOption answer (last_cut (first ∷ word) text ≡ None)
    (λ halves. last_cut (first ∷ word) text ≡ Some (record { before = halves.0.now; after = halves.1.now }))
last_cut-by_split first word text None lacks = no_cut (first ∷ word) text lacks
last_cut-by_split first word text (Some halves) (i, j, found, front, back, _, _, _) =
    let cut : last_cut (first ∷ word) text ≡ Some (cut_round i (length (first ∷ word)) text) =
    cut_at first word text (drop j text) i found.1.split found.0 in
    cut ∙ rw (front, back, found.1.ends) refl

-- the same, if it answered with two halves
pub cut_is : (first : ℕ) (word text : List ℕ) (answer : Option (Bor (List ℕ) × Bor (List ℕ))) (before after : Bor (List ℕ))
    → IsLastSplit (first ∷ word) text answer → answer ≡ Some (before, after)
    → last_cut (first ∷ word) text ≡ Some (record { before = before.now; after = after.now })
cut_is first word text answer before after splits is = rw is at (last_cut-by_split first word text answer splits)

-- the same, if it answered with none
pub cut_none : (first : ℕ) (word text : List ℕ) (answer : Option (Bor (List ℕ) × Bor (List ℕ)))
    → IsLastSplit (first ∷ word) text answer → answer ≡ None → last_cut (first ∷ word) text ≡ None
cut_none first word text answer splits is = rw is at (last_cut-by_split first word text answer splits)
