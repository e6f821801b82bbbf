-- The words of a line.
use Rattle.std.proofs.Common.{◌≡◌, ℕ, ◌+◌, ◌<◌, List, [], ◌∷◌, length, Bool, true, false, refl, ap, arith, cond, not}
use Rattle.std.specs.List.{slice_split, onto_first, position_or_len, before_first, after_first}
use Rattle.std.proofs.lemmas.List.Splits.{slice_split_first}
use Rattle.puffin_replay.specs.Script.Statements.{is_blank, words_in}

-- ---- words

-- where no byte is a blank, a line is one word
pub one_word : {X : Type 0} (p : X → Bool) (xs : List X) → position_or_len p xs ≡ length xs → slice_split p xs ≡ xs ∷ []
one_word p [] h = refl
one_word p (x ∷ xs) h =
    elim (p x) as
    (λ b. cond (not b) (1 + position_or_len p xs) 0 ≡ length (x ∷ xs)
    → cond b ([] ∷ slice_split p xs) (onto_first x (slice_split p xs)) ≡ (x ∷ xs) ∷ []) [
      | true ↦ λ e. absurd (omega arith)
      | false ↦ λ e. ap (onto_first x) (one_word p xs (omega arith))
    ] h

-- the first word ends at the first blank
pub first_word : (line word behind : List ℕ) → word ≡ before_first is_blank line → behind ≡ after_first is_blank line
    → position_or_len is_blank line < length line → words_in line ≡ word ∷ words_in behind
first_word line word behind w b h = let e = slice_split_first is_blank line 0 h in cc

-- a line has a word, which may be empty
pub some_word : (line : List ℕ) → (word : List ℕ) × (words : List (List ℕ)) × (words_in line ≡ word ∷ words)
some_word [] = ([], [], refl)
some_word (b ∷ bs) =
    elim (is_blank b) as
    (λ is. (word : List ℕ) × (words : List (List ℕ))
    × (cond is ([] ∷ words_in bs) (onto_first b (words_in bs)) ≡ word ∷ words)) [
      | true ↦ ([], words_in bs, refl)
      | false ↦
          elim (words_in bs) as (λ ws. (word : List ℕ) × (words : List (List ℕ)) × (onto_first b ws ≡ word ∷ words))
          [ [] ↦ (b ∷ [], [], refl) | w ∷ ws ↦ (b ∷ w, ws, refl) ]
    ]
