-- A history and the lists of what its authors added grow together.
use Rattle.std.proofs.Common.{◌≡◌, ◌≢◌, ℕ, zero, suc, ◌+◌, ◌<◌, ◌==◌, Bool, true, false, List, [], ◌∷◌, ◌++◌, length, map, set, ⊎_elim, refl, ap, sym, ◌∙◌, arith, length-append, length-set}
use Rattle.std.proofs.lemmas.List.{append-nil}
use mathlib.Core.Option.{some, some-injective, some-ne-none}
use mathlib.Core.Logic.{◌⊎◌, inl, inr}
use lib.ListN.{get_elem?}
use Rattle.atomic_table.proofs.Lists.{at_set}
use Rattle.history.specs.Entries.{front_if, entries_by, HasAuthors}
use Rattle.history.specs.Owned.{IsSplit}
use Rattle.history.proofs.lemmas.Counting.{same_number, other_number}

-- a place at which something stands is below the length
pub in_reach : {A : Type 0} (list : List A) (i : ℕ) (element : A) → get_elem? list i ≡ some element → i < length list
in_reach [] i element at = absurd (some-ne-none element (sym at))
in_reach (first ∷ rest) zero element at = omega arith
in_reach (first ∷ rest) (suc i) element at = let less = in_reach rest i element at in omega arith

-- what stands in a list with one element more stood there before, or is that element
at_end : {A : Type 0} (list : List A) (last found : A) (i : ℕ) → get_elem? (list ++ last ∷ []) i ≡ some found
    → (get_elem? list i ≡ some found) ⊎ ((i ≡ length list) × (last ≡ found))
at_end [] last found zero at = inr (refl, some-injective last found at)
at_end [] last found (suc i) at = absurd (some-ne-none found (sym at))
at_end (first ∷ rest) last found zero at = inl at
at_end (first ∷ rest) last found (suc i) at =
    ⊎_elim (λ before. inl before) (λ is_last. inr (ap suc is_last.0, is_last.1)) (at_end rest last found i at)

module _ {E : Type 0} where
  -- these entries, under one number
  abbrev pub under : ℕ → List E → List (ℕ × E)
  under number entries = map (λ (entry : E). (number, entry)) entries

  -- an entry before more entries
  front_append : (answer : Bool) (entry : E) (first later : List E)
      → front_if answer entry (first ++ later) ≡ front_if answer entry first ++ later
  front_append true entry first later = refl
  front_append false entry first later = refl

  -- an author's entries of two logs, one after the other
  pub entries_by-append : (number : ℕ) (first later : List (ℕ × E))
      → entries_by number (first ++ later) ≡ entries_by number first ++ entries_by number later
  entries_by-append number [] later = refl
  entries_by-append number (one ∷ first) later =
      ap (front_if (one.0 == number) one.1) (entries_by-append number first later)
      ∙ front_append (one.0 == number) one.1 (entries_by number first) (entries_by number later)

  -- all entries under a number are that author's
  pub entries_by-under : (number : ℕ) (entries : List E) → entries_by number (under number entries) ≡ entries
  entries_by-under number [] = refl
  entries_by-under number (entry ∷ entries) =
      ap (λ (answer : Bool). front_if answer entry (entries_by number (under number entries))) (same_number number)
      ∙ ap (λ (rest : List E). entry ∷ rest) (entries_by-under number entries)

  -- no entry is under another number
  pub entries_by-other : (other number : ℕ) (entries : List E) → other ≢ number → entries_by other (under number entries) ≡ []
  entries_by-other other number [] apart = refl
  entries_by-other other number (entry ∷ entries) apart =
      ap (λ (answer : Bool). front_if answer entry (entries_by other (under number entries)))
      (other_number number other (λ same. apart (sym same)))
      ∙ entries_by-other other number entries apart

  -- no entry is under a number that no author has yet
  pub entries_by-none : (count : ℕ) (log : List (ℕ × E)) → HasAuthors count log → entries_by count log ≡ []
  entries_by-none count [] has = refl
  entries_by-none count (first ∷ rest) has =
      ap (λ (answer : Bool). front_if answer first.1 (entries_by count rest))
      (other_number first.0 count (let less = has.0 in λ same. omega arith))
      ∙ entries_by-none count rest has.1

  -- two logs of the first authors, one after the other, are a log of them
  pub has_authors_append : (count : ℕ) (first later : List (ℕ × E)) → HasAuthors count first → HasAuthors count later
      → HasAuthors count (first ++ later)
  has_authors_append count [] later has has_later = has_later
  has_authors_append count (one ∷ first) later has has_later = (has.0, has_authors_append count first later has.1 has_later)

  -- entries under a number are of the first authors, if the number is below their count
  pub has_authors_under : (count number : ℕ) (entries : List E) → number < count → HasAuthors count (under number entries)
  has_authors_under count number [] less = tt
  has_authors_under count number (entry ∷ entries) less = (less, has_authors_under count number entries less)

  -- entries of the first authors are of the first and one more
  pub has_authors_more : (count : ℕ) (log : List (ℕ × E)) → HasAuthors count log → HasAuthors (count + 1) log
  has_authors_more count [] has = tt
  has_authors_more count (first ∷ rest) has = (let less = has.0 in omega arith, has_authors_more count rest has.1)

  -- An author adds entries: to its own list, and under its number to the log. A list is that author's, which grew by them, or another's,
  -- which has none of them.
  pub split_grows : (count number : ℕ) (lists : List (List E)) (log : List (ℕ × E)) (own entries : List E) → IsSplit count lists log
      → get_elem? lists number ≡ some own → IsSplit count (set lists number (own ++ entries)) (log ++ under number entries)
  split_grows count number lists log own entries is at = record {
    count = length-set lists number (own ++ entries) ∙ is.count;
    below = has_authors_append count log (under number entries) is.below
        (has_authors_under count number entries (let less = in_reach lists number own at in let long = is.count in omega arith));
    split = λ other list here. ⊎_elim
        (λ its_own. sym its_own.1 ∙ (grown ∙ ap (λ (k : ℕ). entries_by k (log ++ under number entries)) (sym its_own.0)))
        (λ anothers. is.split other list anothers.1 ∙ unchanged other anothers.0)
        (at_set lists number other (own ++ entries) list here);
  }
    where
      -- its author's list, which grew
      grown : own ++ entries ≡ entries_by number (log ++ under number entries)
      grown = ap (λ (front : List E). front ++ entries) (is.split number own at)
          ∙ (ap (λ (added : List E). entries_by number log ++ added) (sym (entries_by-under number entries))
          ∙ sym (entries_by-append number log (under number entries)))

      -- any other author's list
      unchanged : (other : ℕ) → other ≢ number → entries_by other log ≡ entries_by other (log ++ under number entries)
      unchanged other apart = sym (append-nil (entries_by other log))
          ∙ (ap (λ (added : List E). entries_by other log ++ added) (sym (entries_by-other other number entries apart))
          ∙ sym (entries_by-append other log (under number entries)))

  -- one author more, with an empty list, under the next number
  pub one_more : (count : ℕ) (lists : List (List E)) (log : List (ℕ × E)) → IsSplit count lists log
      → IsSplit (count + 1) (lists ++ [] ∷ []) log
  one_more count lists log is = record {
    count = omega (arith, length-append lists ([] ∷ []), is.count);
    below = has_authors_more count log is.below;
    split = λ number list here. ⊎_elim (λ before. is.split number list before)
        (λ new. sym new.1 ∙ (sym (entries_by-none count log is.below) ∙ ap (λ (k : ℕ). entries_by k log) (sym is.count ∙ sym new.0)))
        (at_end lists [] list number here);
  }

  -- at first there are no authors and no entries
  pub none_yet : IsSplit {E = E} 0 [] []
  none_yet = record { count = refl; below = tt; split = λ number list here. absurd (some-ne-none list (sym here)) }
