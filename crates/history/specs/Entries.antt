-- The entries of a history, those of each author, and when authors are all that it has.
use Rattle.std.specs.Prelude.{◌≡◌, ℕ, ◌==◌, ◌<◌, List, [], ◌∷◌, Bool, true, false, ⊤, All, count_by, map}

-- A history is the list of its entries, each with the number of its author.
module _ {E : Type 0} where
  -- a history's entries in order, without their authors
  abbrev pub events : List (ℕ × E) → List E
  events log = map (λ numbered. numbered.1) log

  -- the entries, after this one if the answer is yes
  abbrev pub front_if : Bool → E → List E → List E
  front_if true entry entries = entry ∷ entries
  front_if false entry entries = entries

  -- the entries of the author with this number, in order
  abbrev pub entries_by : ℕ → List (ℕ × E) → List E
  entries_by number [] = []
  entries_by number (first ∷ rest) = front_if (first.0 == number) first.1 (entries_by number rest)

  -- each entry is of one of the first `count` authors
  abbrev pub HasAuthors : (count : ℕ) → List (ℕ × E) → Type 0
  HasAuthors count [] = ⊤
  HasAuthors count (first ∷ rest) = (first.0 < count) × HasAuthors count rest

  -- These are the authors of a history, each once, with its number and its entries: all `count` that may have added to it.
  pub record AreAllAuthors (count : ℕ) (authors : List (ℕ × List E)) (log : List (ℕ × E)) : Type 0 where
    pub own : All (λ author. author.1 ≡ entries_by author.0 log) authors
    pub once : (number : ℕ) → number < count → count_by (λ author. author.0 == number) authors ≡ 1
    pub has : HasAuthors count log
