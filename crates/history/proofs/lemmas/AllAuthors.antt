-- What all authors together know of their history.
use Rattle.std.proofs.Common.{◌≡◌, ◌≢◌, ℕ, ◌+◌, ◌<◌, ◌==◌, Bool, true, false, cond, List, [], ◌∷◌, ◌++◌, map, refl, ap, sym, ◌∙◌, arith}
use Rattle.std.specs.List.{All, count_by, flat_map, AllByRecursion}
use Rattle.std.proofs.lemmas.List.{append-nil, map-append}
use Rattle.std.proofs.lemmas.List.Elements.{recursion_from_All}
use Rattle.std.proofs.lemmas.List.Sums.{sum_by-cons, sum_by-append}
use Rattle.history.specs.Entries.{events, front_if, entries_by, HasAuthors, AreAllAuthors}
use Rattle.history.proofs.lemmas.Counting.{one_if, same_number, equal_number, unequal_number, times, times-cons}
use Rattle.history.proofs.Splits as splits

module _ {E : Type 0} where
  abbrev number : ℕ × List E → ℕ
  number author = author.0

  -- an author's entries of two logs, one after the other
  pub entries_by-append : (k : ℕ) (first later : List (ℕ × E)) → entries_by k (first ++ later) ≡ entries_by k first ++ entries_by k later
  entries_by-append = splits.entries_by-append

  -- all entries of two logs, one after the other
  pub events-append : (first later : List (ℕ × E)) → events (first ++ later) ≡ events first ++ events later
  events-append first later = map-append (λ numbered. numbered.1) first later

  -- a prefix of a log of the first authors is a log of them
  pub has_authors-prefix : (count : ℕ) (first later : List (ℕ × E)) → HasAuthors count (first ++ later) → HasAuthors count first
  has_authors-prefix count [] later has = tt
  has_authors-prefix count (one ∷ first) later has = (has.0, has_authors-prefix count first later has.1)

  -- an author with this number is among them, and has what all of them have
  some_author : (k : ℕ) (P : ℕ × List E → Type 0) (authors : List (ℕ × List E)) → 0 < times number k authors
      → AllByRecursion P authors → (author : ℕ × List E) × (author.0 ≡ k) × P author
  some_author k P [] some all = absurd (omega (arith, some))
  some_author k P (author ∷ rest) some all = at (author.0 == k) refl (λ more. some_author k P rest more all.1)
    where
      at : (answer : Bool) → (author.0 == k) ≡ answer
          → (0 < times number k rest → (found : ℕ × List E) × (found.0 ≡ k) × P found)
          → (found : ℕ × List E) × (found.0 ≡ k) × P found
      at true is later = (author, equal_number author.0 k is, all.0)
      at false is later = later (omega (arith, some, times-cons number k author rest, ap one_if is))

  -- ---- what one of them alone added

  -- `f` gives the things of one kind that an entry holds
  module _ {B : Type 0} (f : E → List B) where
    -- lists without an element, one after the other, are both empty
    none_left : (first later : List B) → first ++ later ≡ [] → (first ≡ []) × (later ≡ [])
    none_left [] later none = (refl, none)
    none_left (one ∷ first) later none = absurd cc

    -- nothing of the kind in some entries, so none in those after the first
    front_none : (answer : Bool) (entry : E) (entries : List E) → flat_map f (front_if answer entry entries) ≡ []
        → flat_map f entries ≡ []
    front_none true entry entries none = (none_left (f entry) (flat_map f entries) none).1
    front_none false entry entries none = none

    -- and none in the first
    own_none : (k : ℕ) (entry : E) (entries : List E) → flat_map f (front_if (k == k) entry entries) ≡ [] → f entry ≡ []
    own_none k entry entries none =
        let first : flat_map f (entry ∷ entries) ≡ [] =
        ap (λ (answer : Bool). flat_map f (front_if answer entry entries)) (sym (same_number k)) ∙ none in
        (none_left (f entry) (flat_map f entries) first).0

    -- no author but the one with number t added any of the kind
    abbrev OnlyBy : (count t : ℕ) → List (ℕ × E) → Type 0
    OnlyBy count t log = (j : ℕ) → j < count → j ≢ t → flat_map f (entries_by j log) ≡ []

    -- One entry more, of the author or of another. Another's holds nothing of the kind.
    by_one_step : (count t : ℕ) (first : ℕ × E) (rest : List (ℕ × E)) → first.0 < count → OnlyBy count t (first ∷ rest)
        → flat_map f (events rest) ≡ flat_map f (entries_by t rest)
        → (answer : Bool) → (first.0 == t) ≡ answer
        → flat_map f (events (first ∷ rest)) ≡ flat_map f (front_if answer first.1 (entries_by t rest))
    by_one_step count t first rest less only same true is = ap (λ things. f first.1 ++ things) same
    by_one_step count t first rest less only same false is =
        let none = own_none first.0 first.1 (entries_by first.0 rest) (only first.0 less (unequal_number first.0 t is)) in
        ap (λ things. things ++ flat_map f (events rest)) none ∙ same

    -- all of the kind is the only author's
    by_one : (count t : ℕ) (log : List (ℕ × E)) → HasAuthors count log → OnlyBy count t log
        → flat_map f (events log) ≡ flat_map f (entries_by t log)
    by_one count t [] has only = refl
    by_one count t (first ∷ rest) has only =
        let only_later : OnlyBy count t rest =
        (λ j less apart. front_none (first.0 == j) first.1 (entries_by j rest) (only j less apart)) in
        by_one_step count t first rest has.0 only (by_one count t rest has.1 only_later) (first.0 == t) refl

    -- two facts of each author
    both : (t : ℕ) (log : List (ℕ × E)) (authors : List (ℕ × List E))
        → AllByRecursion (λ author. author.1 ≡ entries_by author.0 log) authors
        → AllByRecursion (λ author. author.0 ≢ t → flat_map f author.1 ≡ []) authors
        → AllByRecursion (λ author. (author.1 ≡ entries_by author.0 log) × (author.0 ≢ t → flat_map f author.1 ≡ [])) authors
    both t log [] own others = tt
    both t log (author ∷ rest) own others = ((own.0, others.0), both t log rest own.1 others.1)

    -- where no other author added any of a kind, all of it is this author's, in its order
    pub only_one : (count t : ℕ) (authors : List (ℕ × List E)) (log : List (ℕ × E)) → AreAllAuthors count authors log
        → All (λ author. author.0 ≢ t → flat_map f author.1 ≡ []) authors
        → flat_map f (events log) ≡ flat_map f (entries_by t log)
    only_one count t authors log all others = by_one count t log all.has (λ j less apart.
        let Its : ℕ × List E → Type 0 = λ author. (author.1 ≡ entries_by author.0 log) × (author.0 ≢ t → flat_map f author.1 ≡ []) in
        let each = both t log authors (recursion_from_All _ authors all.own) (recursion_from_All _ authors others) in
        let (_author, number_is, (own_is, adds_none)) = some_author j Its authors (omega (arith, all.once j less)) each in
        ap (λ (k : ℕ). flat_map f (entries_by k log)) (sym number_is) ∙ ap (flat_map f) (sym own_is)
        ∙ adds_none (λ same. apart (sym number_is ∙ same)))

  -- ---- authors that leave one after the other, each with a last entry

  module _ (mark : E) (last : E → Bool) (is_last : last mark ≡ true) where
    -- their last entries
    abbrev pub marks : List (ℕ × List E) → List (ℕ × E)
    marks authors = map (λ author. (author.0, mark)) authors

    -- under a number stand as many last entries as authors that leave have this number
    marked : (k : ℕ) (authors : List (ℕ × List E)) → count_by last (entries_by k (marks authors)) ≡ times number k authors
    marked k [] = refl
    marked k (author ∷ rest) = at (author.0 == k) refl (marked k rest) ∙ sym (times-cons number k author rest)
      where
        at : (answer : Bool) → (author.0 == k) ≡ answer
            → count_by last (entries_by k (marks rest)) ≡ times number k rest
            → count_by last (front_if answer mark (entries_by k (marks rest))) ≡ cond (author.0 == k) 1 0 + times number k rest
        at true is later =
            sum_by-cons (λ entry. cond (last entry) 1 0) mark (entries_by k (marks rest))
            ∙ omega (arith, ap one_if is_last, ap one_if is, later)
        at false is later = omega (arith, later, ap one_if is)

    -- an author that isn't among those that leave has none of the last entries
    not_marked : (k : ℕ) (authors : List (ℕ × List E)) → times number k authors ≡ 0 → entries_by k (marks authors) ≡ []
    not_marked k [] none = refl
    not_marked k (author ∷ rest) none = at (author.0 == k) refl (not_marked k rest)
      where
        at : (answer : Bool) → (author.0 == k) ≡ answer → (times number k rest ≡ 0 → entries_by k (marks rest) ≡ [])
            → entries_by k (marks (author ∷ rest)) ≡ []
        at true is later = absurd (omega (arith, none, times-cons number k author rest, ap one_if is))
        at false is later =
            ap (λ (answer : Bool). front_if answer mark (entries_by k (marks rest))) is
            ∙ later (omega (arith, none, times-cons number k author rest, ap one_if is))

    -- an author without a last entry isn't among those that left, and its entries are those of the log before
    pub not_left : (k : ℕ) (log : List (ℕ × E)) (own : List E) (authors : List (ℕ × List E))
        → own ≡ entries_by k (log ++ marks authors) → count_by last own ≡ 0
        → (times number k authors ≡ 0) × (own ≡ entries_by k log)
    not_left k log own authors is stays =
        let before = entries_by k log in
        let left = entries_by k (marks authors) in
        let parts : own ≡ before ++ left = is ∙ entries_by-append k log (marks authors) in
        let sums : count_by last own ≡ count_by last before + count_by last left =
        ap (count_by last) parts ∙ sum_by-append (λ entry. cond (last entry) 1 0) before left in
        let none : times number k authors ≡ 0 = omega (arith, sums, stays, marked k authors) in
        (none, parts ∙ ap (λ entries. before ++ entries) (not_marked k authors none) ∙ append-nil before)
