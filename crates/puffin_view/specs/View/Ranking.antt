-- The first elements of a list by an order, and its last ones by position.
use Rattle.std.specs.Prelude.{ℕ, ◌-◌, ◌≡◌, Bool, false, cond, List, [], ◌∷◌, length, take, drop, Option, Some, None, IsPermutation, nat_eq}
use Rattle.std.specs.List.{AllPairs, list_any}
use Rattle.puffin_view.specs.declared.profile_view.slow_rank.SlowRank.{SlowRank}

-- an ordered list with one more item, inserted in front of the first one that it comes before
abbrev pub place : {F : Type 0} → (F → F → Bool) → F → List F → List F
place before item [] = item ∷ []
place before item (x ∷ xs) =
    cond (before item x) (item ∷ (x ∷ xs)) (x ∷ place before item xs)

-- the same for an item that was in front of all others: it is inserted after those that come before it
abbrev pub place_first : {F : Type 0} → (F → F → Bool) → F → List F → List F
place_first before item [] = item ∷ []
place_first before item (x ∷ xs) =
    cond (before x item) (x ∷ place_first before item xs) (item ∷ (x ∷ xs))

-- a list, sorted; items of which neither comes before the other keep their order
abbrev pub in_order : {F : Type 0} → (F → F → Bool) → List F → List F
in_order before [] = []
in_order before (x ∷ xs) = place_first before x (in_order before xs)

-- the first items in an order, up to this number; of equal ones, the earlier
abbrev pub first_in_order : {F : Type 0} → (F → F → Bool) → ℕ → List F → List F
first_in_order before number xs = take number (in_order before xs)

-- `out` is the first items, up to this number, of a sorted permutation of `xs`, in which no item comes before one in front of it
pub record AreFirst {F : Type 0} (before : F → F → Bool) (number : ℕ) (xs out : List F) :
    Type 0 where
  pub ordered : List F
  pub all : IsPermutation xs ordered
  pub in_order : AllPairs (λ x y. before y x ≡ false) ordered
  pub first : out ≡ take number ordered

-- the last items of a list, up to this number
abbrev pub last_of : {F : Type 0} → ℕ → List F → List F
last_of number xs = drop (length xs - number) xs

-- the last of a list, or this item if the list is empty
abbrev pub last_from : {F : Type 0} → F → List F → F
last_from x [] = x
last_from x (y ∷ ys) = last_from y ys

-- the last of a list, if there is one
abbrev pub last_in : {F : Type 0} → List F → Option F
last_in [] = None
last_in (x ∷ xs) = Some (last_from x xs)

-- whether an index is in a list
abbrev pub has_number : ℕ → List ℕ → Bool
has_number index indices = list_any (nat_eq index) indices

-- the index of a rank's frame
abbrev pub rank_index : SlowRank → ℕ
rank_index rank = rank.frame_index
