-- Frames of a list: found by their indices, and what holds of each.
use Rattle.std.proofs.Common.{◌≡◌, ℕ, zero, suc, Bool, true, false, cond, ◌||◌, List, [], ◌∷◌, ◌++◌, take, drop, map, Option, Some, refl, sym, ap, subst, ◌∙◌, arith}
use Rattle.std.specs.Prelude.{nat_eq, ◌≢◌}
use Rattle.std.specs.List.{AllByRecursion, filter_map}
use Rattle.std.specs.List.Sorted.{IsStrictlySortedBy}
use Rattle.std.specs.declared.cmp.Ordering.{Ordering}
use Rattle.std.specs.declared.cmp.Ordering.TheVariants.{Less}
use Rattle.std.specs.Ordering.{nat_cmp, eq_by_cmp}
use Rattle.puffin_view.specs.View.Ranking.{place, last_from, last_in, has_number}
use Rattle.puffin_view.specs.View.ViewedFrames.{Frame, index_of, is_slower_frame}
use Rattle.puffin_view.specs.inner.Kept.{AreRising, HaveOwnIndices}
use Rattle.puffin_view.specs.inner.Store.{AreHeld, has_index}

-- a test does not both pass and fail
pub true≢false : true ≡ false → ⊥
true≢false e = cc

-- if not either, then neither
pub neither : (a b : Bool) → (a || b) ≡ false → (a ≡ false) × (b ≡ false)
neither true b h = absurd (true≢false h)
neither false b h = (refl, h)

-- members by index

-- an index is in a list of two parts if it is in one of them
pub has-append : (q : ℕ) (xs ys : List ℕ) → has_number q (xs ++ ys) ≡ (has_number q xs || has_number q ys)
has-append q [] ys = refl
has-append q (x ∷ xs) ys = at (nat_eq q x) (has-append q xs ys) where
  at : (b : Bool) → has_number q (xs ++ ys) ≡ (has_number q xs || has_number q ys)
      → (b || has_number q (xs ++ ys)) ≡ ((b || has_number q xs) || has_number q ys)
  at true e = refl
  at false e = e

-- an index is among frames in two parts if it is in one of them
pub has_index-append : (q : ℕ) (fs gs : List Frame) → has_index q (fs ++ gs) ≡ (has_index q fs || has_index q gs)
has_index-append q [] gs = refl
has_index-append q (f ∷ fs) gs = at (nat_eq q (index_of f)) (has_index-append q fs gs) where
  at : (b : Bool) → has_index q (fs ++ gs) ≡ (has_index q fs || has_index q gs)
      → (b || has_index q (fs ++ gs)) ≡ ((b || has_index q fs) || has_index q gs)
  at true e = refl
  at false e = e

-- a search of frames by index is one of their indices
pub has-index_of : (q : ℕ) (fs : List Frame) → has_number q (map index_of fs) ≡ has_index q fs
has-index_of q [] = refl
has-index_of q (f ∷ fs) = ap (λ b. nat_eq q (index_of f) || b) (has-index_of q fs)

-- what holds for each frame whose index is there holds for all
pub has_all : (P : Frame → Type 0) (fs : List Frame) → ((g : Frame) → has_index (index_of g) fs ≡ true → P g)
    → AllByRecursion P fs
has_all P [] h = tt
has_all P (f ∷ fs) h = (
  h f (ap (λ b. b || has_index (index_of f) fs) (same (index_of f) (index_of f) refl)),
  has_all P fs (λ g e. h g (later (nat_eq (index_of g) (index_of f)) (has_index (index_of g) fs) e)),
) where
  same : (a b : ℕ) → a ≡ b → nat_eq a b ≡ true
  same a b e = grind arith

  later : (a b : Bool) → b ≡ true → (a || b) ≡ true
  later true b e = refl
  later false b e = e

-- numbers for which `nat_eq` holds are the same
pub equal_to : (a b : ℕ) → nat_eq a b ≡ true → a ≡ b
equal_to a b e = grind arith

-- `nat_eq` holds for the same number
pub equals : (a b : ℕ) → a ≡ b → nat_eq a b ≡ true
equals a b e = grind arith

-- `nat_eq` fails for another number
pub apart_to : (a b : ℕ) → a ≢ b → nat_eq a b ≡ false
apart_to a b h = grind arith

-- the test by the order of numbers is the test of equality
pub is_at : (q i : ℕ) → eq_by_cmp nat_cmp q i ≡ nat_eq q i
is_at q i = grind arith

-- all of a list

-- what follows for one frame follows for all
pub all_map : (P Q : Frame → Type 0) → ((f : Frame) → P f → Q f) → (fs : List Frame) → AllByRecursion P fs
    → AllByRecursion Q fs
all_map P Q k [] h = tt
all_map P Q k (f ∷ fs) (first, others) = (k f first, all_map P Q k fs others)

-- what follows for one frame from two facts follows for all
pub all_both : (P Q R : Frame → Type 0) → ((f : Frame) → P f → Q f → R f) → (fs : List Frame) → AllByRecursion P fs
    → AllByRecursion Q fs → AllByRecursion R fs
all_both P Q R k [] h m = tt
all_both P Q R k (f ∷ fs) (first, others) (other_first, other_others) =
    (k f first other_first, all_both P Q R k fs others other_others)

-- what holds for all holds for the first part
pub all_first : {A : Type 0} (P : A → Type 0) (xs ys : List A) → AllByRecursion P (xs ++ ys) → AllByRecursion P xs
all_first P [] ys h = tt
all_first P (x ∷ xs) ys (first, others) = (first, all_first P xs ys others)

-- what holds for all holds for the second part
pub all_rest : {A : Type 0} (P : A → Type 0) (xs ys : List A) → AllByRecursion P (xs ++ ys) → AllByRecursion P ys
all_rest P [] ys h = h
all_rest P (x ∷ xs) ys (first, others) = all_rest P xs ys others

-- what holds for all holds for the first ones
pub all_take : (P : Frame → Type 0) (k : ℕ) (xs : List Frame) → AllByRecursion P xs → AllByRecursion P (take k xs)
all_take P zero xs h = tt
all_take P (suc k) [] h = tt
all_take P (suc k) (x ∷ xs) (first, others) = (first, all_take P k xs others)

-- what holds for all holds for those behind the first ones
pub all_drop : (P : Frame → Type 0) (k : ℕ) (xs : List Frame) → AllByRecursion P xs → AllByRecursion P (drop k xs)
all_drop P zero xs h = h
all_drop P (suc k) [] h = tt
all_drop P (suc k) (x ∷ xs) (first, others) = all_drop P k xs others

-- what holds for all and for one more holds with that one behind them
pub all_more : (P : Frame → Type 0) (xs : List Frame) (f : Frame) → AllByRecursion P xs → P f
    → AllByRecursion P (xs ++ f ∷ [])
all_more P [] f h p = (p, tt)
all_more P (x ∷ xs) f (first, others) p = (first, all_more P xs f others p)

-- what holds for all and for one more holds with that one in its place among the slow ones
pub all_place : (P : Frame → Type 0) (f : Frame) (fs : List Frame) → P f → AllByRecursion P fs
    → AllByRecursion P (place is_slower_frame f fs)
all_place P f [] p h = (p, tt)
all_place P f (x ∷ xs) p (first, others) = at (is_slower_frame f x) (all_place P f xs p others) where
  at : (b : Bool) → AllByRecursion P (place is_slower_frame f xs)
      → AllByRecursion P (cond b (f ∷ (x ∷ xs)) (x ∷ place is_slower_frame f xs))
  at true later = (p, (first, others))
  at false later = (first, later)

-- the first part of frames with their own indices
pub apart_first : (xs ys : List Frame) → HaveOwnIndices (xs ++ ys) → HaveOwnIndices xs
apart_first [] ys h = tt
apart_first (x ∷ xs) ys (first, others) =
    (all_first (λ g. index_of g ≢ index_of x) xs ys first, apart_first xs ys others)

-- the rest of frames with rising indices
pub rising_rest : (xs ys : List Frame) → AreRising (xs ++ ys) → AreRising ys
rising_rest [] ys h = h
rising_rest (x ∷ xs) ys (first, others) = rising_rest xs ys others

-- the first part of a sorted list
pub sorted_first : {K : Type 0} (cmp : K → K → Ordering) (xs ys : List K) → IsStrictlySortedBy cmp (xs ++ ys)
    → IsStrictlySortedBy cmp xs
unfolding IsStrictlySortedBy
sorted_first cmp [] ys h = tt
sorted_first cmp (x ∷ xs) ys (first, others) =
    (all_first (λ y. cmp x y ≡ Less) xs ys first, sorted_first cmp xs ys others)

-- none of a list's frames has an index
pub none_has : (q : ℕ) (fs : List Frame) → AllByRecursion (λ g. index_of g ≢ q) fs → has_index q fs ≡ false
none_has q [] h = refl
none_has q (f ∷ fs) (apart, others) = rw (apart_to q (index_of f) (λ e. apart (sym e))) (none_has q fs others)

-- what is held under the frames' own indices is the frames

-- frames that are held are found again by their indices
pub held_back : (h : ℕ → Option Frame) (fs : List Frame) → AreHeld h fs → filter_map h (map index_of fs) ≡ fs
held_back h [] held = refl
held_back h (f ∷ fs) (is_held, are_held) = rw is_held (ap (λ gs. f ∷ gs) (held_back h fs are_held))

-- the last of a list

-- `Some` of one value
pub one_some : {A : Type 0} (a b : A) → Some a ≡ Some b → a ≡ b
one_some a b e = cc

-- the last of a mapped list
pub map-last_from : {A B : Type 0} (g : A → B) (x : A) (xs : List A) → g (last_from x xs) ≡ last_from (g x) (map g xs)
map-last_from g x [] = refl
map-last_from g x (y ∷ ys) = map-last_from g y ys

-- the last of a mapped list comes from the last of the list
pub last_map : {A B : Type 0} (g : A → B) (xs : List A) (b : B) → last_in (map g xs) ≡ Some b
    → (a : A) × (last_in xs ≡ Some a) × (g a ≡ b)
last_map g [] b e = cc
last_map g (x ∷ xs) b e = (last_from x xs, refl, map-last_from g x xs ∙ one_some (last_from (g x) (map g xs)) b e)

-- what holds for all holds for the last
pub all_last_from : {A : Type 0} (P : A → Type 0) (x : A) (xs : List A) → AllByRecursion P (x ∷ xs) → P (last_from x xs)
all_last_from P x [] (only, none) = only
all_last_from P x (y ∷ ys) (first, others) = all_last_from P y ys others

pub all_last : {A : Type 0} (P : A → Type 0) (xs : List A) (a : A) → AllByRecursion P xs → last_in xs ≡ Some a → P a
all_last P [] a h e = cc
all_last P (x ∷ xs) a h e = subst P (one_some (last_from x xs) a e) (all_last_from P x xs h)
