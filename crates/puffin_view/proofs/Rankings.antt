-- Lists in order, and one more.
use Rattle.std.proofs.Common.{◌≡◌, ℕ, zero, suc, ◌+◌, ◌-◌, ◌<◌, ◌≤◌, get_or, Bool, true, false, cond, List, [], ◌∷◌, ◌++◌, length, take, drop, refl, sym, ap, ◌∙◌, arith, length-append, length-drop}
use Rattle.std.specs.Option.{IfSome}
use Rattle.std.specs.Prelude.{IsPermutation}
use Rattle.std.proofs.lemmas.List.Sorted.{IsPermutation-refl, IsPermutation-trans, IsPermutation-cons, IsPermutation-middle}
use Rattle.std.specs.Cmp.{IsStrictWeakOrder}
use Rattle.std.specs.List.{AllByRecursion, AllPairs}
use Rattle.std.proofs.lemmas.List.{take-append-le, drop-append-le, drop-drop}
use Rattle.puffin_view.specs.View.Ranking.{AreFirst, place, place_first, in_order, first_in_order, last_of, last_from, last_in}

true≢false : true ≡ false → ⊥
true≢false e = cc

module _ {F : Type 0} (before : F → F → Bool) (o : IsStrictWeakOrder before) where
  -- the order passes on
  pub passes_on : (x y z : F) → before x y ≡ true → before y z ≡ true → before x z ≡ true
  passes_on x y z h k = decide (before x z) refl where
    decide : (b : Bool) → before x z ≡ b → before x z ≡ true
    decide true e = e
    decide false e = absurd (true≢false (sym h ∙ o.chain x z y e (o.one_way y z k)))

  -- one more, placed behind, and one more, placed in front, don't disturb each other
  commute_at : (x f y : F) (ys : List F) (a b : Bool) → before f y ≡ a → before y x ≡ b
      → place_first before x (place before f ys) ≡ place before f (place_first before x ys)
      → place_first before x (cond a (f ∷ (y ∷ ys)) (y ∷ place before f ys))
      ≡ place before f (cond b (y ∷ place_first before x ys) (x ∷ (y ∷ ys)))
  commute_at x f y ys true true p q ih = rw (passes_on f y x p q, q, p) refl
  commute_at x f y ys true false p q ih = rw (q, p) (flip (before f x)) where
    flip : (c : Bool)
        → cond c (f ∷ (x ∷ (y ∷ ys))) (x ∷ (f ∷ (y ∷ ys))) ≡ cond c (f ∷ (x ∷ (y ∷ ys))) (x ∷ (f ∷ (y ∷ ys)))
    flip c = refl
  commute_at x f y ys false true p q ih = rw (q, p) (ap (λ zs. y ∷ zs) ih)
  commute_at x f y ys false false p q ih = rw (o.chain f y x p q, q, p) refl

  pub commute : (x f : F) (ys : List F)
      → place_first before x (place before f ys) ≡ place before f (place_first before x ys)
  commute x f [] = refl
  commute x f (y ∷ ys) = commute_at x f y ys (before f y) (before y x) refl refl (commute x f ys)

  -- one more at the end of a list is placed into its order
  pub in_order-more : (xs : List F) (f : F) → in_order before (xs ++ f ∷ []) ≡ place before f (in_order before xs)
  in_order-more [] f = refl
  in_order-more (x ∷ xs) f = ap (place_first before x) (in_order-more xs f) ∙ commute x f (in_order before xs)

pub take_again : {F : Type 0} (k : ℕ) (xs : List F) → take k (take k xs) ≡ take k xs
take_again zero xs = refl
take_again (suc k) [] = refl
take_again (suc k) (x ∷ xs) = ap (λ ys. x ∷ ys) (take_again k xs)

take_fewer : {F : Type 0} (k : ℕ) (xs : List F) → take k (take (suc k) xs) ≡ take k xs
take_fewer zero xs = refl
take_fewer (suc k) [] = refl
take_fewer (suc k) (y ∷ ys) = ap (λ zs. y ∷ zs) (take_fewer k ys)

take_short : {F : Type 0} (k : ℕ) (x : F) (xs : List F) → take k (x ∷ take k xs) ≡ take k (x ∷ xs)
take_short zero x xs = refl
take_short (suc k) x xs = ap (λ ys. x ∷ ys) (take_fewer k xs)

module _ {F : Type 0} (before : F → F → Bool) where
  take-place_at : (k : ℕ) (f x : F) (xs : List F) (b : Bool)
      → take k (place before f (take k xs)) ≡ take k (place before f xs)
      → take (suc k) (cond b (f ∷ (x ∷ take k xs)) (x ∷ place before f (take k xs)))
      ≡ take (suc k) (cond b (f ∷ (x ∷ xs)) (x ∷ place before f xs))
  take-place_at k f x xs true ih = ap (λ ys. f ∷ ys) (take_short k x xs)
  take-place_at k f x xs false ih = ap (λ ys. x ∷ ys) ih

  -- of the first k, with one more, the first k are known from the first k
  pub take-place : (k : ℕ) (f : F) (xs : List F) → take k (place before f (take k xs)) ≡ take k (place before f xs)
  take-place zero f xs = refl
  take-place (suc k) f [] = refl
  take-place (suc k) f (x ∷ xs) = take-place_at k f x xs (before f x) (take-place k f xs)

  -- what comes before none is placed last
  pub place-last : (f : F) (xs : List F) → AllByRecursion (λ x. before f x ≡ false) xs
      → place before f xs ≡ xs ++ f ∷ []
  place-last f [] h = refl
  place-last f (x ∷ xs) (first, others) = rw first (ap (λ ys. x ∷ ys) (place-last f xs others))

-- one more at the end: of the last n, the last n are known from the last n
pub last_of-more : {F : Type 0} (n : ℕ) (xs : List F) (f : F)
    → last_of n (last_of n xs ++ f ∷ []) ≡ last_of n (xs ++ f ∷ [])
last_of-more n xs f =
    let a : ℕ = length xs - n in
    let joined : drop a (xs ++ f ∷ []) ≡ drop a xs ++ f ∷ [] = drop-append-le a xs (f ∷ []) (omega arith) in
    let left : length (drop a xs) ≡ length xs - a = length-drop a xs in
    let more : length (drop a xs ++ f ∷ []) ≡ length (drop a xs) + 1 = length-append (drop a xs) (f ∷ []) in
    let whole : length (xs ++ f ∷ []) ≡ length xs + 1 = length-append xs (f ∷ []) in
    let far : a + (length (drop a xs ++ f ∷ []) - n) ≡ length (xs ++ f ∷ []) - n = omega arith in
    ap (drop (length (drop a xs ++ f ∷ []) - n)) (sym joined)
    ∙ drop-drop (length (drop a xs ++ f ∷ []) - n) a (xs ++ f ∷ [])
    ∙ ap (λ m. drop m (xs ++ f ∷ [])) far

module _ {F : Type 0} (before : F → F → Bool) where
  -- none comes before one that stands in front of it
  abbrev pub IsInOrder : List F → Type 0
  IsInOrder [] = Unit {0}
  IsInOrder (x ∷ xs) = AllByRecursion (λ y. before y x ≡ false) xs × IsInOrder xs

  pub all_take : (P : F → Type 0) (k : ℕ) (xs : List F) → AllByRecursion P xs → AllByRecursion P (take k xs)
  all_take P zero xs h = tt
  all_take P (suc k) [] h = tt
  all_take P (suc k) (x ∷ xs) (first, others) = (first, all_take P k xs others)

  pub in_order-take : (k : ℕ) (xs : List F) → IsInOrder xs → IsInOrder (take k xs)
  in_order-take zero xs h = tt
  in_order-take (suc k) [] h = tt
  in_order-take (suc k) (x ∷ xs) (first, others) =
      (all_take (λ y. before y x ≡ false) k xs first, in_order-take k xs others)

  all_first_at : (P : F → Type 0) (f x : F) (xs : List F) (b : Bool)
      → P f → P x → AllByRecursion P xs → AllByRecursion P (place_first before f xs)
      → AllByRecursion P (cond b (x ∷ place_first before f xs) (f ∷ (x ∷ xs)))
  all_first_at P f x xs true p q h later = (q, later)
  all_first_at P f x xs false p q h later = (p, (q, h))

  all_first : (P : F → Type 0) (f : F) (xs : List F) → P f → AllByRecursion P xs
      → AllByRecursion P (place_first before f xs)
  all_first P f [] p h = (p, tt)
  all_first P f (x ∷ xs) p (first, others) =
      all_first_at P f x xs (before x f) p first others (all_first P f xs p others)

module _ {F : Type 0} (before : F → F → Bool) (o : IsStrictWeakOrder before) where
  all_weaker : (f x : F) (xs : List F) → before x f ≡ false → AllByRecursion (λ y. before y x ≡ false) xs
      → AllByRecursion (λ y. before y f ≡ false) xs
  all_weaker f x [] p h = tt
  all_weaker f x (y ∷ ys) p (first, others) = (o.chain y x f first p, all_weaker f x ys p others)

  first_keeps_at : (f x : F) (xs : List F) (b : Bool) → before x f ≡ b → IsInOrder before (x ∷ xs)
      → IsInOrder before (place_first before f xs)
      → IsInOrder before (cond b (x ∷ place_first before f xs) (f ∷ (x ∷ xs)))
  first_keeps_at f x xs true p h later = (all_first before (λ y. before y x ≡ false) f xs (o.one_way x f p) h.0, later)
  first_keeps_at f x xs false p h later = ((p, all_weaker f x xs p h.0), h)

  first_keeps : (f : F) (xs : List F) → IsInOrder before xs → IsInOrder before (place_first before f xs)
  first_keeps f [] h = (tt, tt)
  first_keeps f (x ∷ xs) h = first_keeps_at f x xs (before x f) refl h (first_keeps f xs h.1)

  -- a sorted list is in order
  pub in_order-in_order : (xs : List F) → IsInOrder before (in_order before xs)
  in_order-in_order [] = tt
  in_order-in_order (x ∷ xs) = first_keeps x (in_order before xs) (in_order-in_order xs)

  -- what doesn't come before the last comes before none
  none_before : (f x : F) (xs : List F) → IsInOrder before (x ∷ xs) → before f (last_from x xs) ≡ false
      → AllByRecursion (λ y. before f y ≡ false) (x ∷ xs)
  none_before f x [] h p = (p, tt)
  none_before f x (y ∷ ys) h p = let later = none_before f y ys h.1 p in (o.chain f y x later.0 h.0.0, later)

  pub none_before_last : (f : F) (xs : List F) → IsInOrder before xs → IfSome (last_in xs) (λ x. before f x ≡ false)
      → AllByRecursion (λ y. before f y ≡ false) xs
  none_before_last f [] h p = tt
  none_before_last f (x ∷ xs) h p = none_before f x xs h p

  -- of the first k of a list, with one more, the first k are those of the list with it
  pub first_in_order-more : (k : ℕ) (xs : List F) (f : F)
      → take k (place before f (first_in_order before k xs)) ≡ first_in_order before k (xs ++ f ∷ [])
  first_in_order-more k xs f =
      take-place before k f (in_order before xs) ∙ ap (take k) (sym (in_order-more before o xs f))

  -- where they are k and it doesn't come before their last, they stay
  pub first_in_order-same : (k : ℕ) (xs : List F) (f : F) → k ≤ length (first_in_order before k xs)
      → IfSome (last_in (first_in_order before k xs)) (λ x. before f x ≡ false)
      → first_in_order before k xs ≡ first_in_order before k (xs ++ f ∷ [])
  first_in_order-same k xs f full late =
      let first : List F = first_in_order before k xs in
      let behind : place before f first ≡ first ++ f ∷ [] = place-last before f first
      (none_before_last f first (in_order-take before k (in_order before xs) (in_order-in_order xs)) late) in
      sym (take_again k (in_order before xs)) ∙ sym (take-append-le k first (f ∷ []) full) ∙ ap (take k) (sym behind)
      ∙ first_in_order-more k xs f

module _ {F : Type 0} (before : F → F → Bool) where
  first_permutes_at : (f x : F) (xs : List F) (b : Bool) → IsPermutation (f ∷ xs) (place_first before f xs)
      → IsPermutation (f ∷ (x ∷ xs)) (cond b (x ∷ place_first before f xs) (f ∷ (x ∷ xs)))
  first_permutes_at f x xs true h = IsPermutation-trans (f ∷ (x ∷ xs)) (x ∷ (f ∷ xs)) (x ∷ place_first before f xs)
      (IsPermutation-middle (f ∷ []) x xs) (IsPermutation-cons x (f ∷ xs) (place_first before f xs) h)
  first_permutes_at f x xs false h = IsPermutation-refl (f ∷ (x ∷ xs))

  first_permutes : (f : F) (xs : List F) → IsPermutation (f ∷ xs) (place_first before f xs)
  first_permutes f [] = IsPermutation-refl (f ∷ [])
  first_permutes f (x ∷ xs) = first_permutes_at f x xs (before x f) (first_permutes f xs)

  -- a sorted list has the elements of the list
  pub in_order-permutes : (xs : List F) → IsPermutation xs (in_order before xs)
  in_order-permutes [] = IsPermutation-refl []
  in_order-permutes (x ∷ xs) =
      IsPermutation-trans (x ∷ xs) (x ∷ in_order before xs) (place_first before x (in_order before xs))
      (IsPermutation-cons x xs (in_order before xs) (in_order-permutes xs)) (first_permutes x (in_order before xs))

-- in order, by pairs
none_below : (k : ℕ) → k < 0 → ⊥
none_below k h = omega arith

at_all : {F : Type 0} (P : F → Type 0) (xs : List F) (k : ℕ) (d : F) → k < length xs → AllByRecursion P xs
    → P (get_or xs k d)
at_all P [] k d b h = absurd (none_below k b)
at_all P (x ∷ xs) zero d b (first, others) = first
at_all P (x ∷ xs) (suc k) d b (first, others) = at_all P xs k d (omega arith) others

pub in_pairs : {F : Type 0} (before : F → F → Bool) (xs : List F) → IsInOrder before xs
    → AllPairs (λ x y. before y x ≡ false) xs
in_pairs before [] h i j d low high = absurd (none_below j high)
in_pairs before (x ∷ xs) h i zero d low high = absurd (none_below i low)
in_pairs before (x ∷ xs) (first, others) zero (suc j) d low high =
    at_all (λ y. before y x ≡ false) xs j d (omega arith) first
in_pairs before (x ∷ xs) (first, others) (suc i) (suc j) d low high =
    in_pairs before xs others i j d (omega arith) (omega arith)

module _ {F : Type 0} (before : F → F → Bool) (o : IsStrictWeakOrder before) (k : ℕ) (xs : List F) where
  pub first_in_pairs : AllPairs (λ x y. before y x ≡ false) (first_in_order before k xs)
  first_in_pairs = in_pairs before (first_in_order before k xs)
      (in_order-take before k (in_order before xs) (in_order-in_order before o xs))

  pub are_first : AreFirst before k xs (first_in_order before k xs)
  are_first = record {
    ordered = in_order before xs;
    all = in_order-permutes before xs;
    in_order = in_pairs before (in_order before xs) (in_order-in_order before o xs);
    first = refl;
  }
