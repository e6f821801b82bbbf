-- The number of the next registration is new.
use Rattle.std.proofs.Common.{◌≡◌, ℕ, ◌+◌, ◌<◌, zero, suc, Bool, true, false, cond, List, [], ◌∷◌, ◌++◌, length}
use Rattle.std.proofs.Common.{map, Some, None, refl, ap, ◌∙◌, arith}
use Rattle.std.specs.Prelude.{find, nat_eq}
use Rattle.std.specs.Option.{option_eq}
use Rattle.std.proofs.lemmas.Bool.Decides.{nat_tests}
use Rattle.puffin_threads.specs.Details.{Details, with_id}
use Rattle.puffin_threads.specs.Details.Collection.{first_with_id}
use Rattle.puffin.specs.Numbered.{ids_to, AreInOrder}

module _ {X : Type 0} (p : X → Bool) where
  -- where none of the first is found, the others are looked through
  find-append : (xs ys : List X) → find p xs ≡ None → find p (xs ++ ys) ≡ find p ys
  find-append [] ys none = refl
  find-append (x ∷ xs) ys none = at_test (p x) none (find-append xs ys)
    where
      at_test : (b : Bool) → cond b (Some x) (find p xs) ≡ None → (find p xs ≡ None → find p (xs ++ ys) ≡ find p ys)
          → cond b (Some x) (find p (xs ++ ys)) ≡ find p ys
      at_test true none rest = absurd cc
      at_test false none rest = rest none

-- a greater number isn't among the first ids
greater : (id n : ℕ) → n < id → find (λ o. option_eq nat_eq o (Some id)) (ids_to n) ≡ None
greater id zero below = refl
greater id (suc n) below =
    let other : nat_eq (n + 1) id ≡ false = grind (arith, nat_tests, below) in
    find-append (λ o. option_eq nat_eq o (Some id)) (ids_to n) (Some (n + 1) ∷ []) (greater id n (omega (arith, below)))
    ∙ ap (λ (b : Bool). cond b (Some (Some (n + 1))) None) other

none_by_ids : (ds : List Details) (id : ℕ) → find (λ o. option_eq nat_eq o (Some id)) (map (λ d. d.id) ds) ≡ None
    → first_with_id id ds ≡ None
none_by_ids [] id none = refl
none_by_ids (d ∷ ds) id none = at_test (option_eq nat_eq d.id (Some id)) none (none_by_ids ds id)
  where
    at_test : (b : Bool) → cond b (Some d.id) (find (λ o. option_eq nat_eq o (Some id)) (map (λ d. d.id) ds)) ≡ None
        → (find (λ o. option_eq nat_eq o (Some id)) (map (λ d. d.id) ds) ≡ None → first_with_id id ds ≡ None)
        → cond b (Some d) (first_with_id id ds) ≡ None
    at_test true none rest = absurd cc
    at_test false none rest = rest none

-- details that were registered last are found under their number
pub found_last : (ds : List Details) (d : Details) (id : ℕ) → AreInOrder ds → id ≡ length ds + 1
    → first_with_id id (ds ++ (with_id d id ∷ [])) ≡ Some (with_id d id)
found_last ds d id ordered number =
    let none : find (λ o. option_eq nat_eq o (Some id)) (map (λ d. d.id) ds) ≡ None =
    ap (find (λ o. option_eq nat_eq o (Some id))) ordered ∙ greater id (length ds) (omega (arith, number)) in
    let same : nat_eq id id ≡ true = grind (arith, nat_tests) in
    find-append (λ d. option_eq nat_eq d.id (Some id)) ds (with_id d id ∷ []) (none_by_ids ds id none)
    ∙ ap (λ (b : Bool). cond b (Some (with_id d id)) None) same
