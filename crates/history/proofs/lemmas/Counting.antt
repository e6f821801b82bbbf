-- As many numbers below n as n, each at most once, are all numbers below n: their counts come to n, and none is above 1.
use Rattle.std.proofs.Common.{◌≡◌, ◌≢◌, ℕ, zero, suc, ◌+◌, ◌<◌, ◌≤◌, ◌==◌, Bool, true, false, cond, List, [], ◌∷◌, ◌++◌, length, refl, ap, ◌∙◌, arith}
use Rattle.std.specs.List.{count_by, AllByRecursion}
use Rattle.std.proofs.lemmas.List.Sums.{sum_by-cons, sum_by-append}
use Rattle.std.proofs.lemmas.Bool.Decides.{nat_tests}

pub same_number : (k : ℕ) → (k == k) ≡ true
same_number k = grind (arith, nat_tests)

pub other_number : (j k : ℕ) → j ≢ k → (j == k) ≡ false
other_number j k apart = grind (arith, nat_tests)

pub equal_number : (j k : ℕ) → (j == k) ≡ true → j ≡ k
equal_number j k is = grind (arith, nat_tests)

pub unequal_number : (j k : ℕ) → (j == k) ≡ false → j ≢ k
unequal_number j k is = λ same. grind (arith, nat_tests)

-- ---- sums over all numbers below one

-- f 0 + .. + f (n - 1)
abbrev sum_upto : ℕ → (ℕ → ℕ) → ℕ
sum_upto zero f = 0
sum_upto (suc n) f = sum_upto n f + f n

-- a sum of zeros
upto_none : (n : ℕ) → sum_upto n (λ k. 0) ≡ 0
upto_none zero = refl
upto_none (suc n) = omega (arith, upto_none n)

-- a sum of sums
upto_both : (n : ℕ) (f g : ℕ → ℕ) → sum_upto n (λ k. f k + g k) ≡ sum_upto n f + sum_upto n g
upto_both zero f g = refl
upto_both (suc n) f g = omega (arith, upto_both n f g)

-- sums of the same parts
upto_same : (n : ℕ) (f g : ℕ → ℕ) → ((k : ℕ) → f k ≡ g k) → sum_upto n f ≡ sum_upto n g
upto_same zero f g same = refl
upto_same (suc n) f g same = omega (arith, upto_same n f g same, same n)

-- 1 for yes, 0 for no
abbrev pub one_if : Bool → ℕ
one_if answer = cond answer 1 0

-- no number below n is `a`, if that isn't below n
one_past : (n a : ℕ) → n ≤ a → sum_upto n (λ k. one_if (a == k)) ≡ 0
one_past zero a le = refl
one_past (suc n) a le = omega (arith, one_past n a (omega arith), ap one_if (other_number a n (λ same. omega arith)))

-- the last part of the sum in `one_below`, by whether it is the one
one_at : (n a : ℕ) (answer : Bool) → (a == n) ≡ answer → a < suc n → (a < n → sum_upto n (λ k. one_if (a == k)) ≡ 1)
    → sum_upto n (λ k. one_if (a == k)) + one_if answer ≡ 1
one_at n a true is lt rest = let same = equal_number a n is in omega (arith, one_past n a (omega (arith, same)))
one_at n a false is lt rest = let apart = unequal_number a n is in omega (arith, rest (grind (arith, nat_tests)))

-- one number below n is `a`, if that is below n
one_below : (n a : ℕ) → a < n → sum_upto n (λ k. one_if (a == k)) ≡ 1
one_below zero a lt = absurd (omega arith)
one_below (suc n) a lt = one_at n a (a == n) refl lt (one_below n a)

-- a sum of parts that are at most 1
at_most : (n : ℕ) (f : ℕ → ℕ) → ((k : ℕ) → f k ≤ 1) → sum_upto n f ≤ n
at_most zero f most = omega arith
at_most (suc n) f most = omega (arith, at_most n f most, most n)

-- a sum that is as great as it can be has all its parts
each_one : (n : ℕ) (f : ℕ → ℕ) → ((k : ℕ) → f k ≤ 1) → sum_upto n f ≡ n → (k : ℕ) → k < n → f k ≡ 1
each_one zero f most all k lt = absurd (omega arith)
each_one (suc n) f most all k lt = at_last (k == n) refl (λ less. each_one n f most (omega (arith, at_most n f most, most n, all)) k less)
  where
    at_last : (answer : Bool) → (k == n) ≡ answer → (k < n → f k ≡ 1) → f k ≡ 1
    at_last true is rest = ap f (equal_number k n is) ∙ omega (arith, at_most n f most, most n, all)
    at_last false is rest = rest (let apart = unequal_number k n is in grind (arith, nat_tests))

-- ---- how often a number stands in a list

module _ {X : Type 0} (number : X → ℕ) where
  -- how many elements of a list have this number
  abbrev pub times : ℕ → List X → ℕ
  times k list = count_by (λ element. number element == k) list

  -- one element more at the front, and a list more at the end
  pub times-cons : (k : ℕ) (x : X) (xs : List X) → times k (x ∷ xs) ≡ one_if (number x == k) + times k xs
  times-cons k x xs = sum_by-cons (λ y. one_if (number y == k)) x xs

  pub times-append : (k : ℕ) (xs ys : List X) → times k (xs ++ ys) ≡ times k xs + times k ys
  times-append k xs ys = sum_by-append (λ y. one_if (number y == k)) xs ys

  -- if all elements have numbers below n, each is counted once
  all_times : (n : ℕ) (xs : List X) → AllByRecursion (λ x. number x < n) xs → sum_upto n (λ k. times k xs) ≡ length xs
  all_times n [] below = upto_none n
  all_times n (x ∷ xs) below =
      upto_same n (λ k. times k (x ∷ xs)) (λ k. one_if (number x == k) + times k xs) (λ k. times-cons k x xs)
      ∙ upto_both n (λ k. one_if (number x == k)) (λ k. times k xs)
      ∙ omega (arith, one_below n (number x) below.0, all_times n xs below.1)

  -- as many as n, all below n and none twice: each is there once
  pub all_once : (n : ℕ) (xs : List X) → length xs ≡ n → AllByRecursion (λ x. number x < n) xs → ((k : ℕ) → times k xs ≤ 1)
      → (k : ℕ) → k < n → times k xs ≡ 1
  all_once n xs long below most k lt = each_one n (λ j. times j xs) most (all_times n xs below ∙ long) k lt

  -- one more that wasn't there
  pub once_more : (xs : List X) (x : X) → ((k : ℕ) → times k xs ≤ 1) → times (number x) xs ≡ 0
      → (k : ℕ) → times k (xs ++ x ∷ []) ≤ 1
  once_more xs x most none k = at (number x == k) refl
    where
      at : (answer : Bool) → (number x == k) ≡ answer → times k (xs ++ x ∷ []) ≤ 1
      at true is =
          let none_yet = ap (λ j. times j xs) (equal_number (number x) k is) in
          omega (arith, times-append k xs (x ∷ []), times-cons k x [], ap one_if is, none_yet, none)
      at false is = omega (arith, times-append k xs (x ∷ []), times-cons k x [], ap one_if is, most k)
