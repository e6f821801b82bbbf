-- Frames in rows: entries by rising keys, and behind them others whose keys are above.
use Rattle.std.proofs.Common.{◌≡◌, ℕ, ◌<◌, ◌≤◌, Bool, true, false, cond, List, [], ◌∷◌, ◌++◌, Option, Some, None, refl, sym, ap, subst, ◌∙◌, arith}
use Rattle.std.specs.Prelude.{IsSome, nat_lt}
use Rattle.std.specs.List.{AllByRecursion}
use Rattle.std.specs.List.Sorted.{IsStrictlySortedBy}
use Rattle.std.specs.declared.cmp.Ordering.{Ordering}
use Rattle.std.specs.declared.cmp.Ordering.TheVariants.{Less, Equal, Greater}
use Rattle.std.specs.Ordering.{nat_cmp, is_eq, match_ordering}
use Rattle.std.specs.BTreeMap.{insert_entry, is_at}
use Rattle.std.specs.Map.{keys_of, lookup, remove_entry}

abbrev pub at : ℕ → ℕ → Bool
at k = is_at (nat_cmp k)

itself : (k : ℕ) → nat_cmp k k ≡ Equal
itself k = grind arith

above : (y k : ℕ) → y < k → nat_cmp k y ≡ Greater
above y k e = grind arith

less_on : (a b c : ℕ) → nat_cmp a b ≡ Less → nat_cmp b c ≡ Less → nat_cmp a c ≡ Less
less_on a b c e f = grind arith

tied : (a b : ℕ) → nat_cmp a b ≡ Equal → a ≡ b
tied a b e = grind arith

turned : (a b : ℕ) → at a b ≡ at b a
turned a b = grind arith

back : (k j : ℕ) → nat_cmp k j ≡ Greater → nat_cmp j k ≡ Less
back k j e = grind arith

-- `None` is not `Some`
pub no_some : {X : Type 0} (o : Option X) → o ≡ None → IsSome o → ⊥
no_some o e h = cc

lower : (a b : ℕ) → nat_cmp a b ≡ Less → a < b
lower a b e = grind arith

is_less : (a b : ℕ) → nat_lt a b ≡ true → a < b
is_less a b e = grind arith

no_less : (a b : ℕ) → nat_lt a b ≡ false → b ≤ a
no_less a b e = grind arith

module _ {X : Type 0} where
  -- all keys are below k
  abbrev pub AreBelow : ℕ → List (ℕ × X) → Type 0
  AreBelow k es = AllByRecursion (λ y. y < k) (keys_of es)

  -- ---- past keys that are below

  lookup-past : (k : ℕ) (es ms : List (ℕ × X)) → AreBelow k es → lookup (at k) (es ++ ms) ≡ lookup (at k) ms
  lookup-past k [] ms h = refl
  lookup-past k (e ∷ es) ms (low, lows) = rw (above e.0 k low) (lookup-past k es ms lows)

  insert-past : (k : ℕ) (a : X) (es ms : List (ℕ × X)) → AreBelow k es
      → insert_entry nat_cmp (es ++ ms) k a ≡ es ++ insert_entry nat_cmp ms k a
  insert-past k a [] ms h = refl
  insert-past k a (e ∷ es) ms (low, lows) = rw (above e.0 k low) (ap (λ l. e ∷ l) (insert-past k a es ms lows))

  remove-past : (k : ℕ) (es ms : List (ℕ × X)) → AreBelow k es
      → remove_entry (at k) (es ++ ms) ≡ es ++ remove_entry (at k) ms
  remove-past k [] ms h = refl
  remove-past k (e ∷ es) ms (low, lows) = rw (above e.0 k low) (ap (λ l. e ∷ l) (remove-past k es ms lows))

  -- a key above all others is inserted at the end
  pub insert-last : (k : ℕ) (a : X) (es : List (ℕ × X)) → AreBelow k es
      → insert_entry nat_cmp es k a ≡ es ++ (k, a) ∷ []
  insert-last k a [] h = refl
  insert-last k a (e ∷ es) (low, lows) = rw (above e.0 k low) (ap (λ l. e ∷ l) (insert-last k a es lows))

  -- ---- at a key that stands between

  -- a value is found under its key, behind lower keys
  pub lookup-between : (k : ℕ) (x : X) (es ms : List (ℕ × X)) → AreBelow k es
      → lookup (at k) (es ++ (k, x) ∷ ms) ≡ Some x
  lookup-between k x es ms h =
      lookup-past k es ((k, x) ∷ ms) h ∙ ap (λ o. cond (is_eq o) (Some x) (lookup (at k) ms)) (itself k)

  -- a value is replaced under its key, behind lower keys
  pub insert-between : (k : ℕ) (x a : X) (es ms : List (ℕ × X)) → AreBelow k es
      → insert_entry nat_cmp (es ++ (k, x) ∷ ms) k a ≡ es ++ (k, a) ∷ ms
  insert-between k x a es ms h =
      insert-past k a es ((k, x) ∷ ms) h ∙ ap (λ l. es ++ l) (ap (λ o. match_ordering o ((k, a) ∷ (k, x) ∷ ms)
      ((k, a) ∷ ms) ((k, x) ∷ insert_entry nat_cmp ms k a)) (itself k))

  -- an entry is removed under its key, behind lower keys
  pub remove-between : (k : ℕ) (x : X) (es ms : List (ℕ × X)) → AreBelow k es
      → remove_entry (at k) (es ++ (k, x) ∷ ms) ≡ es ++ ms
  remove-between k x es ms h =
      remove-past k es ((k, x) ∷ ms) h
      ∙ ap (λ l. es ++ l) (ap (λ o. cond (is_eq o) ms ((k, x) ∷ remove_entry (at k) ms)) (itself k))

  -- ---- where the later ones don't have the key

  -- a key that is not in the second part is looked up in the first
  pub lookup-first : (t : ℕ → Bool) (es ms : List (ℕ × X)) → lookup t ms ≡ None → lookup t (es ++ ms) ≡ lookup t es
  lookup-first t [] ms n = n
  lookup-first t (e ∷ es) ms n = ap (λ o. cond (t e.0) (Some e.1) o) (lookup-first t es ms n)

  remove-none : (t : ℕ → Bool) (ms : List (ℕ × X)) → lookup t ms ≡ None → remove_entry t ms ≡ ms
  remove-none t [] n = refl
  remove-none t (m ∷ ms) n = by (t m.0) n (remove-none t ms) where
    by : (b : Bool) → cond b (Some m.1) (lookup t ms) ≡ None → (lookup t ms ≡ None → remove_entry t ms ≡ ms)
        → cond b ms (m ∷ remove_entry t ms) ≡ m ∷ ms
    by true n later = cc
    by false n later = ap (λ l. m ∷ l) (later n)

  -- an entry that is not in the second part is removed from the first
  pub remove-first : (t : ℕ → Bool) (es ms : List (ℕ × X)) → lookup t ms ≡ None
      → remove_entry t (es ++ ms) ≡ remove_entry t es ++ ms
  remove-first t [] ms n = remove-none t ms n
  remove-first t (e ∷ es) ms n = by (t e.0) (remove-first t es ms n) where
    by : (b : Bool) → remove_entry t (es ++ ms) ≡ remove_entry t es ++ ms
        → cond b (es ++ ms) (e ∷ remove_entry t (es ++ ms)) ≡ cond b es (e ∷ remove_entry t es) ++ ms
    by true later = refl
    by false later = ap (λ l. e ∷ l) later

  -- a value that is in the first part is replaced there
  pub insert-first : (k : ℕ) (a : X) (es ms : List (ℕ × X)) → IsSome (lookup (at k) es)
      → insert_entry nat_cmp (es ++ ms) k a ≡ insert_entry nat_cmp es k a ++ ms
  insert-first k a [] ms h = let none : Option X = None in absurd (no_some none refl h)
  insert-first k a (e ∷ es) ms h = by (nat_cmp k e.0) h (insert-first k a es ms) where
    by : (o : Ordering) → IsSome (cond (is_eq o) (Some e.1) (lookup (at k) es))
        → (IsSome (lookup (at k) es) → insert_entry nat_cmp (es ++ ms) k a ≡ insert_entry nat_cmp es k a ++ ms)
        → match_ordering o ((k, a) ∷ e ∷ (es ++ ms)) ((e.0, a) ∷ (es ++ ms)) (e ∷ insert_entry nat_cmp (es ++ ms) k a)
        ≡ match_ordering o ((k, a) ∷ e ∷ es) ((e.0, a) ∷ es) (e ∷ insert_entry nat_cmp es k a) ++ ms
    by Less h later = refl
    by Equal h later = refl
    by Greater h later = ap (λ l. e ∷ l) (later h)

  -- ---- keys in order

  -- the keys before a key of a sorted list are lower
  pub below_sorted : (k : ℕ) (x : X) (es ms : List (ℕ × X)) → IsStrictlySortedBy nat_cmp (keys_of (es ++ (k, x) ∷ ms))
      → AreBelow k es
  unfolding IsStrictlySortedBy
  below_sorted k x [] ms s = tt
  below_sorted k x (e ∷ es) ms (first, rest) = (lower e.0 k (one es first), below_sorted k x es ms rest) where
    one : (fs : List (ℕ × X)) → AllByRecursion (λ y. nat_cmp e.0 y ≡ Less) (keys_of (fs ++ (k, x) ∷ ms))
        → nat_cmp e.0 k ≡ Less
    one [] h = h.0
    one (f ∷ fs) h = one fs h.1

  -- the rest of a sorted list is sorted
  pub rest_sorted : (es ms : List (ℕ × X)) → IsStrictlySortedBy nat_cmp (keys_of (es ++ ms))
      → IsStrictlySortedBy nat_cmp (keys_of ms)
  unfolding IsStrictlySortedBy
  rest_sorted [] ms s = s
  rest_sorted (e ∷ es) ms (first, rest) = rest_sorted es ms rest

  all_inserted : (P : ℕ → Type 0) (k : ℕ) (a : X) (es : List (ℕ × X)) → P k → AllByRecursion P (keys_of es)
      → AllByRecursion P (keys_of (insert_entry nat_cmp es k a))
  all_inserted P k a [] p h = (p, tt)
  all_inserted P k a (e ∷ es) p (first, rest) = by (nat_cmp k e.0) (all_inserted P k a es p rest) where
    by : (o : Ordering) → AllByRecursion P (keys_of (insert_entry nat_cmp es k a)) → AllByRecursion P
        (keys_of (match_ordering o ((k, a) ∷ e ∷ es) ((e.0, a) ∷ es) (e ∷ insert_entry nat_cmp es k a)))
    by Less later = (p, (first, rest))
    by Equal later = (first, rest)
    by Greater later = (first, later)

  all_further : (k j : ℕ) (es : List (ℕ × X)) → nat_cmp k j ≡ Less
      → AllByRecursion (λ y. nat_cmp j y ≡ Less) (keys_of es) → AllByRecursion (λ y. nat_cmp k y ≡ Less) (keys_of es)
  all_further k j [] e h = tt
  all_further k j (f ∷ fs) e (first, rest) = (less_on k j f.0 e first, all_further k j fs e rest)

  -- an insertion keeps the keys sorted
  sorted-insert : (k : ℕ) (a : X) (es : List (ℕ × X)) → IsStrictlySortedBy nat_cmp (keys_of es)
      → IsStrictlySortedBy nat_cmp (keys_of (insert_entry nat_cmp es k a))
  unfolding IsStrictlySortedBy
  sorted-insert k a [] s = (tt, tt)
  sorted-insert k a (e ∷ es) (first, rest) = by (nat_cmp k e.0) refl (sorted-insert k a es rest) where
    by : (o : Ordering) → nat_cmp k e.0 ≡ o
        → IsStrictlySortedBy nat_cmp (keys_of (insert_entry nat_cmp es k a)) → IsStrictlySortedBy nat_cmp
        (keys_of (match_ordering o ((k, a) ∷ e ∷ es) ((e.0, a) ∷ es) (e ∷ insert_entry nat_cmp es k a)))
    by Less p later = ((p, all_further k e.0 es p first), (first, rest))
    by Equal p later = (first, rest)
    by Greater p later = (all_inserted (λ y. nat_cmp e.0 y ≡ Less) k a es (back k e.0 p) first, later)

  -- a sorted list stays sorted with one key more
  pub sorted-inserted : (k : ℕ) (a : X) (es fs : List (ℕ × X)) → fs ≡ insert_entry nat_cmp es k a
      → IsStrictlySortedBy nat_cmp (keys_of es) → IsStrictlySortedBy nat_cmp (keys_of fs)
  sorted-inserted k a es fs e s = subst (λ l. IsStrictlySortedBy nat_cmp (keys_of l)) (sym e) (sorted-insert k a es s)

  -- a sorted list stays sorted with a key above all others at the end
  pub sorted-last : (k : ℕ) (a : X) (es : List (ℕ × X)) → AreBelow k es → IsStrictlySortedBy nat_cmp (keys_of es)
      → IsStrictlySortedBy nat_cmp (keys_of (es ++ (k, a) ∷ []))
  sorted-last k a es low s =
      subst (λ l. IsStrictlySortedBy nat_cmp (keys_of l)) (insert-last k a es low) (sorted-insert k a es s)

  all_removed : (P : ℕ → Type 0) (t : ℕ → Bool) (es : List (ℕ × X)) → AllByRecursion P (keys_of es)
      → AllByRecursion P (keys_of (remove_entry t es))
  all_removed P t [] h = tt
  all_removed P t (e ∷ es) (first, rest) = by (t e.0) (all_removed P t es rest) where
    by : (b : Bool) → AllByRecursion P (keys_of (remove_entry t es))
        → AllByRecursion P (keys_of (cond b es (e ∷ remove_entry t es)))
    by true later = rest
    by false later = (first, later)

  sorted-remove : (t : ℕ → Bool) (es : List (ℕ × X)) → IsStrictlySortedBy nat_cmp (keys_of es)
      → IsStrictlySortedBy nat_cmp (keys_of (remove_entry t es))
  unfolding IsStrictlySortedBy
  sorted-remove t [] s = tt
  sorted-remove t (e ∷ es) (first, rest) = by (t e.0) (sorted-remove t es rest) where
    by : (b : Bool) → IsStrictlySortedBy nat_cmp (keys_of (remove_entry t es))
        → IsStrictlySortedBy nat_cmp (keys_of (cond b es (e ∷ remove_entry t es)))
    by true later = rest
    by false later = (all_removed (λ y. nat_cmp e.0 y ≡ Less) t es first, later)

  -- a sorted list stays sorted with one key less
  pub sorted-removed : (t : ℕ → Bool) (es fs : List (ℕ × X)) → fs ≡ remove_entry t es
      → IsStrictlySortedBy nat_cmp (keys_of es) → IsStrictlySortedBy nat_cmp (keys_of fs)
  sorted-removed t es fs e s = subst (λ l. IsStrictlySortedBy nat_cmp (keys_of l)) (sym e) (sorted-remove t es s)

  -- keys that a look-up from k on doesn't find are below k
  pub below_none : (k : ℕ) (es : List (ℕ × X)) → ((q : ℕ) → k ≤ q → lookup (at q) es ≡ None) → AreBelow k es
  below_none k [] h = tt
  below_none k (e ∷ es) h =
      (by (nat_lt e.0 k) refl, below_none k es (λ q low. others (at q e.0) (lookup (at q) es) (h q low))) where
        others : (b : Bool) (o : Option X) → cond b (Some e.1) o ≡ None → o ≡ None
        others true o n = cc
        others false o n = n

        by : (b : Bool) → nat_lt e.0 k ≡ b → e.0 < k
        by true p = is_less e.0 k p
        by false p = let found : Some e.1 ≡ None =
            ap (λ o. cond (is_eq o) (Some e.1) (lookup (at e.0) es)) (sym (itself e.0)) ∙ h e.0 (no_less e.0 k p) in cc

  -- ---- what a look-up finds afterwards

  -- a look-up after an insertion finds the new value under its key, and else what was there
  pub lookup-insert : (k : ℕ) (a : X) (es : List (ℕ × X)) (q : ℕ)
      → lookup (at q) (insert_entry nat_cmp es k a) ≡ cond (at k q) (Some a) (lookup (at q) es)
  lookup-insert k a [] q = ap (λ b. cond b (Some a) None) (turned q k)
  lookup-insert k a (e ∷ es) q = by (nat_cmp k e.0) refl (lookup-insert k a es q) where
    like : nat_cmp k e.0 ≡ Equal → at q e.0 ≡ at k q
    like p = turned q e.0 ∙ ap (λ j. at j q) (sym (tied k e.0 p))

    never : nat_cmp k e.0 ≡ Greater → at k q ≡ true → at q e.0 ≡ false
    never p e = grind arith

    same : (b c : Bool) → b ≡ c
        → cond b (Some a) (lookup (at q) es) ≡ cond c (Some a) (cond b (Some e.1) (lookup (at q) es))
    same true true p = refl
    same false false p = refl
    same true false p = cc
    same false true p = cc

    swapped : (b c : Bool) (o : Option X) → (c ≡ true → b ≡ false)
        → cond b (Some e.1) (cond c (Some a) o) ≡ cond c (Some a) (cond b (Some e.1) o)
    swapped b false o h = refl
    swapped true true o h = let no : true ≡ false = h refl in cc
    swapped false true o h = refl

    by : (o : Ordering) → nat_cmp k e.0 ≡ o
        → lookup (at q) (insert_entry nat_cmp es k a) ≡ cond (at k q) (Some a) (lookup (at q) es)
        → lookup (at q) (match_ordering o ((k, a) ∷ e ∷ es) ((e.0, a) ∷ es) (e ∷ insert_entry nat_cmp es k a))
        ≡ cond (at k q) (Some a) (cond (at q e.0) (Some e.1) (lookup (at q) es))
    by Less p later = ap (λ b. cond b (Some a) (cond (at q e.0) (Some e.1) (lookup (at q) es))) (turned q k)
    by Equal p later = same (at q e.0) (at k q) (like p)
    by Greater p later =
        ap (λ o. cond (at q e.0) (Some e.1) o) later ∙ swapped (at q e.0) (at k q) (lookup (at q) es) (never p)
