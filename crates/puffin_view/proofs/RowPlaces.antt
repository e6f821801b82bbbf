-- Places in a row of frames, and what is done there.
use Rattle.std.proofs.Common.{◌≡◌, ℕ, zero, suc, ◌<◌, ◌≤◌, Bool, true, false, cond, List, [], ◌∷◌, ◌++◌, length, take, drop, get_or, Option, Some, None, Ok, Err, Result, refl, sym, ap, subst, ◌∙◌, arith, append_assoc}
use Rattle.std.specs.Prelude.{nat_lt, IsSome, IfSome, OnSome, OnOk, OnErr}
use Rattle.std.proofs.Common.{Bor}
use Rattle.std.specs.Option.{option_copied}
use Rattle.std.specs.List.{HoldsAt, remove, AllZip}
use Rattle.std.specs.List.Sorted.{IsStrictlySortedBy, IsBinarySearchResult, IsNonDecreasingBy}
use Rattle.std.specs.declared.cmp.Ordering.TheVariants.{Less, Equal, Greater}
use Rattle.std.specs.Ordering.{nat_cmp, ordering_index}
use Rattle.std.specs.BTreeMap.{insert_entry}
use Rattle.std.specs.Map.{keys_of, values_of, lookup, remove_entry}
use Rattle.std.specs.declared.sync.Arc.{Arc}
use Rattle.std.specs.Arc.{arc_value}
use Rattle.std.proofs.lemmas.List.{set_split, set-get_or}
use Rattle.std.proofs.lemmas.Map.Keys.{Less-from_sorted}
use Rattle.puffin_frames.specs.declared.frame_data.frame.FrameData.{FrameData}
use Rattle.puffin_view.specs.View.ViewedFrames.{index_of}
use Rattle.puffin_view.specs.View.FrameOf.{frame_of, shared_frame}
use Rattle.puffin_view.specs.inner.Held.{keyed}
use Rattle.puffin_view.proofs.Rows.{at, AreBelow, sorted-last, sorted-inserted, below_sorted, insert-first, insert-last, lookup-between, insert-between, remove-between}

up : (a b k : ℕ) → nat_cmp a b ≡ Less → ordering_index (nat_cmp a k) ≤ ordering_index (nat_cmp b k)
up a b k e = grind arith

is_less : (i j : ℕ) → nat_lt i j ≡ true → i < j
is_less i j e = grind arith

is_same : (i j : ℕ) → i ≤ j → nat_lt i j ≡ false → i ≡ j
is_same i j h e = grind arith

no_less : (i j : ℕ) → nat_lt j i ≡ false → i ≤ j
no_less i j e = grind arith

tied : (a b : ℕ) → nat_cmp a b ≡ Equal → a ≡ b
tied a b e = grind arith

lower : (a k : ℕ) → nat_cmp a k ≡ Less → at k a ≡ false
lower a k e = grind arith

higher : (a k : ℕ) → nat_cmp a k ≡ Greater → at k a ≡ false
higher a k e = grind arith

module _ {A : Type 0} where
  abbrev key : Arc FrameData A → ℕ
  key a = index_of (shared_frame a)

  pub keyed-append : (xs bs : List (Arc FrameData A)) → keyed (xs ++ bs) ≡ keyed xs ++ keyed bs
  keyed-append [] bs = refl
  keyed-append (a ∷ xs) bs = ap (λ l. (key a, a) ∷ l) (keyed-append xs bs)

  keyed-split : (xs bs : List (Arc FrameData A)) (x : Arc FrameData A) (k : ℕ) → key x ≡ k
      → keyed (xs ++ x ∷ bs) ≡ keyed xs ++ (k, x) ∷ keyed bs
  keyed-split xs bs x k e = keyed-append xs (x ∷ bs) ∙ ap (λ j. keyed xs ++ (j, x) ∷ keyed bs) e

  parts : (xs : List (Arc FrameData A)) (i : ℕ) (x : Arc FrameData A) → i < length xs
      → xs ≡ take i xs ++ get_or xs i x ∷ drop (suc i) xs
  parts xs i x h = sym (set-get_or xs i x) ∙ set_split xs i (get_or xs i x) h

  module _ (es : List (ℕ × Arc FrameData A)) (xs : List (Arc FrameData A))
      (k i : ℕ) (x : Arc FrameData A) (h : i < length xs) (is : key (get_or xs i x) ≡ k)
      (sorted : IsStrictlySortedBy nat_cmp (keys_of (es ++ keyed xs))) where
    abbrev before : List (ℕ × Arc FrameData A)
    before = es ++ keyed (take i xs)

    abbrev behind : List (ℕ × Arc FrameData A)
    behind = keyed (drop (suc i) xs)

    split : es ++ keyed xs ≡ before ++ (k, get_or xs i x) ∷ behind
    split = ap (λ l. es ++ keyed l) (parts xs i x h)
        ∙ ap (λ l. es ++ l) (keyed-split (take i xs) (drop (suc i) xs) (get_or xs i x) k is)
        ∙ sym (append_assoc es (keyed (take i xs)) ((k, get_or xs i x) ∷ behind))

    below : AreBelow k before
    below = below_sorted k (get_or xs i x) before behind
        (subst (λ l. IsStrictlySortedBy nat_cmp (keys_of l)) split sorted)

    pub found_at : lookup (at k) (es ++ keyed xs) ≡ Some (get_or xs i x)
    found_at = ap (lookup (at k)) split ∙ lookup-between k (get_or xs i x) before behind below

    pub replaced_at : (a : Arc FrameData A) → key a ≡ k
        → es ++ keyed (take i xs ++ a ∷ drop (suc i) xs) ≡ insert_entry nat_cmp (es ++ keyed xs) k a
    replaced_at a e =
        ap (λ l. es ++ l) (keyed-split (take i xs) (drop (suc i) xs) a k e)
        ∙ sym (append_assoc es (keyed (take i xs)) ((k, a) ∷ behind))
        ∙ sym (ap (λ l. insert_entry nat_cmp l k a) split ∙ insert-between k (get_or xs i x) a before behind below)

    pub removed_at : es ++ keyed (take i xs ++ drop (suc i) xs) ≡ remove_entry (at k) (es ++ keyed xs)
    removed_at =
        ap (λ l. es ++ l) (keyed-append (take i xs) (drop (suc i) xs))
        ∙ sym (append_assoc es (keyed (take i xs)) behind)
        ∙ sym (ap (remove_entry (at k)) split ∙ remove-between k (get_or xs i x) before behind below)

  -- ---- a search in a row

  key_at : (xs : List (Arc FrameData A)) (i : ℕ) (d : Arc FrameData A)
      → get_or (keys_of (keyed xs)) i (key d) ≡ key (get_or xs i d)
  key_at [] i d = refl
  key_at (a ∷ xs) zero d = refl
  key_at (a ∷ xs) (suc i) d = key_at xs i d

  as_many : (xs : List (Arc FrameData A)) → length (keys_of (keyed xs)) ≡ length xs
  as_many [] = refl
  as_many (a ∷ xs) = ap suc (as_many xs)

  rises : (xs : List (Arc FrameData A)) (k : ℕ) → IsStrictlySortedBy nat_cmp (keys_of (keyed xs))
      → IsNonDecreasingBy (λ a. ordering_index (nat_cmp (key a) k)) xs
  rises xs k sorted i j d low high = by (nat_lt i j) refl where
    less : i < j → nat_cmp (key (get_or xs i d)) (key (get_or xs j d)) ≡ Less
    less lt = (λ t. nat_cmp (sym (key_at xs i d) t) (sym (key_at xs j d) t)) ∙ Less-from_sorted nat_cmp
        (keys_of (keyed xs)) i j (key d) sorted lt (subst (λ n. j < n) (sym (as_many xs)) high)

    by : (b : Bool) → nat_lt i j ≡ b
        → ordering_index (nat_cmp (key (get_or xs i d)) k) ≤ ordering_index (nat_cmp (key (get_or xs j d)) k)
    by true e = up (key (get_or xs i d)) (key (get_or xs j d)) k (less (is_less i j e))
    by false e = subst (λ m. ordering_index (nat_cmp (key (get_or xs i d)) k)
        ≤ ordering_index (nat_cmp (key (get_or xs m d)) k)) (is_same i j low e) (omega arith)

  none_keyed : (k : ℕ) (xs : List (Arc FrameData A))
      → ((j : ℕ) (d : Arc FrameData A) → j < length xs → at k (key (get_or xs j d)) ≡ false)
      → lookup (at k) (keyed xs) ≡ None
  none_keyed k [] h = refl
  none_keyed k (a ∷ xs) h = ap (λ b. cond b (Some a) (lookup (at k) (keyed xs))) (h 0 a (omega arith))
      ∙ none_keyed k xs (λ j d lt. h (suc j) d (omega arith))

  pub none_found : (xs : List (Arc FrameData A)) (k i : ℕ) → IsStrictlySortedBy nat_cmp (keys_of (keyed xs))
      → IsBinarySearchResult (λ a. nat_cmp (key a) k) xs (Err i) → i ≤ length xs → lookup (at k) (keyed xs) ≡ None
  none_found xs k i sorted found range = none_keyed k xs (λ j d lt. by j d lt (nat_lt j i) refl) where
    by : (j : ℕ) (d : Arc FrameData A) → j < length xs → (b : Bool) → nat_lt j i ≡ b
        → at k (key (get_or xs j d)) ≡ false
    by j d lt true e = lower (key (get_or xs j d)) k ((found (rises xs k sorted)).0 j d (omega arith) (is_less j i e))
    by j d lt false e = higher (key (get_or xs j d)) k ((found (rises xs k sorted)).1 j d (no_less i j e) lt)

  pub some_found : (xs : List (Arc FrameData A)) (k i : ℕ) → IsBinarySearchResult (λ a. nat_cmp (key a) k) xs (Ok i)
      → HoldsAt (λ a. key a ≡ k) xs i
  some_found xs k i found d = tied (key (get_or xs i d)) k (found d)

  module _ (es : List (ℕ × Arc FrameData A)) (xs : List (Arc FrameData A))
      (k i : ℕ) (found : (i < length xs) × HoldsAt (λ a. key a ≡ k) xs i)
      (sorted : IsStrictlySortedBy nat_cmp (keys_of (es ++ keyed xs))) where
    pub got_at : (o : Option (Bor (Arc FrameData A))) → IsSome o → IfSome o (λ x. x.now ≡ get_or xs i x.now)
        → option_copied o ≡ lookup (at k) (es ++ keyed xs)
    got_at None some is = cc
    got_at (Some x) some is = ap Some is ∙ sym (found_at es xs k i x.now found.0 (found.1 x.now) sorted)

    pub taken_at : (o : Option (Arc FrameData A)) → IsSome o → IfSome o (λ x. x ≡ get_or xs i x)
        → o ≡ lookup (at k) (es ++ keyed xs)
    taken_at None some is = cc
    taken_at (Some x) some is = ap Some is ∙ sym (found_at es xs k i x found.0 (found.1 x) sorted)

  pub rest_at : (es : List (ℕ × Arc FrameData A)) (xs ys : List (Arc FrameData A)) (k i : ℕ)
      → (i < length xs) × HoldsAt (λ a. key a ≡ k) xs i → IsStrictlySortedBy nat_cmp (keys_of (es ++ keyed xs))
      → (o : Option (Arc FrameData A)) → IsSome o → OnSome o (ys ≡ remove xs i)
      → es ++ keyed ys ≡ remove_entry (at k) (es ++ keyed xs)
  rest_at es xs ys k i found sorted None some is = cc
  rest_at es xs ys k i found sorted (Some x) some is =
      ap (λ l. es ++ keyed l) is ∙ removed_at es xs k i x found.0 (found.1 x) sorted

  pub values-rows : (es : List (ℕ × Arc FrameData A)) (xs : List (Arc FrameData A))
      → values_of (es ++ keyed xs) ≡ values_of es ++ xs
  values-rows [] [] = refl
  values-rows [] (x ∷ xs) = ap (λ l. x ∷ l) (values-rows [] xs)
  values-rows (e ∷ es) xs = ap (λ l. e.1 ∷ l) (values-rows es xs)

  pub zipped : (es fs : List (ℕ × Arc FrameData A)) (xs ys : List (Arc FrameData A))
      → AllZip (λ p q. (q.0 ≡ p.0) × (arc_value q.1 ≡ arc_value p.1)) es fs
      → AllZip (λ a b. arc_value b ≡ arc_value a) xs ys
      → AllZip (λ p q. (q.0 ≡ p.0) × (arc_value q.1 ≡ arc_value p.1)) (es ++ keyed xs) (fs ++ keyed ys)
  zipped [] [] [] [] h r = tt
  zipped [] [] (x ∷ xs) (y ∷ ys) h (same, others) =
      ((ap (λ v. index_of (frame_of v)) same, same), zipped [] [] xs ys tt others)
  zipped [] [] [] (y ∷ ys) h r = absurd r
  zipped [] [] (x ∷ xs) [] h r = absurd r
  zipped (e ∷ es) (f ∷ fs) xs ys (same, others) r = (same, zipped es fs xs ys others r)
  zipped [] (f ∷ fs) xs ys h r = absurd h
  zipped (e ∷ es) [] xs ys h r = absurd h

  keys_cloned : (es fs : List (ℕ × Arc FrameData A))
      → AllZip (λ p q. (q.0 ≡ p.0) × (arc_value q.1 ≡ arc_value p.1)) es fs → keys_of fs ≡ keys_of es
  keys_cloned [] [] h = refl
  keys_cloned [] (f ∷ fs) h = absurd h
  keys_cloned (e ∷ es) [] h = absurd h
  keys_cloned (e ∷ es) (f ∷ fs) h = λ i. h.0.0 i ∷ keys_cloned es fs h.1 i

  -- rows that stay in order: with one more frame, with another frame at an index, without one, and copied

  -- the rows stay sorted with an index above all behind them
  pub sorted-pushed : (es : List (ℕ × Arc FrameData A)) (xs ys : List (Arc FrameData A)) (a : Arc FrameData A)
      → ys ≡ xs ++ a ∷ [] → AreBelow (key a) (es ++ keyed xs) → IsStrictlySortedBy nat_cmp (keys_of (es ++ keyed xs))
      → IsStrictlySortedBy nat_cmp (keys_of (es ++ keyed ys))
  sorted-pushed es xs ys a more low sorted =
      let rows : (es ++ keyed xs) ++ (key a, a) ∷ [] ≡ es ++ keyed ys = append_assoc es (keyed xs) ((key a, a) ∷ [])
      ∙ ap (λ l. es ++ l) (sym (keyed-append xs (a ∷ []))) ∙ ap (λ l. es ++ keyed l) (sym more) in
      subst (λ l. IsStrictlySortedBy nat_cmp (keys_of l)) rows (sorted-last (key a) a (es ++ keyed xs) low sorted)

  -- the frame stands in the map, which may have no memory for it
  pub sorted-replaced : {X Y : Type 0} (es fs : List (ℕ × Arc FrameData A)) (xs : List (Arc FrameData A))
      (k : ℕ) (a : Arc FrameData A) (r : Result X Y) → OnOk r (fs ≡ insert_entry nat_cmp es k a) → OnErr r (fs ≡ es)
      → IsSome (lookup (at k) es)
      → IsStrictlySortedBy nat_cmp (keys_of (es ++ keyed xs)) → IsStrictlySortedBy nat_cmp (keys_of (fs ++ keyed xs))
  sorted-replaced es fs xs k a (Ok o) put kept there sorted =
      sorted-inserted k a (es ++ keyed xs) (fs ++ keyed xs)
      (ap (λ l. l ++ keyed xs) put ∙ sym (insert-first k a es (keyed xs) there)) sorted
  sorted-replaced es fs xs k a (Err e) put kept there sorted =
      subst (λ l. IsStrictlySortedBy nat_cmp (keys_of (l ++ keyed xs))) (sym kept) sorted

  -- copied entries are sorted
  pub sorted-cloned : (es fs : List (ℕ × Arc FrameData A))
      → AllZip (λ p q. (q.0 ≡ p.0) × (arc_value q.1 ≡ arc_value p.1)) es fs → IsStrictlySortedBy nat_cmp (keys_of es)
      → IsStrictlySortedBy nat_cmp (keys_of fs)
  sorted-cloned es fs h sorted = subst (λ ks. IsStrictlySortedBy nat_cmp ks) (sym (keys_cloned es fs h)) sorted

  -- the first of a row, put to those in front of it
  pub aside : (es fs : List (ℕ × Arc FrameData A)) (xs ys : List (Arc FrameData A)) (a : Arc FrameData A) (k : ℕ)
      → k ≡ key a → xs ≡ a ∷ ys → fs ≡ insert_entry nat_cmp es k a
      → IsStrictlySortedBy nat_cmp (keys_of (es ++ keyed xs)) → fs ++ keyed ys ≡ es ++ keyed xs
  aside es fs xs ys a k e first put sorted =
      let whole : es ++ keyed xs ≡ es ++ (k, a) ∷ keyed ys =
      ap (λ l. es ++ keyed l) first ∙ ap (λ j. es ++ (j, a) ∷ keyed ys) (sym e) in
      let below = below_sorted k a es (keyed ys) (subst (λ l. IsStrictlySortedBy nat_cmp (keys_of l)) whole sorted) in
      ap (λ l. l ++ keyed ys) (put ∙ insert-last k a es below) ∙ append_assoc es ((k, a) ∷ []) (keyed ys) ∙ sym whole
