-- What a binary search says of ranks and indices in order.
use Rattle.std.proofs.Common.{◌≡◌, ℕ, ◌<◌, ◌≤◌, Bool, true, false, cond, ◌||◌, ℤ, suc, List, [], ◌∷◌, length, map, get_or, Result, Ok, Err, Option, Some, None, refl, sym, ap, ◌∙◌, subst, arith}
use Rattle.std.specs.Prelude.{nat_eq, nat_lt}
use Rattle.std.specs.Result.{is_ok}
use Rattle.std.specs.Option.{option_map}
use Rattle.std.specs.List.{AllByRecursion, list_any}
use Rattle.std.specs.List.Sorted.{IsStrictlySortedBy, IsBinarySearchResult, IsSearchInRange, IsNonDecreasingBy}
use Rattle.std.specs.declared.cmp.Ordering.{Ordering}
use Rattle.std.specs.declared.cmp.Ordering.TheVariants.{Less, Equal, Greater}
use Rattle.std.specs.Ordering.{is_eq, is_le, ordering_index, ordering_reverse, nat_cmp, int_cmp, ordering_then}
use Rattle.std.specs.Cmp.{IsTotalOrder, nat_cmp_total, alike_right, tied_itself}
use Rattle.std.specs.FinMap as fin
use Rattle.std.proofs.lemmas.List.Folds.{list_any_at}
use Rattle.std.proofs.lemmas.Map.Keys.{Less-from_sorted, sorted_head, sorted_tail}
use Rattle.puffin_view.specs.declared.profile_view.slow_rank.SlowRank.{SlowRank}
use Rattle.puffin_view.specs.View.ViewedFrames.{Frame, index_of, duration_of}
use Rattle.puffin_view.specs.inner.Held.{HeldFrames}
use Rattle.puffin_view.specs.inner.Ranks.{AreRanked, LetsGo}
use Rattle.puffin_view.specs.View.FrameRanks.{rank_of, rank_cmp}
use Rattle.puffin_view.specs.View.Ranking.{rank_index, has_number, last_from, last_in}
use Rattle.puffin_view.specs.inner.Kept.{AreRising}
use Rattle.puffin_view.specs.inner.Store.{AreHeld, AreStored}
use Rattle.puffin_view.proofs.Placing.{rank_cmp_total}
use Rattle.puffin_view.proofs.Members.{equal_to, one_some, all_last_from}

true≢false : true ≡ false → ⊥
true≢false e = cc

module _ {K : Type 0} (R : K → K → Ordering) (o : IsTotalOrder R) where
  is_less : (i j : ℕ) → nat_lt i j ≡ true → i < j
  is_less i j e = grind arith

  is_same : (i j : ℕ) → i ≤ j → nat_lt i j ≡ false → i ≡ j
  is_same i j h e = grind arith

  up_by : (a b x : K) (r : Ordering) → R a b ≡ Less → R b x ≡ r → ordering_index (R a x) ≤ ordering_index r
  up_by a b x Less below e = rw (o.trans a b x below e) (omega arith)
  up_by a b x Equal below e = rw (sym (alike_right o b x a e) ∙ below) (omega arith)
  up_by a b x Greater below e = top (R a x) where
    top : (s : Ordering) → ordering_index s ≤ 2
    top Less = omega arith
    top Equal = omega arith
    top Greater = omega arith

  rises : (xs : List K) (x : K) → IsStrictlySortedBy R xs → IsNonDecreasingBy (λ y. ordering_index (R y x)) xs
  rises xs x sorted i j d low high = at (nat_lt i j) refl where
    at : (b : Bool) → nat_lt i j ≡ b → ordering_index (R (get_or xs i d) x) ≤ ordering_index (R (get_or xs j d) x)
    at true e = up_by (get_or xs i d) (get_or xs j d) x (R (get_or xs j d) x)
        (Less-from_sorted R xs i j d sorted (is_less i j e) high) refl
    at false e = subst (λ k. ordering_index (R (get_or xs i d) x) ≤ ordering_index (R (get_or xs k d) x))
        (is_same i j low e) (omega arith)

  none_at : (p : K → Bool) (xs : List K) → ((k : ℕ) (d : K) → k < length xs → p (get_or xs k d) ≡ false)
      → list_any p xs ≡ false
  none_at p [] h = refl
  none_at p (x ∷ xs) h = neither (p x) (h 0 x (omega arith)) (none_at p xs (λ k d b. h (suc k) d (omega arith))) where
    neither : (b : Bool) → b ≡ false → list_any p xs ≡ false → (b || list_any p xs) ≡ false
    neither true e later = absurd (true≢false e)
    neither false e later = later

  -- a search in a list in order finds one that is equal where there is one
  pub searched : (xs : List K) (x : K) (r : Result ℕ ℕ) → IsStrictlySortedBy R xs → IsSearchInRange r (length xs)
      → IsBinarySearchResult (λ y. R y x) xs r → is_ok r ≡ list_any (λ y. is_eq (R y x)) xs
  searched xs x (Ok i) sorted range found = sym (list_any_at (λ y. is_eq (R y x)) xs i x range (ap is_eq (found x)))
  searched xs x (Err i) sorted range found =
      sym (none_at (λ y. is_eq (R y x)) xs (λ k d b. at k d b (nat_lt k i) refl)) where
        no_less : (k : ℕ) → nat_lt k i ≡ false → i ≤ k
        no_less k e = grind arith

        at : (k : ℕ) (d : K) → k < length xs → (b : Bool) → nat_lt k i ≡ b → is_eq (R (get_or xs k d) x) ≡ false
        at k d b true e = ap is_eq ((found (rises xs x sorted)).0 k d (omega arith) (is_less k i e))
        at k d b false e = ap is_eq ((found (rises xs x sorted)).1 k d (no_less k e) b)

any_alike : {A : Type 0} (p q : A → Bool) (P : A → Type 0) → ((a : A) → P a → p a ≡ q a) → (xs : List A)
    → AllByRecursion P xs → list_any p xs ≡ list_any q xs
any_alike p q P same [] h = refl
any_alike p q P same (x ∷ xs) (first, others) = λ j. same x first j || any_alike p q P same xs others j

-- indices
eq_numbers : (a b : ℕ) → is_eq (nat_cmp a b) ≡ nat_eq a b
eq_numbers a b = grind arith

any_number : (i : ℕ) (is : List ℕ) → list_any (λ k. is_eq (nat_cmp k i)) is ≡ list_any (λ k. nat_eq k i) is
any_number i [] = refl
any_number i (k ∷ is) = λ j. eq_numbers k i j || any_number i is j

-- a binary search of sorted indices finds one exactly if it is there
pub searched_index : (is : List ℕ) (i n : ℕ) (r : Result ℕ ℕ) → n ≡ length is → IsStrictlySortedBy nat_cmp is
    → IsSearchInRange r n → IsBinarySearchResult (λ k. nat_cmp k i) is r → is_ok r ≡ list_any (λ k. nat_eq k i) is
searched_index is i n r as_many sorted range found =
    searched nat_cmp nat_cmp_total is i r sorted (subst (IsSearchInRange r) as_many range) found ∙ any_number i is

-- a binary search of sorted ranks finds one exactly if it is there
pub searched_rank : (slow : List SlowRank) (x : SlowRank) (n : ℕ) (r : Result ℕ ℕ) → n ≡ length slow
    → IsStrictlySortedBy rank_cmp slow → IsSearchInRange r n → IsBinarySearchResult (λ y. rank_cmp y x) slow r
    → is_ok r ≡ list_any (λ y. is_eq (rank_cmp y x)) slow
searched_rank slow x n r as_many sorted range found =
    searched rank_cmp rank_cmp_total slow x r sorted (subst (IsSearchInRange r) as_many range) found

-- behind the last of a list in order, a rank is none of it
less_than : (x l : SlowRank) → is_le (rank_cmp x l) ≡ false → rank_cmp l x ≡ Less
less_than x l p = at (rank_cmp x l) refl where
  at : (o : Ordering) → rank_cmp x l ≡ o → rank_cmp l x ≡ Less
  at Less e = absurd (true≢false (sym (ap is_le e) ∙ p))
  at Equal e = absurd (true≢false (sym (ap is_le e) ∙ p))
  at Greater e = rank_cmp_total.antisymm l x ∙ ap ordering_reverse e

behind : (slow : List SlowRank) (x l : SlowRank) → IsStrictlySortedBy rank_cmp slow → last_in slow ≡ Some l
    → rank_cmp l x ≡ Less → list_any (λ y. is_eq (rank_cmp y x)) slow ≡ false
behind [] x l sorted e p = cc
behind (a ∷ []) x l sorted e p = rw (ap (λ r. rank_cmp r x) (one_some a l e) ∙ p) refl
behind (a ∷ (b ∷ rest)) x l sorted e p =
    let far : rank_cmp a l ≡ Less = subst (λ r. rank_cmp a r ≡ Less) (one_some (last_from b rest) l e)
    (all_last_from (λ r. rank_cmp a r ≡ Less) b rest (sorted_head rank_cmp a (b ∷ rest) sorted)) in
    rw (rank_cmp_total.trans a l x far p) (behind (b ∷ rest) x l (sorted_tail rank_cmp a (b ∷ rest) sorted) e p)

-- a rank that comes after the last is not there
pub none_behind : (slow : List SlowRank) (x l : SlowRank) → IsStrictlySortedBy rank_cmp slow → last_in slow ≡ Some l
    → is_le (rank_cmp x l) ≡ false → list_any (λ y. is_eq (rank_cmp y x)) slow ≡ false
none_behind slow x l sorted e p = behind slow x l sorted e (less_than x l p)

-- a rank of the frame that is held under an index
other_index : (a b : ℤ) (i j : ℕ) → nat_eq i j ≡ false → is_eq (ordering_then (int_cmp b a) (nat_cmp i j)) ≡ false
other_index a b i j e = at (int_cmp b a) where
  at : (o : Ordering) → is_eq (ordering_then o (nat_cmp i j)) ≡ false
  at Less = refl
  at Equal = eq_numbers i j ∙ e
  at Greater = refl

by_index : (held : HeldFrames) (f : Frame) (i : ℕ) (x s : SlowRank) → fin.get held i ≡ Some f
    → x.duration_ns.0 ≡ duration_of f → x.frame_index ≡ i → option_map rank_of (fin.get held (rank_index s)) ≡ Some s
    → is_eq (rank_cmp s x) ≡ nat_eq s.frame_index i
by_index held f i x s there long at_i ranked = by (nat_eq s.frame_index i) refl where
  whole : rank_of f ≡ s → s.frame_index ≡ i → x ≡ s
  whole same e =
      (λ j. record { duration_ns = record { 0 = long j }; frame_index = (at_i ∙ sym e ∙ ap rank_index (sym same)) j })
      ∙ same

  by : (b : Bool) → nat_eq s.frame_index i ≡ b → is_eq (rank_cmp s x) ≡ b
  by true e =
      let same : rank_of f ≡ s = one_some (rank_of f) s (sym (ap (λ k. option_map rank_of (fin.get held k))
      (equal_to s.frame_index i e) ∙ ap (option_map rank_of) there) ∙ ranked) in
      ap is_eq (ap (rank_cmp s) (whole same (equal_to s.frame_index i e)) ∙ tied_itself rank_cmp_total s)
  by false e =
      other_index s.duration_ns.0 x.duration_ns.0 s.frame_index x.frame_index (ap (nat_eq s.frame_index) at_i ∙ e)

-- the rank of the frame held under an index is there exactly if a rank with this index is
pub any_at_index : (held : HeldFrames) (f : Frame) (i : ℕ) (x : SlowRank) (slow : List SlowRank)
    → AreRanked held slow → fin.get held i ≡ Some f → x.duration_ns.0 ≡ duration_of f → x.frame_index ≡ i
    → list_any (λ s. is_eq (rank_cmp s x)) slow ≡ list_any (λ s. nat_eq s.frame_index i) slow
any_at_index held f i x slow ranked there long at_i =
    any_alike (λ s. is_eq (rank_cmp s x)) (λ s. nat_eq s.frame_index i) (λ s. option_map rank_of
    (fin.get held (rank_index s)) ≡ Some s) (λ s h. by_index held f i x s there long at_i h) slow ranked

-- no rank has an index under which nothing is held
pub none_at_index : (held : HeldFrames) (i : ℕ) (slow : List SlowRank) → AreRanked held slow → fin.get held i ≡ None
    → false ≡ list_any (λ s. nat_eq s.frame_index i) slow
none_at_index held i [] ranked gone = refl
none_at_index held i (s ∷ slow) (is_ranked, are_ranked) gone =
    by (nat_eq s.frame_index i) refl (none_at_index held i slow are_ranked gone) where
      none_is : None ≡ Some s → ⊥
      none_is e = cc

      by : (b : Bool) → nat_eq s.frame_index i ≡ b → false ≡ list_any (λ s. nat_eq s.frame_index i) slow
          → false ≡ (b || list_any (λ s. nat_eq s.frame_index i) slow)
      by true e later = absurd (none_is (sym (ap (λ k. option_map rank_of (fin.get held k)) (equal_to s.frame_index i e)
          ∙ ap (option_map rank_of) gone) ∙ is_ranked))
      by false e later = later

-- what is stored is in order and ranked
pub indices_rise : (fs : List Frame) → AreRising fs → IsStrictlySortedBy nat_cmp (map index_of fs)
unfolding IsStrictlySortedBy
indices_rise [] h = tt
indices_rise (f ∷ fs) h = (above fs h.0, indices_rise fs h.1) where
  less : (a b : ℕ) → a < b → nat_cmp a b ≡ Less
  less a b h = grind arith

  above : (gs : List Frame) → AllByRecursion (λ g. index_of f < index_of g) gs
      → AllByRecursion (λ i. nat_cmp (index_of f) i ≡ Less) (map index_of gs)
  above [] h = tt
  above (g ∷ gs) (low, lows) = (less (index_of f) (index_of g) low, above gs lows)

frames_ranked : (held : HeldFrames) (fs : List Frame) → AreHeld (fin.get held) fs → AreRanked held (map rank_of fs)
frames_ranked held [] h = tt
frames_ranked held (f ∷ fs) (is_held, are_held) = (ap (option_map rank_of) is_held, frames_ranked held fs are_held)

module _ (held : HeldFrames) (recent : List ℕ) (slow : List SlowRank) (last : Option ℕ) (R S : List Frame)
    (h : AreStored held recent slow last R S) where
  pub stored_rising : IsStrictlySortedBy nat_cmp recent
  stored_rising = subst (IsStrictlySortedBy nat_cmp) (sym h.recent_at) (indices_rise R h.kept.rising)

  pub stored_ranked : AreRanked held slow
  stored_ranked = subst (AreRanked held) (sym h.slow_at) (frames_ranked held S h.slow_held)

-- letting go keeps what stays
has_itself : (r : SlowRank) (slow : List SlowRank) → has_number (rank_index r) (map rank_index (r ∷ slow)) ≡ true
has_itself r slow =
    ap (λ b. b || has_number (rank_index r) (map rank_index slow)) (same (rank_index r) (rank_index r) refl) where
      same : (a b : ℕ) → a ≡ b → nat_eq a b ≡ true
      same a b e = grind arith

all_kept : (P Q : SlowRank → Type 0) (slow : List SlowRank)
    → ((r : SlowRank) → has_number (rank_index r) (map rank_index slow) ≡ true → P r → Q r) → AllByRecursion P slow
    → AllByRecursion Q slow
all_kept P Q [] k h = tt
all_kept P Q (r ∷ slow) k (first, others) = (
  k r (has_itself r slow) first,
  all_kept P Q slow (λ s e. k s
      (later (nat_eq (rank_index s) (rank_index r)) (has_number (rank_index s) (map rank_index slow)) e)) others,
) where
  later : (a b : Bool) → b ≡ true → (a || b) ≡ true
  later true b e = refl
  later false b e = e

-- what stays held keeps its rank
pub still_ranked : (old new : HeldFrames) (slow : List SlowRank) (gone : List ℕ)
    → LetsGo old (map rank_index slow) gone new → AreRanked old slow → AreRanked new slow
still_ranked old new slow gone go ranked =
    all_kept (λ r. option_map rank_of (fin.get old (rank_index r)) ≡ Some r)
    (λ r. option_map rank_of (fin.get new (rank_index r)) ≡ Some r) slow
    (λ r there h. ap (option_map rank_of) (go (rank_index r) ∙ ap (λ b. cond b (fin.get old (rank_index r))
    (cond (has_number (rank_index r) gone) None (fin.get old (rank_index r)))) there) ∙ h) ranked
