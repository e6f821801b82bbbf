-- Which frames a view lets go as it cuts its lists, and what is kept then.
use Rattle.std.proofs.Common.{◌≡◌, ℕ, zero, suc, ◌+◌, ◌<◌, Bool, true, false, cond, ◌||◌, List, [], ◌∷◌, ◌++◌, length, take, drop, map, Option, Some, None, get_or, refl, sym, ap, subst, ◌∙◌, arith}
use Rattle.std.specs.Prelude.{nat_eq, ◌≢◌}
use Rattle.std.specs.List.{AllByRecursion, list_any}
use Rattle.std.specs.List.Sorted.{IsStrictlySortedBy}
use Rattle.std.specs.Cmp.{nat_cmp_total}
use Rattle.std.specs.FinMap as fin
use Rattle.std.proofs.lemmas.List.{drop-drop, length-drop}
use Rattle.puffin_view.specs.declared.profile_view.slow_rank.SlowRank.{SlowRank}
use Rattle.puffin_view.specs.View.Ranking.{rank_index, has_number}
use Rattle.puffin_view.specs.View.ViewedFrames.{Frame, index_of}
use Rattle.puffin_view.specs.inner.Held.{HeldFrames}
use Rattle.puffin_view.specs.inner.Ranks.{LetsGo}
use Rattle.puffin_view.specs.View.FrameRanks.{rank_of, rank_cmp}
use Rattle.puffin_view.specs.inner.Kept.{AreRising, HaveOwnIndices, IsUpTo}
use Rattle.puffin_view.specs.inner.Store.{has_index, AreStored}
use Rattle.puffin_view.proofs.Members.{true≢false, neither, has-append, has_index-append, has-index_of, has_all, equal_to, apart_to, is_at, all_both, all_first, all_rest, apart_first, rising_rest, sorted_first, none_has}

-- letting go

either_last : (a b : Bool) → (a || (b || false)) ≡ (a || b)
either_last true b = refl
either_last false true = refl
either_last false false = refl

-- one more frame was dropped
pub LetsGo-more : (old mid new : HeldFrames) (stays gone : List ℕ) (i : ℕ) → LetsGo old stays gone mid
    → new ≡ fin.remove mid i → has_number i stays ≡ false → LetsGo old stays (gone ++ i ∷ []) new
LetsGo-more old mid new stays gone i h is out q =
    ap (λ m. fin.get m q) is ∙ fin.get-remove nat_cmp_total mid i q ∙ ap (λ b. cond b None (fin.get mid q)) (is_at q i)
    ∙ at (nat_eq q i) (has_number q stays) (has_number q gone) (h q)
    (λ e. ap (λ k. has_number k stays) (equal_to q i e) ∙ out)
    ∙ ap (λ b. cond (has_number q stays) (fin.get old q) (cond b None (fin.get old q)))
    (sym (has-append q gone (i ∷ []) ∙ either_last (has_number q gone) (nat_eq q i))) where
      at : (b s g : Bool) → fin.get mid q ≡ cond s (fin.get old q) (cond g None (fin.get old q))
          → (b ≡ true → s ≡ false)
          → cond b None (fin.get mid q) ≡ cond s (fin.get old q) (cond (g || b) None (fin.get old q))
      at true true g e out = absurd (true≢false (out refl))
      at true false true e out = refl
      at true false false e out = refl
      at false true g e out = e
      at false false true e out = e
      at false false false e out = e

-- one more frame stayed, since its index is among those that stay
pub LetsGo-kept : (old mid : HeldFrames) (stays gone : List ℕ) (i : ℕ) → LetsGo old stays gone mid
    → has_number i stays ≡ true → LetsGo old stays (gone ++ i ∷ []) mid
LetsGo-kept old mid stays gone i h among q =
    at (nat_eq q i) (has_number q stays) (has_number q gone) (h q)
    (λ e. ap (λ k. has_number k stays) (equal_to q i e) ∙ among)
    ∙ ap (λ b. cond (has_number q stays) (fin.get old q) (cond b None (fin.get old q)))
    (sym (has-append q gone (i ∷ []) ∙ either_last (has_number q gone) (nat_eq q i))) where
      at : (b s g : Bool) → fin.get mid q ≡ cond s (fin.get old q) (cond g None (fin.get old q))
          → (b ≡ true → s ≡ true) → fin.get mid q ≡ cond s (fin.get old q) (cond (g || b) None (fin.get old q))
      at true true g e among = e
      at true false g e among = absurd (true≢false (sym (among refl)))
      at false true g e among = e
      at false false true e among = e
      at false false false e among = e

let_stay : (h k : ℕ → Option Frame) (stays gone : ℕ → Bool)
    → ((q : ℕ) → k q ≡ cond (stays q) (h q) (cond (gone q) None (h q))) → (f : Frame) → stays (index_of f) ≡ true
    → h (index_of f) ≡ Some f → k (index_of f) ≡ Some f
let_stay h k stays gone is f among held =
    is (index_of f) ∙ ap (λ b. cond b (h (index_of f)) (cond (gone (index_of f)) None (h (index_of f)))) among ∙ held

not_gone : (h k : ℕ → Option Frame) (stays gone : ℕ → Bool)
    → ((q : ℕ) → k q ≡ cond (stays q) (h q) (cond (gone q) None (h q))) → (f : Frame) → gone (index_of f) ≡ false
    → h (index_of f) ≡ Some f → k (index_of f) ≡ Some f
not_gone h k stays gone is f out held =
    is (index_of f) ∙ ap (λ b. cond (stays (index_of f)) (h (index_of f)) (cond b None (h (index_of f)))) out
    ∙ at (stays (index_of f)) ∙ held where
      at : (b : Bool) → cond b (h (index_of f)) (h (index_of f)) ≡ h (index_of f)
      at true = refl
      at false = refl

gone_for_all : (s g : Bool) (o : Option Frame) → s ≡ false → (g ≡ false → o ≡ None) → cond s o (cond g None o) ≡ None
gone_for_all true g o out none = absurd (true≢false out)
gone_for_all false true o out none = refl
gone_for_all false false o out none = none refl

-- of the slow frames, the first ones stay
pub stored-cut_slow : (held new : HeldFrames) (recent : List ℕ)
    (slow : List SlowRank) (last : Option ℕ) (R S gone : List Frame) → AreStored held recent slow last R (S ++ gone)
    → LetsGo held (map index_of R) (map index_of gone) new → AreStored new recent (map rank_of S) last R S
stored-cut_slow held new recent slow last R S gone h go =
    let stays : ℕ → Bool = λ q. has_number q (map index_of R) in
    let away : ℕ → Bool = λ q. has_number q (map index_of gone) in
    record {
      recent_at = h.recent_at;
      slow_at = refl;
      recent_held = all_both (λ f. has_index (index_of f) R ≡ true) (λ f. fin.get held (index_of f) ≡ Some f)
          (λ f. fin.get new (index_of f) ≡ Some f)
          (λ f among is. let_stay (fin.get held) (fin.get new) stays away go f (has-index_of (index_of f) R ∙ among)
          is) R (has_all (λ f. has_index (index_of f) R ≡ true) R (λ g e. e)) h.recent_held;
      slow_held = all_both (λ f. has_index (index_of f) gone ≡ false) (λ f. fin.get held (index_of f) ≡ Some f)
          (λ f. fin.get new (index_of f) ≡ Some f)
          (λ f out is. not_gone (fin.get held) (fin.get new) stays away go f (has-index_of (index_of f) gone ∙ out)
          is) S (others S h.kept.apart) (all_first (λ f. fin.get held (index_of f) ≡ Some f) S gone h.slow_held);
      only = λ q out. let both = neither (has_index q R) (has_index q S) (sym (has_index-append q R S) ∙ out) in
          go q ∙ gone_for_all (stays q) (away q) (fin.get held q) (has-index_of q R ∙ both.0)
          (λ none. h.only q (has_index-append q R (S ++ gone)
          ∙ rw both.0 (has_index-append q S gone ∙ rw both.1 (sym (has-index_of q gone) ∙ none))));
      kept = record {
        recent_taken = h.kept.recent_taken;
        slow_taken = all_first (λ f. IsUpTo last (index_of f)) S gone h.kept.slow_taken;
        rising = h.kept.rising;
        apart = apart_first S gone h.kept.apart;
      };
      in_order = ordered;
    } where
      others : (S : List Frame) → HaveOwnIndices (S ++ gone)
          → AllByRecursion (λ f. has_index (index_of f) gone ≡ false) S
      others [] apart = tt
      others (f ∷ S) (is_apart, are_apart) =
          (none_has (index_of f) gone (all_rest (λ g. index_of g ≢ index_of f) S gone is_apart), others S are_apart)

      ranks-append : (S : List Frame) → map rank_of (S ++ gone) ≡ map rank_of S ++ map rank_of gone
      ranks-append [] = refl
      ranks-append (f ∷ S) = ap (λ rs. rank_of f ∷ rs) (ranks-append S)

      ordered : IsStrictlySortedBy rank_cmp (map rank_of S)
      ordered = sorted_first rank_cmp (map rank_of S) (map rank_of gone)
          (subst (λ rs. IsStrictlySortedBy rank_cmp rs) (h.slow_at ∙ ranks-append S) h.in_order)

-- of the recent frames, the last ones stay
pub stored-cut_recent : (held new : HeldFrames) (recent : List ℕ) (slow : List SlowRank) (last : Option ℕ)
    (gone R S : List Frame) → AreStored held recent slow last (gone ++ R) S
    → LetsGo held (map index_of S) (map index_of gone) new → AreStored new (map index_of R) slow last R S
stored-cut_recent held new recent slow last gone R S h go =
    let stays : ℕ → Bool = λ q. has_number q (map index_of S) in
    let away : ℕ → Bool = λ q. has_number q (map index_of gone) in
    record {
      recent_at = refl;
      slow_at = h.slow_at;
      recent_held = all_both (λ f. has_index (index_of f) gone ≡ false) (λ f. fin.get held (index_of f) ≡ Some f)
          (λ f. fin.get new (index_of f) ≡ Some f)
          (λ f out is. not_gone (fin.get held)
          (fin.get new) stays away go f (has-index_of (index_of f) gone ∙ out) is) R (others gone h.kept.rising)
          (all_rest (λ f. fin.get held (index_of f) ≡ Some f) gone R h.recent_held);
      slow_held = all_both (λ f. has_index (index_of f) S ≡ true) (λ f. fin.get held (index_of f) ≡ Some f)
          (λ f. fin.get new (index_of f) ≡ Some f)
          (λ f among is. let_stay (fin.get held) (fin.get new) stays away go f (has-index_of (index_of f) S ∙ among)
          is) S (has_all (λ f. has_index (index_of f) S ≡ true) S (λ g e. e)) h.slow_held;
      only = λ q out. let both = neither (has_index q R) (has_index q S) (sym (has_index-append q R S) ∙ out) in
          go q ∙ gone_for_all (stays q) (away q) (fin.get held q) (has-index_of q S ∙ both.1)
          (λ none. h.only q (has_index-append q (gone ++ R) S ∙ rw both.1 (none_left
          (has_index-append q gone R ∙ rw both.0 (ap (λ b. b || false) (sym (has-index_of q gone) ∙ none))))));
      kept = record {
        recent_taken = all_rest (λ f. IsUpTo last (index_of f)) gone R h.kept.recent_taken;
        slow_taken = h.kept.slow_taken;
        rising = rising_rest gone R h.kept.rising;
        apart = h.kept.apart;
      };
      in_order = h.in_order;
    } where
      none_left : {b : Bool} → b ≡ false → (b || false) ≡ false
      none_left e = rw e refl

      more_gone : (f : Frame) (gone R : List Frame) → AllByRecursion (λ g. index_of f < index_of g) R
          → AllByRecursion (λ g. has_index (index_of g) gone ≡ false) R
          → AllByRecursion (λ g. has_index (index_of g) (f ∷ gone) ≡ false) R
      more_gone f gone [] above out = tt
      more_gone f gone (g ∷ R) above out = (
        rw (apart_to (index_of g) (index_of f) (λ e. above_apart (index_of f) (index_of g) above.0 e)) out.0,
        more_gone f gone R above.1 out.1,
      ) where
        above_apart : (a b : ℕ) → a < b → b ≡ a → ⊥
        above_apart a b low e = omega arith

      others : (gone : List Frame) → AreRising (gone ++ R) → AllByRecursion (λ f. has_index (index_of f) gone ≡ false) R
      others [] rising = has_all (λ f. has_index (index_of f) [] ≡ false) R (λ g e. refl)
      others (f ∷ gone) (is_low, are_rising) =
          more_gone f gone R (all_rest (λ g. index_of f < index_of g) gone R is_low) (others gone are_rising)

-- steps of the loops that cut

no_less : (k : ℕ) → k < 0 → ⊥
no_less k h = omega arith

take_next : {A : Type 0} (xs : List A) (k : ℕ) (d : A) → k < length xs
    → take (suc k) xs ≡ take k xs ++ get_or xs k d ∷ []
take_next [] k d h = absurd (no_less k h)
take_next (x ∷ xs) zero d h = refl
take_next (x ∷ xs) (suc k) d h = ap (λ ys. x ∷ ys) (take_next xs k d (omega arith))

-- a search of a list of indices
pub any_has : (i : ℕ) (is : List ℕ) → list_any (λ y. nat_eq y i) is ≡ has_number i is
any_has i [] = refl
any_has i (x ∷ is) = λ j. flips x i j || any_has i is j where
  flips : (a b : ℕ) → nat_eq a b ≡ nat_eq b a
  flips a b = grind arith

-- a test that passes does not fail
pub unlike : {A : Type 0} {b : Bool} → b ≡ true → b ≡ false → A
unlike e p = absurd (true≢false (sym e ∙ p))

-- a search of the ranks by index is one of their indices
pub any_ranks : (i : ℕ) (rs : List SlowRank)
    → list_any (λ r. nat_eq r.frame_index i) rs ≡ has_number i (map rank_index rs)
any_ranks i [] = refl
any_ranks i (r ∷ rs) = λ j. flips r.frame_index i j || any_ranks i rs j where
  flips : (a b : ℕ) → nat_eq a b ≡ nat_eq b a
  flips a b = grind arith

indices_next : (is : List ℕ) (k i : ℕ) → k < length is → i ≡ get_or is k i → take k is ++ i ∷ [] ≡ take (k + 1) is
indices_next is k i h e =
    ap (λ j. take k is ++ j ∷ []) e ∙ sym (take_next is k i h) ∙ ap (λ n. take n is) (sym (more k)) where
      more : (k : ℕ) → k + 1 ≡ suc k
      more k = omega arith

-- one step of the loop over the first recent frames: the frame is dropped unless it is slow
pub recent_step : (old mid new : HeldFrames) (slow : List SlowRank) (is : List ℕ) (k i : ℕ) (b : Bool)
    → k < length is → i ≡ get_or is k i → LetsGo old (map rank_index slow) (take k is) mid
    → b ≡ list_any (λ r. nat_eq r.frame_index i) slow
    → (b ≡ false → new ≡ fin.remove mid i) → (b ≡ true → new ≡ mid)
    → LetsGo old (map rank_index slow) (take (k + 1) is) new
recent_step old mid new slow is k i b h e go ensured off on =
    let P : List ℕ → Type 0 = λ gone. LetsGo old (map rank_index slow) gone new in
    subst P (indices_next is k i h e) (at b ensured off on) where
      at : (b : Bool) → b ≡ list_any (λ r. nat_eq r.frame_index i) slow → (b ≡ false → new ≡ fin.remove mid i)
          → (b ≡ true → new ≡ mid) → LetsGo old (map rank_index slow) (take k is ++ i ∷ []) new
      at true ensured off on = let Q : HeldFrames
          → Type 0 = λ m. LetsGo old (map rank_index slow) (take k is ++ i ∷ []) m in subst Q (sym (on refl))
          (LetsGo-kept old mid (map rank_index slow) (take k is) i go (sym (any_ranks i slow) ∙ sym ensured))
      at false ensured off on = LetsGo-more old mid new (map rank_index slow) (take k is) i go (off refl)
          (sym (any_ranks i slow) ∙ sym ensured)

drop_next : {A : Type 0} (xs : List A) (k : ℕ) → drop 1 (drop k xs) ≡ drop (k + 1) xs
drop_next xs k = drop-drop 1 k xs

-- the list without one element more in front
pub dropped_next : {A : Type 0} (is xs : List A) (k : ℕ) → is ≡ drop k xs → drop 1 is ≡ drop (k + 1) xs
dropped_next is xs k e = ap (drop 1) e ∙ drop_next xs k

first_of_drop : {A : Type 0} (xs : List A) (k : ℕ) (d : A) → get_or (drop k xs) 0 d ≡ get_or xs k d
first_of_drop [] zero d = refl
first_of_drop [] (suc k) d = refl
first_of_drop (x ∷ xs) zero d = refl
first_of_drop (x ∷ xs) (suc k) d = first_of_drop xs k d

-- the first of what is left
pub first_dropped : (is xs : List ℕ) (k i : ℕ) → is ≡ drop k xs → i ≡ get_or is 0 i → i ≡ get_or xs k i
first_dropped is xs k i e p = p ∙ ap (λ l. get_or l 0 i) e ∙ first_of_drop xs k i

-- something is left
pub some_dropped : (is xs : List ℕ) (k : ℕ) → is ≡ drop k xs → k < length xs → 0 < length is
some_dropped is xs k e h = let n = ap length e ∙ length-drop k xs in omega arith
