-- Places among ranks in order.
use Rattle.std.proofs.Common.{◌≡◌, ℕ, zero, suc, ◌<◌, ◌≤◌, Bool, true, false, List, [], ◌∷◌, length, get_or, refl, sym, ap, subst, ◌∙◌, arith}
use Rattle.std.specs.Prelude.{nat_lt, Option, Some, ◌||◌, ◌-◌}
use Rattle.std.specs.Option.{option_map_or}
use Rattle.std.specs.List.{insert}
use Rattle.std.specs.List.Sorted.{IsStrictlySortedBy, IsPartitionedBy, IsPartitionPoint}
use Rattle.std.specs.declared.cmp.Ordering.{Ordering}
use Rattle.std.specs.declared.cmp.Ordering.TheVariants.{Less, Equal, Greater}
use Rattle.std.specs.Ordering.{is_le, is_lt, ordering_reverse}
use Rattle.std.specs.Cmp.{IsTotalOrder, nat_cmp_total, int_cmp_total, on_total, then_total, back_total, alike_right}
use Rattle.std.proofs.lemmas.Map.Keys.{Less-from_sorted}
use Rattle.puffin_view.specs.declared.profile_view.slow_rank.SlowRank.{SlowRank}
use Rattle.puffin_view.specs.View.Ranking.{place, last_in}
use Rattle.puffin_view.specs.inner.Ranks.{is_before, rank_enters}
use Rattle.puffin_view.specs.View.FrameRanks.{rank_cmp}

pub rank_cmp_total : IsTotalOrder rank_cmp
rank_cmp_total = then_total (on_total (λ (r : SlowRank). r.duration_ns.0) (back_total int_cmp_total))
    (on_total (λ (r : SlowRank). r.frame_index) nat_cmp_total)

true≢false : true ≡ false → ⊥
true≢false e = cc

-- whether a rank doesn't come before another
abbrev pub is_up_to : SlowRank → SlowRank → Bool
is_up_to r s = is_le (rank_cmp s r)

up_to_below : (a b r : SlowRank) → rank_cmp a b ≡ Less → is_up_to r b ≡ true → is_up_to r a ≡ true
up_to_below a b r below h = at (rank_cmp b r) refl where
  at : (o : Ordering) → rank_cmp b r ≡ o → is_up_to r a ≡ true
  at Less e = ap is_le (rank_cmp_total.trans a b r below e)
  at Equal e = ap is_le (sym (alike_right rank_cmp_total b r a e)) ∙ ap is_le below
  at Greater e = absurd (true≢false (sym h ∙ ap is_le e))

is_less : (i j : ℕ) → nat_lt i j ≡ true → i < j
is_less i j e = grind arith

is_same : (i j : ℕ) → i ≤ j → nat_lt i j ≡ false → i ≡ j
is_same i j h e = grind arith

pub partitioned : (r : SlowRank) (xs : List SlowRank) → IsStrictlySortedBy rank_cmp xs → IsPartitionedBy (is_up_to r) xs
partitioned r xs sorted i j d low high h = at (nat_lt i j) refl where
  at : (b : Bool) → nat_lt i j ≡ b → is_up_to r (get_or xs i d) ≡ true
  at true e =
      up_to_below (get_or xs i d) (get_or xs j d) r (Less-from_sorted rank_cmp xs i j d sorted (is_less i j e) high) h
  at false e = subst (λ k. is_up_to r (get_or xs k d) ≡ true) (sym (is_same i j low e)) h

not_up_to : (r s : SlowRank) → is_up_to r s ≡ false → is_before r s ≡ true
not_up_to r s h = at (rank_cmp s r) refl where
  at : (o : Ordering) → rank_cmp s r ≡ o → is_before r s ≡ true
  at Less e = absurd (true≢false (sym (ap is_le e) ∙ h))
  at Equal e = absurd (true≢false (sym (ap is_le e) ∙ h))
  at Greater e = ap is_lt (rank_cmp_total.antisymm r s ∙ ap ordering_reverse e)

up_to : (r s : SlowRank) → is_up_to r s ≡ true → is_before r s ≡ false
up_to r s h = at (rank_cmp s r) refl where
  at : (o : Ordering) → rank_cmp s r ≡ o → is_before r s ≡ false
  at Less e = ap is_lt (rank_cmp_total.antisymm r s ∙ ap ordering_reverse e)
  at Equal e = ap is_lt (rank_cmp_total.antisymm r s ∙ ap ordering_reverse e)
  at Greater e = absurd (true≢false (sym h ∙ ap is_le e))

none_below : (k : ℕ) → k < 0 → ⊥
none_below k h = omega arith

-- inserting at the partition point is placing in order
placed_at : (r : SlowRank) (xs : List SlowRank) (i : ℕ)
    → i ≤ length xs → ((k : ℕ) (d : SlowRank) → k < i → is_up_to r (get_or xs k d) ≡ true)
    → ((k : ℕ) (d : SlowRank) → i ≤ k → k < length xs → is_up_to r (get_or xs k d) ≡ false)
    → insert xs i r ≡ place is_before r xs
placed_at r [] zero h low high = refl
placed_at r [] (suc i) h low high = absurd (none_below i (omega arith))
placed_at r (x ∷ xs) zero h low high = rw (not_up_to r x (high 0 x (omega arith) (omega arith))) refl
placed_at r (x ∷ xs) (suc i) h low high =
    rw (up_to r x (low 0 x (omega arith))) (ap (λ ys. x ∷ ys) (placed_at r xs i (omega arith)
    (λ k d b. low (suc k) d (omega arith)) (λ k d a b. high (suc k) d (omega arith) (omega arith))))

pub placed_at_point : (r : SlowRank) (xs : List SlowRank) (i : ℕ)
    → i ≤ length xs → IsPartitionPoint (λ y. is_up_to r y ≡ true) (λ y. is_up_to r y ≡ false) xs i
    → insert xs i r ≡ place is_before r xs
placed_at_point r xs i h point = placed_at r xs i h (λ k d b. point.0 k d (omega arith) b) (λ k d a b. point.1 k d a b)

not_room : (k : ℕ) (rs : List SlowRank) → k ≤ length rs → nat_lt (length rs) k ≡ false
not_room k rs h = grind arith

neither_in : (a : Bool) (o p : Option SlowRank) (n : SlowRank → Bool) → a ≡ false → o ≡ p
    → (a || option_map_or n o false) ≡ option_map_or n p false
neither_in true o p n e q = absurd (true≢false e)
neither_in false o p n e q = ap (λ r. option_map_or n r false) q

-- where there is no room, a rank comes among the others where it comes before the last
pub enters_before : (k : ℕ) (rs : List SlowRank) (r last : SlowRank) → k ≤ length rs → last_in rs ≡ Some last
    → is_before r last ≡ rank_enters k rs r
enters_before k rs r last full got =
    sym (neither_in (nat_lt (length rs) k) (last_in rs) (Some last) (λ s. is_before r s) (not_room k rs full) got)

no_below : (k : ℕ) → k < 0 → ⊥
no_below k h = omega arith

last_or : {A : Type 0} (hs : List A) (a : A) → 0 < length hs → a ≡ get_or hs (length hs - 1) a → last_in hs ≡ Some a
last_or [] a h e = absurd (no_below 0 h)
last_or (x ∷ []) a h e = ap Some (sym e)
last_or (x ∷ (y ∷ ys)) a h e =
    let less : length (x ∷ (y ∷ ys)) - 1 ≡ suc (length (y ∷ ys) - 1) = omega arith in
    let P : ℕ → Type 0 = λ n. a ≡ get_or (x ∷ (y ∷ ys)) n a in
    last_or (y ∷ ys) a (omega arith) (subst P less e)

pub last_or_of : {A : Type 0} (hs : List A) (n : ℕ) (a : A) → n ≡ length hs → 0 < n → a ≡ get_or hs (n - 1) a
    → last_in hs ≡ Some a
last_or_of hs n a e h k =
    let P : ℕ → Type 0 = λ m. 0 < m in
    let Q : ℕ → Type 0 = λ m. a ≡ get_or hs (m - 1) a in
    last_or hs a (subst P e h) (subst Q e k)
