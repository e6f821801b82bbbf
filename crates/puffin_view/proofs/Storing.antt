-- A view stores the frames of its two lists: after one more frame, in a view without frames, and as they are found again.
use Rattle.std.proofs.Common.{◌≡◌, ℕ, suc, ◌<◌, ◌≤◌, Bool, true, false, cond, ◌||◌, List, [], ◌∷◌, ◌++◌, length, map, Option, Some, None, refl, sym, ap, subst, ◌∙◌, arith}
use Rattle.std.specs.Prelude.{nat_eq, nat_lt, int_lt, ◌≢◌, IsSome}
use Rattle.std.specs.List.{AllByRecursion}
use Rattle.std.specs.List.Sorted.{IsStrictlySortedBy}
use Rattle.std.specs.declared.cmp.Ordering.{Ordering}
use Rattle.std.specs.declared.cmp.Ordering.TheVariants.{Less, Equal, Greater}
use Rattle.std.specs.Option.{option_map_or}
use Rattle.std.specs.Ordering.{nat_cmp, int_cmp, is_lt, ordering_then, ordering_reverse}
use Rattle.std.specs.Cmp.{nat_cmp_total}
use Rattle.std.specs.FinMap as fin
use Rattle.puffin_view.specs.declared.profile_view.slow_rank.SlowRank.{SlowRank}
use Rattle.puffin_view.specs.View.Ranking.{place, last_from, last_in, rank_index}
use Rattle.puffin_view.specs.View.ViewedFrames.{Frame, index_of, duration_of, is_slower_frame, frames_by_index}
use Rattle.puffin_view.specs.inner.Held.{HeldFrames}
use Rattle.puffin_view.specs.inner.Ranks.{is_before, rank_enters}
use Rattle.puffin_view.specs.View.FrameRanks.{rank_of, rank_cmp}
use Rattle.puffin_view.specs.inner.Kept.{AreRising, HaveOwnIndices}
use Rattle.puffin_view.specs.View.{View, enters_among}
use Rattle.puffin_view.specs.inner.Store.{frames_under, AreHeld, has_index, AreStored}
use Rattle.puffin_view.proofs.Placing.{rank_cmp_total}
use Rattle.puffin_view.proofs.Members.{neither, has_index-append, equal_to, equals, apart_to, is_at, all_map, all_both, all_more, all_place, held_back, map-last_from, last_map, all_last_from, all_last}

-- one frame more

below_apart : (a b : ℕ) → a < b → a ≡ b → ⊥
below_apart a b low e = omega arith

got_more : (held : HeldFrames) (f g : Frame) → index_of g ≢ index_of f → fin.get held (index_of g) ≡ Some g
    → fin.get (fin.insert held (index_of f) f) (index_of g) ≡ Some g
got_more held f g out is = fin.get-insert nat_cmp_total held (index_of f) f (index_of g)
    ∙ ap (λ b. cond b (Some f) (fin.get held (index_of g)))
    (is_at (index_of g) (index_of f) ∙ apart_to (index_of g) (index_of f) out) ∙ is

-- a frame that is put is found
pub got_itself : (held : HeldFrames) (f : Frame) → fin.get (fin.insert held (index_of f) f) (index_of f) ≡ Some f
got_itself held f = fin.get-insert nat_cmp_total held (index_of f) f (index_of f)
    ∙ ap (λ b. cond b (Some f) (fin.get held (index_of f)))
    (is_at (index_of f) (index_of f) ∙ equals (index_of f) (index_of f) refl)

got_less : (held : HeldFrames) (f : Frame) (q : ℕ) → nat_eq q (index_of f) ≡ false → fin.get held q ≡ None
    → fin.get (fin.insert held (index_of f) f) q ≡ None
got_less held f q out is = fin.get-insert nat_cmp_total held (index_of f) f q
    ∙ ap (λ b. cond b (Some f) (fin.get held q)) (is_at q (index_of f) ∙ out) ∙ is

held_more : (held : HeldFrames) (f : Frame) (fs : List Frame) → AllByRecursion (λ g. index_of g < index_of f) fs
    → AreHeld (fin.get held) fs → AreHeld (fin.get (fin.insert held (index_of f) f)) fs
held_more held f fs before is = all_both (λ g. index_of g < index_of f)
    (λ g. fin.get held (index_of g) ≡ Some g) (λ g. fin.get (fin.insert held (index_of f) f) (index_of g) ≡ Some g)
    (λ g low there. got_more held f g (below_apart (index_of g) (index_of f) low) there) fs before is

rising_more : (xs : List Frame) (f : Frame) → AreRising xs → AllByRecursion (λ g. index_of g < index_of f) xs
    → AreRising (xs ++ f ∷ [])
rising_more [] f h p = (tt, tt)
rising_more (x ∷ xs) f h p = (all_more (λ g. index_of x < index_of g) xs f h.0 p.0, rising_more xs f h.1 p.1)

apart_place : (f : Frame) (xs : List Frame) → HaveOwnIndices xs → AllByRecursion (λ g. index_of g < index_of f) xs
    → HaveOwnIndices (place is_slower_frame f xs)
apart_place f [] h p = (tt, tt)
apart_place f (x ∷ xs) h p = at (is_slower_frame f x) (apart_place f xs h.1 p.1) where
  at : (b : Bool) → HaveOwnIndices (place is_slower_frame f xs)
      → HaveOwnIndices (cond b (f ∷ (x ∷ xs)) (x ∷ place is_slower_frame f xs))
  at true later = (
    all_map (λ g. index_of g < index_of f) (λ g. index_of g ≢ index_of f)
        (λ g low. below_apart (index_of g) (index_of f) low) (x ∷ xs) p,
    h,
  )
  at false later = let below = p.0 in (all_place (λ g. index_of g ≢ index_of x) f xs (λ e. omega arith) h.0, later)

index-more : (fs : List Frame) (f : Frame) → map index_of fs ++ index_of f ∷ [] ≡ map index_of (fs ++ f ∷ [])
index-more [] f = refl
index-more (g ∷ fs) f = ap (λ is. index_of g ∷ is) (index-more fs f)

-- the ranks of frames with one more in its place
pub ranks-place : (f : Frame) (fs : List Frame)
    → place is_before (rank_of f) (map rank_of fs) ≡ map rank_of (place is_slower_frame f fs)
ranks-place f [] = refl
ranks-place f (g ∷ fs) = at (is_slower_frame f g) (ranks-place f fs) where
  at : (b : Bool) → place is_before (rank_of f) (map rank_of fs) ≡ map rank_of (place is_slower_frame f fs)
      → cond b (rank_of f ∷ (rank_of g ∷ map rank_of fs)) (rank_of g ∷ place is_before (rank_of f) (map rank_of fs))
      ≡ map rank_of (cond b (f ∷ (g ∷ fs)) (g ∷ place is_slower_frame f fs))
  at true e = refl
  at false e = ap (λ rs. rank_of g ∷ rs) e

-- ranks in order stay so with one whose index is above theirs

all_ranks_place : (P : SlowRank → Type 0) (r : SlowRank) (rs : List SlowRank) → P r → AllByRecursion P rs
    → AllByRecursion P (place is_before r rs)
all_ranks_place P r [] p h = (p, tt)
all_ranks_place P r (x ∷ xs) p h = at (is_before r x) (all_ranks_place P r xs p h.1) where
  at : (b : Bool) → AllByRecursion P (place is_before r xs)
      → AllByRecursion P (cond b (r ∷ (x ∷ xs)) (x ∷ place is_before r xs))
  at true later = (p, h)
  at false later = (h.0, later)

all_ranks : (P Q : SlowRank → Type 0) → ((r : SlowRank) → P r → Q r) → (rs : List SlowRank) → AllByRecursion P rs
    → AllByRecursion Q rs
all_ranks P Q k [] h = tt
all_ranks P Q k (r ∷ rs) (first, others) = (k r first, all_ranks P Q k rs others)

never_tied : (r x : SlowRank) → x.frame_index < r.frame_index → rank_cmp r x ≡ Equal → ⊥
never_tied r x low e = absurd (not_equal (int_cmp x.duration_ns.0 r.duration_ns.0) e) where
  above : nat_cmp r.frame_index x.frame_index ≡ Greater
  above = grind arith

  not_equal : (o : Ordering) → ordering_then o (nat_cmp r.frame_index x.frame_index) ≡ Equal → ⊥
  not_equal Less e = cc
  not_equal Greater e = cc
  not_equal Equal e = let both : Greater ≡ Equal = sym above ∙ e in cc

-- ranks stay sorted with one more whose index is above theirs, in its place
in_order-place : (r : SlowRank) (rs : List SlowRank) → IsStrictlySortedBy rank_cmp rs
    → AllByRecursion (λ s. s.frame_index < r.frame_index) rs → IsStrictlySortedBy rank_cmp (place is_before r rs)
unfolding IsStrictlySortedBy
in_order-place r [] h low = (tt, tt)
in_order-place r (x ∷ xs) h low = at (rank_cmp r x) refl (in_order-place r xs h.1 low.1) where
  at : (o : Ordering) → rank_cmp r x ≡ o → IsStrictlySortedBy rank_cmp (place is_before r xs)
      → IsStrictlySortedBy rank_cmp (cond (is_lt o) (r ∷ (x ∷ xs)) (x ∷ place is_before r xs))
  at Less e later = (
    (
      e,
      all_ranks (λ s. rank_cmp x s ≡ Less) (λ s. rank_cmp r s ≡ Less)
          (λ s far. rank_cmp_total.trans r x s e far) xs h.0,
    ),
    h,
  )
  at Equal e later = absurd (never_tied r x low.0 e)
  at Greater e later = (
    all_ranks_place (λ s. rank_cmp x s ≡ Less) r xs
        (rank_cmp_total.antisymm x r ∙ ap ordering_reverse e) h.0,
    later,
  )

ranks_low : (f : Frame) (fs : List Frame) → AllByRecursion (λ g. index_of g < index_of f) fs
    → AllByRecursion (λ s. s.frame_index < index_of f) (map rank_of fs)
ranks_low f [] h = tt
ranks_low f (g ∷ fs) (low, lows) = (low, ranks_low f fs lows)

-- an index that is missing with one frame more was missing before
has_index-place : (q : ℕ) (f : Frame) (fs : List Frame) → has_index q (place is_slower_frame f fs) ≡ false
    → has_index q fs ≡ false
has_index-place q f [] h = refl
has_index-place q f (g ∷ fs) h = at (is_slower_frame f g) h (has_index-place q f fs) where
  at : (b : Bool) → has_index q (cond b (f ∷ (g ∷ fs)) (g ∷ place is_slower_frame f fs)) ≡ false
      → (has_index q (place is_slower_frame f fs) ≡ false → has_index q fs ≡ false)
      → (nat_eq q (index_of g) || has_index q fs) ≡ false
  at true h later = (neither (nat_eq q (index_of f)) (nat_eq q (index_of g) || has_index q fs) h).1
  at false h later = let both = neither (nat_eq q (index_of g)) (has_index q (place is_slower_frame f fs)) h in
      rw both.0 (later both.1)

-- neither of two tests passes
pub first_false : {a b : Bool} → a ≡ false → b ≡ false → (a || b) ≡ false
first_false {a} {b} e p = rw (e, p) refl

-- one more frame is stored among the recent ones, and the slow ones are as they were
pub stored-added : (held : HeldFrames) (recent : List ℕ) (slow : List SlowRank) (last : Option ℕ) (f : Frame)
    (R S : List Frame) → AreStored held recent slow last R S
    → AllByRecursion (λ g. index_of g < index_of f) R → AllByRecursion (λ g. index_of g < index_of f) S → AreStored
    (fin.insert held (index_of f) f) (recent ++ index_of f ∷ []) slow (Some (index_of f)) (R ++ f ∷ []) S
stored-added held recent slow last f R S h before slow_before = record {
  recent_at = ap (λ is. is ++ index_of f ∷ []) h.recent_at ∙ index-more R f;
  slow_at = h.slow_at;
  recent_held = all_more (λ g. fin.get (fin.insert held (index_of f) f) (index_of g) ≡ Some g) R f
      (held_more held f R before h.recent_held) (got_itself held f);
  slow_held = held_more held f S slow_before h.slow_held;
  only = λ q out.
      let both = neither (has_index q (R ++ f ∷ [])) (has_index q S) (sym (has_index-append q (R ++ f ∷ []) S) ∙ out) in
      let two = neither (has_index q R) (has_index q (f ∷ [])) (sym (has_index-append q R (f ∷ [])) ∙ both.0) in
      got_less held f q (neither (nat_eq q (index_of f)) false two.1).0
      (h.only q (has_index-append q R S ∙ first_false two.0 both.1));
  kept = record {
    recent_taken = all_more (λ g. index_of g ≤ index_of f) R f (below R before) (omega arith);
    slow_taken = below S slow_before;
    rising = rising_more R f h.kept.rising before;
    apart = h.kept.apart;
  };
  in_order = h.in_order;
} where
  below : (fs : List Frame) → AllByRecursion (λ g. index_of g < index_of f) fs
      → AllByRecursion (λ g. index_of g ≤ index_of f) fs
  below fs low = all_map (λ g. index_of g < index_of f) (λ g. index_of g ≤ index_of f) (λ g k. omega arith) fs low

-- a recent frame is stored among the slow ones too
pub stored-placed : (held : HeldFrames) (recent : List ℕ) (slow : List SlowRank) (f : Frame) (R S : List Frame)
    → AreStored held recent slow (Some (index_of f)) R S → fin.get held (index_of f) ≡ Some f
    → AllByRecursion (λ g. index_of g < index_of f) S
    → AreStored held recent (place is_before (rank_of f) slow) (Some (index_of f)) R (place is_slower_frame f S)
stored-placed held recent slow f R S h there before = record {
  recent_at = h.recent_at;
  slow_at = ap (place is_before (rank_of f)) h.slow_at ∙ ranks-place f S;
  recent_held = h.recent_held;
  slow_held = all_place (λ g. fin.get held (index_of g) ≡ Some g) f S there h.slow_held;
  only = λ q out. let both = neither (has_index q R) (has_index q (place is_slower_frame f S))
      (sym (has_index-append q R (place is_slower_frame f S)) ∙ out) in
      h.only q (has_index-append q R S ∙ first_false both.0 (has_index-place q f S both.1));
  kept = record {
    recent_taken = h.kept.recent_taken;
    slow_taken = all_place (λ g. index_of g ≤ index_of f) f S (omega arith) h.kept.slow_taken;
    rising = h.kept.rising;
    apart = apart_place f S h.kept.apart before;
  };
  in_order = in_order-place (rank_of f) slow h.in_order
      (subst (λ rs. AllByRecursion (λ s. s.frame_index < index_of f) rs) (sym h.slow_at) (ranks_low f S before));
}

-- nothing is kept at first
pub stored-none : (held : HeldFrames) (recent : List ℕ) (slow : List SlowRank) → held ≡ fin.empty → recent ≡ []
    → slow ≡ [] → AreStored held recent slow None (frames_under held recent) (frames_under held (map rank_index slow))
unfolding IsStrictlySortedBy
stored-none held recent slow e r s =
    let P : HeldFrames → Type 0 =
    λ m. AreStored m recent slow None (frames_under m recent) (frames_under m (map rank_index slow)) in
    let Q : List ℕ → Type 0 = λ is. AreStored fin.empty is slow None (frames_under fin.empty is)
    (frames_under fin.empty (map rank_index slow)) in
    let R : List SlowRank → Type 0 =
    λ rs. AreStored fin.empty [] rs None [] (frames_under fin.empty (map rank_index rs)) in
    subst P (sym e) (subst Q (sym r) (subst R (sym s) (record {
      recent_at = refl;
      slow_at = refl;
      recent_held = tt;
      slow_held = tt;
      only = λ q out. fin.get-empty nat_cmp q;
      kept = record { recent_taken = tt; slow_taken = tt; rising = tt; apart = tt };
      in_order = none;
    }))) where
      none : IsStrictlySortedBy rank_cmp []
      none = tt

-- the lists of frames are found again
pub index-rank_of : (fs : List Frame) → map rank_index (map rank_of fs) ≡ map index_of fs
index-rank_of [] = refl
index-rank_of (f ∷ fs) = ap (λ is. index_of f ∷ is) (index-rank_of fs)

-- the frames under the recent indices are the recent frames
pub recent_back : (held : HeldFrames) (recent : List ℕ) (slow : List SlowRank) (last : Option ℕ) (R S : List Frame)
    → AreStored held recent slow last R S → frames_under held recent ≡ R
recent_back held recent slow last R S h = ap (frames_under held) h.recent_at ∙ held_back (fin.get held) R h.recent_held

-- the frames under the slow ranks' indices are the slow frames
pub slow_back : (held : HeldFrames) (recent : List ℕ) (slow : List SlowRank) (last : Option ℕ) (R S : List Frame)
    → AreStored held recent slow last R S → frames_under held (map rank_index slow) ≡ S
slow_back held recent slow last R S h = ap (λ rs. frames_under held (map rank_index rs)) h.slow_at
    ∙ ap (frames_under held) (index-rank_of S) ∙ held_back (fin.get held) S h.slow_held

-- fields that store some frames store those that are found under their indices
pub stored_as : (held : HeldFrames) (recent : List ℕ) (slow : List SlowRank) (last : Option ℕ) (R S : List Frame)
    → AreStored held recent slow last R S
    → AreStored held recent slow last (frames_under held recent) (frames_under held (map rank_index slow))
stored_as held recent slow last R S h =
    let P : List Frame → Type 0 = λ fs. AreStored held recent slow last fs (frames_under held (map rank_index slow)) in
    let Q : List Frame → Type 0 = λ fs. AreStored held recent slow last R fs in
    subst P (sym (recent_back held recent slow last R S h)) (subst Q (sym (slow_back held recent slow last R S h)) h)

-- the view that the fields stand for is the one with the frames that they store
pub view_as : (held : HeldFrames) (recent : List ℕ) (slow : List SlowRank) (last : Option ℕ) (max_recent max_slow : ℕ)
    (packs : Bool) (v : View) → AreStored held recent slow last v.recent v.slow → last ≡ v.last
    → max_recent ≡ v.max_recent → max_slow ≡ v.max_slow → packs ≡ v.packs
    → record {
      recent = frames_under held recent;
      slow = frames_under held (map rank_index slow);
      last = last;
      max_recent = max_recent;
      max_slow = max_slow;
      packs = packs;
    } ≡ v
view_as held recent slow last max_recent max_slow packs v h l m n p =
    let r : frames_under held recent ≡ v.recent = recent_back held recent slow last v.recent v.slow h in
    let s : frames_under held (map rank_index slow) ≡ v.slow = slow_back held recent slow last v.recent v.slow h in
    λ j. record { recent = r j; slow = s j; last = l j; max_recent = m j; max_slow = n j; packs = p j }

-- all that is held is the frames, by their indices

-- a look-up among frames that are held
pub find_held : (h : ℕ → Option Frame) (q : ℕ) (fs : List Frame) → AreHeld h fs
    → fin.find nat_cmp q (map (λ f. (index_of f, f)) fs) ≡ cond (has_index q fs) (h q) None
find_held h q [] held = refl
find_held h q (f ∷ fs) held = ap (λ b. cond b (Some f) (fin.find nat_cmp q (map (λ g. (index_of g, g)) fs)))
    (is_at q (index_of f)) ∙ at (nat_eq q (index_of f)) refl (find_held h q fs held.1) where
      at : (b : Bool) → nat_eq q (index_of f) ≡ b
          → fin.find nat_cmp q (map (λ g. (index_of g, g)) fs) ≡ cond (has_index q fs) (h q) None
          → cond b (Some f) (fin.find nat_cmp q (map (λ g. (index_of g, g)) fs)) ≡ cond (b || has_index q fs) (h q) None
      at true e later = sym (ap h (equal_to q (index_of f) e) ∙ held.0)
      at false e later = later

held_append : (h : ℕ → Option Frame) (fs gs : List Frame) → AreHeld h fs → AreHeld h gs → AreHeld h (fs ++ gs)
held_append h [] gs p q = q
held_append h (f ∷ fs) gs (first, others) q = (first, held_append h fs gs others q)

-- the map holds exactly the frames of both lists
pub held_whole : (held : HeldFrames) (recent : List ℕ) (slow : List SlowRank) (last : Option ℕ) (R S : List Frame)
    → AreStored held recent slow last R S → held ≡ frames_by_index (R ++ S)
held_whole held recent slow last R S h =
    fin.same_map nat_cmp_total fin.nat_cmp-IsAntisymmetric held (frames_by_index (R ++ S))
    (λ q. at q (has_index q (R ++ S)) (h.only q)
    ∙ sym (fin.get-from_entries nat_cmp_total (map (λ f. (index_of f, f)) (R ++ S)) q
    ∙ find_held (fin.get held) q (R ++ S) (held_append (fin.get held) R S h.recent_held h.slow_held))) where
      at : (q : ℕ) (b : Bool) → (b ≡ false → fin.get held q ≡ None) → fin.get held q ≡ cond b (fin.get held q) None
      at q true none = refl
      at q false none = none refl

-- the newest frame

-- the newest recent frame is held under the last recent index
pub newest_held : (held : HeldFrames) (recent : List ℕ) (slow : List SlowRank) (last : Option ℕ) (R S : List Frame)
    (i : ℕ) → AreStored held recent slow last R S → last_in recent ≡ Some i → fin.get held i ≡ last_in R
newest_held held recent slow last R S i h newest =
    let found = last_map index_of R i (ap last_in (sym h.recent_at) ∙ newest) in
    ap (fin.get held) (sym found.2)
    ∙ all_last (λ f. fin.get held (index_of f) ≡ Some f) R found.0 h.recent_held found.1 ∙ sym found.1

-- something is held under the newest frame's index
pub newest_there : (held : HeldFrames) (recent : List ℕ) (slow : List SlowRank) (last : Option ℕ)
    (R S : List Frame) (f : Frame) (i : ℕ) → AreStored held recent slow last R S → last_in R ≡ Some f → i ≡ index_of f
    → IsSome (fin.get held i)
newest_there held recent slow last R S f i h newest e = subst IsSome
    (sym (ap (fin.get held) e ∙ all_last (λ g. fin.get held (index_of g) ≡ Some g) R f h.recent_held newest)) refl

-- a rank whose index is above another's comes before it where it is longer
longer_before : (r s : SlowRank) → s.frame_index < r.frame_index
    → is_before r s ≡ int_lt s.duration_ns.0 r.duration_ns.0
longer_before r s low = at (int_lt s.duration_ns.0 r.duration_ns.0) (int_lt r.duration_ns.0 s.duration_ns.0) where
  above : is_lt (nat_cmp r.frame_index s.frame_index) ≡ false
  above = grind arith

  at : (a b : Bool)
      → is_lt (ordering_then (cond a Less (cond b Greater Equal)) (nat_cmp r.frame_index s.frame_index)) ≡ a
  at true b = refl
  at false true = refl
  at false false = above

-- a rank belongs among the ranks exactly if its frame belongs among the frames
pub enters_same : (max : ℕ) (f : Frame) (slow : List SlowRank) (S : List Frame) → slow ≡ map rank_of S
    → AllByRecursion (λ g. index_of g < index_of f) S → rank_enters max slow (rank_of f) ≡ enters_among max S f
enters_same max f slow S e before =
    ap (λ rs. rank_enters max rs (rank_of f)) e ∙ (λ j. nat_lt (count S j) max || late S before j) where
      count : (S : List Frame) → length (map rank_of S) ≡ length S
      count [] = refl
      count (g ∷ S) = ap suc (count S)

      late : (S : List Frame) → AllByRecursion (λ g. index_of g < index_of f) S
          → option_map_or (λ s. is_before (rank_of f) s) (last_in (map rank_of S)) false
          ≡ option_map_or (λ g. int_lt (duration_of g) (duration_of f)) (last_in S) false
      late [] before = refl
      late (g ∷ S) before = ap (λ s. is_before (rank_of f) s) (sym (map-last_from rank_of g S))
          ∙ longer_before (rank_of f) (rank_of (last_from g S)) (all_last_from (λ h. index_of h < index_of f) g S before)
