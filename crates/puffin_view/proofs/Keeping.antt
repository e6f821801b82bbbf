-- What packing a frame keeps of a view's lists.
use Rattle.std.proofs.Common.{◌≡◌, ℕ, ◌<◌, Bool, true, false, cond, List, [], ◌∷◌, map, refl, sym, ◌∙◌, subst, Option}
use Rattle.std.specs.Prelude.{nat_eq, ◌≢◌}
use Rattle.std.specs.List.{AllByRecursion}
use Rattle.puffin_view.specs.View.ViewedFrames.{Frame, index_of, packed_under, packed_alone}
use Rattle.puffin_view.specs.inner.Kept.{IsUpTo, AreRising, HaveOwnIndices, AreViewLists}

-- packing keeps the index
pub index_packed_at : (i : ℕ) (f : Frame) → index_of (packed_under i f) ≡ index_of f
index_packed_at i f = at (nat_eq (index_of f) i) where
  at : (b : Bool) → index_of (cond b (packed_alone f) f) ≡ index_of f
  at true = refl
  at false = refl

-- what packing keeps for one frame it keeps for all
pub all_packed : (P Q : Frame → Type 0) (i : ℕ) → ((f : Frame) → P f → Q (packed_under i f)) → (fs : List Frame)
    → AllByRecursion P fs → AllByRecursion Q (map (packed_under i) fs)
all_packed P Q i k [] h = tt
all_packed P Q i k (f ∷ fs) h = (k f h.0, all_packed P Q i k fs h.1)

rising_packed : (i : ℕ) (fs : List Frame) → AreRising fs → AreRising (map (packed_under i) fs)
rising_packed i [] h = tt
rising_packed i (f ∷ fs) h = (
  all_packed (λ g. index_of f < index_of g) (λ g. index_of (packed_under i f) < index_of g) i
      (λ g k. rw (index_packed_at i f, index_packed_at i g) k) fs h.0,
  rising_packed i fs h.1,
)

apart_packed_all : (i : ℕ) (fs : List Frame) → HaveOwnIndices fs → HaveOwnIndices (map (packed_under i) fs)
apart_packed_all i [] h = tt
apart_packed_all i (f ∷ fs) h = (
  all_packed (λ g. index_of g ≢ index_of f) (λ g. index_of g ≢ index_of (packed_under i f)) i
      (λ g k e. k (sym (index_packed_at i g) ∙ e ∙ index_packed_at i f)) fs h.0,
  apart_packed_all i fs h.1,
)

-- packing keeps the invariant of the lists
pub IsKept-packed : (i : ℕ) (recent slow : List Frame) (last : Option ℕ) → AreViewLists recent slow last
    → AreViewLists (map (packed_under i) recent) (map (packed_under i) slow) last
IsKept-packed i recent slow last h =
    let P : ℕ → Type 0 = λ j. IsUpTo last j in
    record {
      recent_taken = all_packed (λ f. P (index_of f)) (λ f. P (index_of f)) i
          (λ f k. subst P (sym (index_packed_at i f)) k) recent h.recent_taken;
      slow_taken = all_packed (λ f. P (index_of f)) (λ f. P (index_of f)) i
          (λ f k. subst P (sym (index_packed_at i f)) k) slow h.slow_taken;
      rising = rising_packed i recent h.rising;
      apart = apart_packed_all i slow h.apart;
    }
