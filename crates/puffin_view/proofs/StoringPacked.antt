-- A view stores its frames as before after its newest frame was packed: only that frame, under its index, is another.
use Rattle.std.proofs.Common.{◌≡◌, ℕ, Bool, true, false, cond, ◌||◌, List, [], ◌∷◌, map, Option, Some, None, refl, sym, ap, subst, ◌∙◌}
use Rattle.std.specs.Prelude.{nat_eq}
use Rattle.std.specs.Cmp.{nat_cmp_total}
use Rattle.std.specs.FinMap as fin
use Rattle.puffin_view.specs.declared.profile_view.slow_rank.SlowRank.{SlowRank}
use Rattle.puffin_view.specs.View.Ranking.{last_in}
use Rattle.puffin_view.specs.View.ViewedFrames.{Frame, index_of, packed_alone, packed_under}
use Rattle.puffin_view.specs.inner.Held.{HeldFrames}
use Rattle.puffin_view.specs.View.FrameRanks.{rank_of}
use Rattle.puffin_view.specs.inner.Store.{AreHeld, has_index, AreStored}
use Rattle.puffin_view.proofs.Keeping.{IsKept-packed, index_packed_at}
use Rattle.puffin_view.proofs.Members.{has_index-append, equal_to, is_at, one_some, all_last}

-- frames are held after the one with this index was put there packed, each packed if it has this index
packed_held : (held : HeldFrames) (f : Frame) (fs : List Frame) → fin.get held (index_of f) ≡ Some f
    → AreHeld (fin.get held) fs
    → AreHeld (fin.get (fin.insert held (index_of f) (packed_alone f))) (map (packed_under (index_of f)) fs)
packed_held held f [] is h = tt
packed_held held f (g ∷ fs) is h = (at (nat_eq (index_of g) (index_of f)) refl, packed_held held f fs is h.1) where
  got : (q : ℕ) (b : Bool) → nat_eq q (index_of f) ≡ b
      → fin.get (fin.insert held (index_of f) (packed_alone f)) q ≡ cond b (Some (packed_alone f)) (fin.get held q)
  got q b e = fin.get-insert nat_cmp_total held (index_of f) (packed_alone f) q
      ∙ ap (λ b. cond b (Some (packed_alone f)) (fin.get held q)) (is_at q (index_of f) ∙ e)

  same : nat_eq (index_of g) (index_of f) ≡ true → g ≡ f
  same e = one_some g f (sym h.0 ∙ ap (fin.get held) (equal_to (index_of g) (index_of f) e) ∙ is)

  at : (b : Bool) → nat_eq (index_of g) (index_of f) ≡ b → fin.get (fin.insert held (index_of f) (packed_alone f))
      (index_of (packed_under (index_of f) g)) ≡ Some (packed_under (index_of f) g)
  at true e = rw e (got (index_of g) true e ∙ ap (λ h. Some (packed_alone h)) (sym (same e)))
  at false e = rw e (got (index_of g) false e ∙ h.0)

rank-packed_at : (i : ℕ) (f : Frame) → rank_of (packed_under i f) ≡ rank_of f
rank-packed_at i f = at (nat_eq (index_of f) i) where
  at : (b : Bool) → rank_of (cond b (packed_alone f) f) ≡ rank_of f
  at true = refl
  at false = refl

indices-packed : (i : ℕ) (fs : List Frame) → map index_of (map (packed_under i) fs) ≡ map index_of fs
indices-packed i [] = refl
indices-packed i (f ∷ fs) = λ j. index_packed_at i f j ∷ indices-packed i fs j

ranks-packed : (i : ℕ) (fs : List Frame) → map rank_of (map (packed_under i) fs) ≡ map rank_of fs
ranks-packed i [] = refl
ranks-packed i (f ∷ fs) = λ j. rank-packed_at i f j ∷ ranks-packed i fs j

has_index-packed : (q i : ℕ) (fs : List Frame) → has_index q (map (packed_under i) fs) ≡ has_index q fs
has_index-packed q i [] = refl
has_index-packed q i (f ∷ fs) = λ j. nat_eq q (index_packed_at i f j) || has_index-packed q i fs j

-- the lists with the newest frame packed are stored after it was put, packed, under its index
pub stored-packed : (held : HeldFrames) (recent : List ℕ) (slow : List SlowRank) (last : Option ℕ) (R S : List Frame)
    (f : Frame) → AreStored held recent slow last R S → last_in R ≡ Some f
    → AreStored (fin.insert held (index_of f) (packed_alone f)) recent slow last (map (packed_under (index_of f)) R)
    (map (packed_under (index_of f)) S)
stored-packed held recent slow last R S f h newest =
    let i : ℕ = index_of f in
    let there : fin.get held i ≡ Some f = all_last (λ g. fin.get held (index_of g) ≡ Some g) R f h.recent_held newest in
    record {
      recent_at = h.recent_at ∙ sym (indices-packed i R);
      slow_at = h.slow_at ∙ sym (ranks-packed i S);
      recent_held = packed_held held f R there h.recent_held;
      slow_held = packed_held held f S there h.slow_held;
      only = λ q out.
          let none : fin.get held q ≡ None = h.only q
          (has_index-append q R S ∙ (λ j. sym (has_index-packed q i R) j || sym (has_index-packed q i S) j)
          ∙ sym (has_index-append q (map (packed_under i) R) (map (packed_under i) S)) ∙ out) in
          fin.get-insert nat_cmp_total held i (packed_alone f) q
          ∙ ap (λ b. cond b (Some (packed_alone f)) (fin.get held q)) (is_at q i)
          ∙ at q (nat_eq q i) none (λ e. ap (fin.get held) (equal_to q i e) ∙ there);
      kept = IsKept-packed i R S last h.kept;
      in_order = h.in_order;
    } where
      at : (q : ℕ) (b : Bool) → fin.get held q ≡ None → (b ≡ true → fin.get held q ≡ Some f)
          → cond b (Some (packed_alone f)) (fin.get held q) ≡ None
      at q true none some = let both : None ≡ Some f = sym none ∙ some refl in cc
      at q false none some = none

-- an insertion of what is there changes nothing
insert_same : (held : HeldFrames) (i : ℕ) (f : Frame) → fin.get held i ≡ Some f → fin.insert held i f ≡ held
insert_same held i f there =
    fin.same_map nat_cmp_total fin.nat_cmp-IsAntisymmetric (fin.insert held i f) held
    (λ q. fin.get-insert nat_cmp_total held i f q ∙ ap (λ b. cond b (Some f) (fin.get held q)) (is_at q i)
    ∙ at q (nat_eq q i) refl) where
      at : (q : ℕ) (b : Bool) → nat_eq q i ≡ b → cond b (Some f) (fin.get held q) ≡ fin.get held q
      at q true e = sym (ap (fin.get held) (equal_to q i e) ∙ there)
      at q false e = refl

-- a newest frame that is packed alone already
pub stored-already : (held : HeldFrames) (recent : List ℕ) (slow : List SlowRank) (last : Option ℕ) (R S : List Frame)
    (f : Frame) → AreStored held recent slow last R S → last_in R ≡ Some f → f ≡ packed_alone f
    → AreStored held recent slow last (map (packed_under (index_of f)) R) (map (packed_under (index_of f)) S)
stored-already held recent slow last R S f h newest same =
    let there : fin.get held (index_of f) ≡ Some f =
    all_last (λ g. fin.get held (index_of g) ≡ Some g) R f h.recent_held newest in
    let P : HeldFrames → Type 0 =
    λ m. AreStored m recent slow last (map (packed_under (index_of f)) R) (map (packed_under (index_of f)) S) in
    subst P (ap (fin.insert held (index_of f)) (sym same) ∙ insert_same held (index_of f) f there)
    (stored-packed held recent slow last R S f h newest)
