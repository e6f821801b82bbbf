-- Frames by rising index, seen through the map that holds them.
use Rattle.std.proofs.Common.{◌≡◌, ℕ, Bool, true, false, cond, List, [], ◌∷◌, ◌++◌, length, map, Option, None, refl, sym, ap, subst, ◌∙◌, arith}
use Rattle.std.specs.List.{AllByRecursion, filter}
use Rattle.std.specs.declared.cmp.Ordering.{Ordering}
use Rattle.std.specs.declared.cmp.Ordering.TheVariants.{Less, Equal, Greater}
use Rattle.std.specs.Ordering.{nat_cmp}
use Rattle.std.specs.Cmp.{nat_cmp_total}
use Rattle.std.specs.FinMap as fin
use Rattle.std.specs.FinMap.Entries.{by_order, where_key, is_sorted-where_key, find-where_key, same_entries}
use Rattle.puffin_view.specs.declared.profile_view.slow_rank.SlowRank.{SlowRank}
use Rattle.puffin_view.specs.View.ViewedFrames.{Frame, index_of, frames_by_index, chronological}
use Rattle.puffin_view.specs.inner.Held.{HeldFrames}
use Rattle.puffin_view.specs.View.Ranking.{rank_index, has_number}
use Rattle.puffin_view.specs.inner.Store.{AreStored}
use Rattle.puffin_view.proofs.Members.{has-index_of}
use Rattle.puffin_view.proofs.Storing.{held_whole, find_held, index-rank_of}

-- each frame stands under its index
abbrev pub AreKeyed : List (ℕ × Frame) → Type 0
AreKeyed es = AllByRecursion (λ e. index_of e.1 ≡ e.0) es

tied : (k i : ℕ) → nat_cmp k i ≡ Equal → k ≡ i
tied k i e = fin.nat_cmp-IsAntisymmetric k i e

keyed-put : (f : Frame) (es : List (ℕ × Frame)) → AreKeyed es → AreKeyed (fin.put nat_cmp (index_of f) f es)
keyed-put f [] h = (refl, tt)
keyed-put f (e ∷ es) h = at (nat_cmp (index_of f) e.0) refl (keyed-put f es h.1) where
  at : (o : Ordering) → nat_cmp (index_of f) e.0 ≡ o → AreKeyed (fin.put nat_cmp (index_of f) f es)
      → AreKeyed (by_order o ((index_of f, f) ∷ e ∷ es) ((e.0, f) ∷ es) (e ∷ fin.put nat_cmp (index_of f) f es))
  at Less p later = (refl, h)
  at Equal p later = (tied (index_of f) e.0 p, h.1)
  at Greater p later = (h.0, later)

none_keyed : (es : List (ℕ × Frame)) → es ≡ [] → AreKeyed es
none_keyed es e = subst AreKeyed (sym e) tt

no_length : {B : Type 0} (xs : List B) → length xs ≡ 0 → xs ≡ []
no_length [] e = refl
no_length (x ∷ xs) e = absurd (omega arith)

no_entries : fin.entries (fin.empty {X = Frame} {R = nat_cmp}) ≡ []
no_entries = no_length (fin.entries (fin.empty {X = Frame} {R = nat_cmp}))
    (sym (fin.len-entries (fin.empty {X = Frame} {R = nat_cmp})) ∙ fin.len-empty nat_cmp Frame)

-- the frames by index stand under their own indices
pub keyed : (fs : List Frame) → AreKeyed (fin.entries (frames_by_index fs))
keyed [] = none_keyed (fin.entries (frames_by_index [])) no_entries
keyed (f ∷ fs) = subst AreKeyed (sym (fin.entries-insert nat_cmp_total (frames_by_index fs) (index_of f) f))
    (keyed-put f (fin.entries (frames_by_index fs)) (keyed fs))

-- frames under the indices that pass a test are those frames whose index passes it
values-where : (p : ℕ → Bool) (es : List (ℕ × Frame)) → AreKeyed es
    → map (λ e. e.1) (where_key nat_cmp p es) ≡ filter (λ f. p (index_of f)) (map (λ e. e.1) es)
values-where p [] h = refl
values-where p (e ∷ es) h = ap (λ b. map (λ e. e.1) (cond b (e ∷ where_key nat_cmp p es) (where_key nat_cmp p es)))
    (ap p (sym h.0)) ∙ at (p (index_of e.1)) (values-where p es h.1) where
      at : (b : Bool) → map (λ e. e.1) (where_key nat_cmp p es) ≡ filter (λ f. p (index_of f)) (map (λ e. e.1) es)
          → map (λ e. e.1) (cond b (e ∷ where_key nat_cmp p es) (where_key nat_cmp p es)) ≡ cond b
          (e.1 ∷ filter (λ f. p (index_of f)) (map (λ e. e.1) es)) (filter (λ f. p (index_of f)) (map (λ e. e.1) es))
      at true later = ap (λ fs. e.1 ∷ fs) later
      at false later = later

-- those of the frames that are slow, as they stand by their indices
pub slow_listed : (held : HeldFrames) (recent : List ℕ) (slow : List SlowRank) (last : Option ℕ) (R S : List Frame)
    → AreStored held recent slow last R S
    → filter (λ f. has_number (index_of f) (map rank_index slow)) (fin.values held) ≡ chronological S
slow_listed held recent slow last R S h =
    let p : ℕ → Bool = λ q. has_number q (map rank_index slow) in
    let indices : map rank_index slow ≡ map index_of S = ap (map rank_index) h.slow_at ∙ index-rank_of S in
    let all : AreKeyed (fin.entries held) = subst (λ (m : HeldFrames). AreKeyed (fin.entries m))
    (sym (held_whole held recent slow last R S h)) (keyed (R ++ S)) in
    sym (values-where p (fin.entries held) all)
    ∙ ap (map (λ e. e.1)) (same_entries nat_cmp nat_cmp_total fin.nat_cmp-IsAntisymmetric
    (where_key nat_cmp p (fin.entries held)) (fin.entries (frames_by_index S)) (is_sorted-where_key nat_cmp p
    (fin.entries held) (fin.entries_sorted held)) (fin.entries_sorted (frames_by_index S))
    (λ q. find-where_key nat_cmp p q (λ x t. ap p (sym (tied q x t))) (fin.entries held)
    ∙ ap (λ o. cond (p q) o None) (sym (fin.get-entries held q))
    ∙ ap (λ b. cond b (fin.get held q) None) (ap (has_number q) indices ∙ has-index_of q S)
    ∙ sym (find_held (fin.get held) q S h.slow_held)
    ∙ sym (fin.get-from_entries nat_cmp_total (map (λ f. (index_of f, f)) S) q)
    ∙ fin.get-entries (frames_by_index S) q))
