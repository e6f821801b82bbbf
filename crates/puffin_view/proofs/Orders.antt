-- The orders of frames, and frames by what they say.
use Rattle.std.proofs.Common.{◌≡◌, ℕ, zero, suc, ◌<◌, Bool, true, false, cond, List, [], ◌∷◌, ◌++◌, length, take, drop, map, refl, ap, arith}
use Rattle.std.specs.Cmp.{IsStrictWeakOrder, IsTotalOrder, nat_cmp_total, int_cmp_total, on_total, then_total, back_total}
use Rattle.std.specs.Prelude.{nat_eq, int_lt, ◌↔◌}
use Rattle.std.specs.declared.cmp.Ordering.TheVariants.{Equal}
use Rattle.std.proofs.lemmas.Int.{ints}
use Rattle.std.proofs.lemmas.List.Sorted.{ranks_by}
use Rattle.puffin_view.specs.View.Ranking.{place, last_from}
use Rattle.puffin_frames.specs.Packet.Stored.{PacketFields}
use Rattle.puffin_view.specs.View.Selection.{Rank, older_cmp}
use Rattle.puffin_view.specs.View.ViewedFrames.{Frame, frame_index, duration, by_duration, is_slower, fields_of, index_of, packed_under, packed_alone}

pub by_duration_total : IsTotalOrder by_duration
by_duration_total = then_total (on_total duration (back_total int_cmp_total)) (on_total frame_index nat_cmp_total)

pub older_total : IsTotalOrder older_cmp
older_total = then_total (on_total (λ (r : Rank). r.index) nat_cmp_total)
    (then_total (on_total (λ (r : Rank). r.place) nat_cmp_total) (on_total (λ (r : Rank). r.duration) int_cmp_total))

pub slower_order : IsStrictWeakOrder is_slower
slower_order = ranks_by by_duration_total (λ (c : PacketFields). c)

-- a frame no longer than another, with an index above it, doesn't come before it
pub later_behind : (c d : PacketFields) → int_lt (duration d) (duration c) ≡ false → frame_index d < frame_index c
    → is_slower c d ≡ false
later_behind c d short late = grind arith

-- what ties by duration
same_duration : (c d : PacketFields) → by_duration c d ≡ Equal → duration c ≡ duration d
same_duration c d e = grind (arith, ints)

same_index : (c d : PacketFields) → by_duration c d ≡ Equal → frame_index c ≡ frame_index d
same_index c d e = grind (arith, ints)

tied : (c d : PacketFields) → duration c ≡ duration d → frame_index c ≡ frame_index d → by_duration c d ≡ Equal
tied c d long at = grind (arith, ints)

pub by_duration_ties : (c d : PacketFields)
    → by_duration c d ≡ Equal ↔ ((duration c ≡ duration d) × (frame_index c ≡ frame_index d))
by_duration_ties c d = (λ e. (same_duration c d e, same_index c d e), λ h. tied c d h.0 h.1)

module _ {F G : Type 0} (g : F → G) (before : G → G → Bool) where
  map-place_at : (f x : F) (xs : List F) (b : Bool)
      → map g (place (λ y z. before (g y) (g z)) f xs) ≡ place before (g f) (map g xs)
      → map g (cond b (f ∷ (x ∷ xs)) (x ∷ place (λ y z. before (g y) (g z)) f xs))
      ≡ cond b (g f ∷ (g x ∷ map g xs)) (g x ∷ place before (g f) (map g xs))
  map-place_at f x xs true ih = refl
  map-place_at f x xs false ih = ap (λ ys. g x ∷ ys) ih

  pub map-place : (f : F) (xs : List F) → map g (place (λ y z. before (g y) (g z)) f xs) ≡ place before (g f) (map g xs)
  map-place f [] = refl
  map-place f (x ∷ xs) = map-place_at f x xs (before (g f) (g x)) (map-place f xs)

pub map-take : {F G : Type 0} (g : F → G) (k : ℕ) (xs : List F) → map g (take k xs) ≡ take k (map g xs)
map-take g zero xs = refl
map-take g (suc k) [] = refl
map-take g (suc k) (x ∷ xs) = ap (λ ys. g x ∷ ys) (map-take g k xs)

pub map-drop : {F G : Type 0} (g : F → G) (k : ℕ) (xs : List F) → map g (drop k xs) ≡ drop k (map g xs)
map-drop g zero xs = refl
map-drop g (suc k) [] = refl
map-drop g (suc k) (x ∷ xs) = map-drop g k xs

pub map-more : {F G : Type 0} (g : F → G) (xs : List F) (f : F) → map g (xs ++ f ∷ []) ≡ map g xs ++ g f ∷ []
map-more g [] f = refl
map-more g (x ∷ xs) f = ap (λ ys. g x ∷ ys) (map-more g xs f)

pub map-length : {F G : Type 0} (g : F → G) (xs : List F) → length (map g xs) ≡ length xs
map-length g [] = refl
map-length g (x ∷ xs) = ap suc (map-length g xs)

pub map-last_from : {F G : Type 0} (g : F → G) (x : F) (xs : List F) → g (last_from x xs) ≡ last_from (g x) (map g xs)
map-last_from g x [] = refl
map-last_from g x (y ∷ ys) = map-last_from g y ys

-- packing changes nothing of what frames say
packed_says : (f : Frame) (b : Bool) → fields_of (cond b (packed_alone f) f) ≡ fields_of f
packed_says f true = refl
packed_says f false = refl

cons : {X : Type 0} {x y : X} {xs ys : List X} → x ≡ y → xs ≡ ys → x ∷ xs ≡ y ∷ ys
cons p q i = p i ∷ q i

pub packed_at_says : (i : ℕ) (fs : List Frame) → map fields_of (map (packed_under i) fs) ≡ map fields_of fs
packed_at_says i [] = refl
packed_at_says i (f ∷ fs) = cons (packed_says f (nat_eq (index_of f) i)) (packed_at_says i fs)
