-- What is merged doesn't depend on the order of the occurrences, nor of the frames after the first.
use Rattle.std.proofs.Common.{◌≡◌, ℕ, ◌+◌, ℤ, max, List, [], ◌∷◌, map, fold, All, Contains, IsPermutation, refl, ap, ◌∙◌, subst, arith}
use Rattle.std.specs.Int.{int_min}
use Rattle.std.proofs.lemmas.Int.{ints, clamps}
use Rattle.std.proofs.lemmas.List.Sorted.{All-permutation}
use Rattle.puffin_merge.specs.Merge.Occurrences.{Label, Path, Occurrence, FrameScopes, is_path, occurrences_of, occurrences}
use Rattle.puffin_merge.specs.Merge.Pieces.{Merged, total_of, greatest_of, least_start_of, merged_of, merged_at}
use Rattle.puffin_merge.specs.Merge.Starts.{IsLeastFeasible}
use Rattle.puffin_merge.specs.Merge.Tree.{Node, MergedForest, no_node, merged, row}
use Rattle.puffin_merge.specs.Merge.{below, HasSums, sibling_cmp, IsRising, sibling_of, IsRow, HasRowsBelow, IsMerge}
use Rattle.puffin_merge.proofs.Reordering.{Reordered, none_left, keeps, turns, goes_on, from_permutation, to_permutation, fold-reordered, length-reordered, filter-reordered, append-reordered, flat_map-reordered}

max-swap : (b x y : ℕ) → max (max b x) y ≡ max (max b y) x
max-swap b x y = omega arith

sum-swap : (b x y : ℕ) → (b + x) + y ≡ (b + y) + x
sum-swap b x y = omega arith

min-swap : (b x y : ℤ) → int_min (int_min b x) y ≡ int_min (int_min b y) x
min-swap b x y = omega (arith, ints, clamps)

min-comm : (x y : ℤ) → int_min x y ≡ int_min y x
min-comm x y = omega (arith, ints, clamps)

least-reordered : {xs ys : List Occurrence} → Reordered xs ys → least_start_of xs ≡ least_start_of ys
least-reordered none_left = refl
least-reordered (keeps x r) =
    fold-reordered (λ t p. int_min t p.own_start) (λ b x y. min-swap b x.own_start y.own_start) r x.own_start
least-reordered (turns x y xs) = ap (λ t. fold (λ t p. int_min t p.own_start) t xs) (min-comm x.own_start y.own_start)
least-reordered (goes_on r s) = least-reordered r ∙ least-reordered s

made : ℕ → ℕ → ℕ → ℤ → Merged
made a b c d = record { number = a; total = b; greatest = c; own_start = d }

merged-reordered : {xs ys : List Occurrence} → Reordered xs ys → merged_of xs ≡ merged_of ys
merged-reordered {xs = xs} {ys = ys} r =
    let number = length-reordered r in
    let total : total_of xs ≡ total_of ys =
    fold-reordered (λ b o. b + o.duration) (λ b x y. sum-swap b x.duration y.duration) r 0 in
    let greatest : greatest_of xs ≡ greatest_of ys =
    fold-reordered (λ b o. max b o.duration) (λ b x y. max-swap b x.duration y.duration) r 0 in
    let least = least-reordered r in
    λ i. record { number = number i; total = total i; greatest = greatest i; own_start = least i }

-- the sums of each path are the same in any order of occurrences
pub merged_at-reordered : {xs ys : List Occurrence} → Reordered xs ys → merged_at xs ≡ merged_at ys
merged_at-reordered r = λ i path. merged-reordered (filter-reordered (λ o. is_path o.path path) r) i

-- a path's row is the same in any order of occurrences, since its sums are
row-reordered : (xs ys : List Occurrence) → IsPermutation xs ys → (frames : ℕ) (path : Path) (nodes : List Node)
    → IsRow xs frames path nodes → IsRow ys frames path nodes
row-reordered xs ys p frames path nodes r =
    let same = merged_at-reordered (from_permutation xs ys p) in
    record {
      sums = subst (λ (at : Path → Merged). All (λ n. HasSums (at (below path n.label)) frames n) nodes) same r.sums;
      whole = All-permutation (λ o. (l : Label) → o.path ≡ below path l → Contains (map (λ n. n.label) nodes) l) xs
          ys p r.whole;
      order = subst (λ (at : Path → Merged). IsRising (sibling_cmp at path) (map (λ n. n.label) nodes)) same r.order;
      starts = subst (λ (at : Path → Merged). IsLeastFeasible
          (map (λ n. sibling_of (at (below path n.label)) frames) nodes) (map (λ n. n.start) nodes)) same r.starts;
    }

below-reordered : (xs ys : List Occurrence) → IsPermutation xs ys → (frames : ℕ) (path : Path) (f : MergedForest)
    → HasRowsBelow xs frames path f → HasRowsBelow ys frames path f
below-reordered xs ys p frames path no_node h = tt
below-reordered xs ys p frames path (merged n children others) h = (
  row-reordered xs ys p frames (below path n.label) (row children) h.0,
  below-reordered xs ys p frames
      (below path n.label) children h.1,
  below-reordered xs ys p frames path others h.2,
)

-- occurrences have the same merge in any order
pub merge-reordered : (xs ys : List Occurrence) → IsPermutation xs ys → (frames : ℕ) (f : MergedForest)
    → IsMerge xs frames f → IsMerge ys frames f
merge-reordered xs ys p frames f m = record {
  top = row-reordered xs ys p frames [] (row f) m.top;
  deeper = below-reordered xs ys p frames [] f m.deeper;
}

-- frames after the first in another order
pub merge-any_order : (first : FrameScopes) (others again : List FrameScopes)
    → IsPermutation others again → (frames : ℕ) (f : MergedForest) → IsMerge (occurrences (first ∷ others)) frames f
    → IsMerge (occurrences (first ∷ again)) frames f
merge-any_order first others again p =
    merge-reordered (occurrences (first ∷ others)) (occurrences (first ∷ again))
    (to_permutation (append-reordered (occurrences_of first.start first)
    (flat_map-reordered (occurrences_of first.start) (from_permutation others again p))))
