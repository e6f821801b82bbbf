-- Occurrences have one merge: labels in order, with the least feasible starts, at every level.
use Rattle.std.proofs.Common.{◌≡◌, ℕ, zero, suc, ◌<◌, ℤ, Bool, true, false, cond, List, [], ◌∷◌, length, map, Contains, ◌⊎◌, inl, inr, refl, sym, ap, subst, ◌∙◌, arith}
use Rattle.std.specs.List.{AllByRecursion}
use Rattle.std.specs.declared.cmp.Ordering.{Ordering}
use Rattle.std.specs.declared.cmp.Ordering.TheVariants.{Less}
use Rattle.std.specs.Ordering.{ordering_reverse}
use Rattle.std.specs.Cmp.{IsTotalOrder, int_cmp_total, on_total, then_total}
use Rattle.std.proofs.lemmas.Int.{ints}
use Rattle.std.proofs.lemmas.List.Elements.{recursion_from_All}
use Rattle.puffin_merge.specs.Merge.Occurrences.{Label, Path, Occurrence, is_path}
use Rattle.puffin_merge.specs.Merge.Pieces.{Merged, pieces_at, merged_at}
use Rattle.puffin_merge.specs.Merge.Starts.{Sibling, IsNowhereAbove, IsLeastFeasible}
use Rattle.puffin_merge.specs.Merge.Tree.{Node, MergedForest, no_node, merged, row}
use Rattle.puffin_merge.specs.Merge.{below, HasSums, sibling_cmp, IsRising, sibling_of, IsRow, HasRowsBelow, IsMerge}
use Rattle.puffin_merge.proofs.Paths.{one_path, label_cmp_total}

-- ---- labels in order

abbrev In : Label → List Label → Type 0
In l [] = ⊥
In l (m ∷ labels) = (l ≡ m) ⊎ In l labels

from_contains : (xs : List Label) (l : Label) → Contains xs l → In l xs
from_contains [] l (k, lt, e) = absurd (omega arith)
from_contains (x ∷ xs) l (zero, lt, e) = inl (sym e)
from_contains (x ∷ xs) l (suc k, lt, e) = inr (from_contains xs l (k, omega arith, e))

not_itself : (cmp : Label → Label → Ordering) → IsTotalOrder cmp → (x : Label) → cmp x x ≡ Less → ⊥
not_itself cmp total x e =
    let turned : Less ≡ ordering_reverse Less = sym e ∙ total.antisymm x x ∙ ap ordering_reverse e in absurd (cc)

above_first : (cmp : Label → Label → Ordering) → IsTotalOrder cmp → (xs : List Label) (x : Label)
    → IsRising cmp (x ∷ xs) → (l : Label) → In l xs → cmp x l ≡ Less
above_first cmp total [] x r l h = absurd h
above_first cmp total (y ∷ xs) x (first, rest) l (inl e) = subst (λ (m : Label). cmp x m ≡ Less) (sym e) first
above_first cmp total (y ∷ xs) x (first, rest) l (inr h) = total.trans x y l first (above_first cmp total xs y rest l h)

rest_rises : (cmp : Label → Label → Ordering) (x : Label) (xs : List Label) → IsRising cmp (x ∷ xs) → IsRising cmp xs
rest_rises cmp x [] r = tt
rest_rises cmp x (y ∷ xs) (first, rest) = rest

first_same : (cmp : Label → Label → Ordering) → IsTotalOrder cmp → (x y : Label) (xs ys : List Label)
    → IsRising cmp (x ∷ xs) → IsRising cmp (y ∷ ys) → In x (y ∷ ys) → In y (x ∷ xs) → x ≡ y
first_same cmp total x y xs ys r s (inl e) k = e
first_same cmp total x y xs ys r s (inr h) (inl e) = sym e
first_same cmp total x y xs ys r s (inr h) (inr k) =
    absurd (not_itself cmp total x
    (total.trans x y x (above_first cmp total xs x r y k) (above_first cmp total ys y s x h)))

later_in : (cmp : Label → Label → Ordering) → IsTotalOrder cmp → (x y l : Label) (ys : List Label) → x ≡ y
    → cmp x l ≡ Less → In l (y ∷ ys) → In l ys
later_in cmp total x y l ys same less (inl e) =
    absurd (not_itself cmp total x (subst (λ (m : Label). cmp x m ≡ Less) (e ∙ sym same) less))
later_in cmp total x y l ys same less (inr h) = h

-- two rising lists with the same members are the same list
one_rising : (cmp : Label → Label → Ordering) → IsTotalOrder cmp → (xs ys : List Label) → IsRising cmp xs
    → IsRising cmp ys → ((l : Label) → In l xs → In l ys) → ((l : Label) → In l ys → In l xs) → xs ≡ ys
one_rising cmp total [] [] r s f g = refl
one_rising cmp total [] (y ∷ ys) r s f g = absurd (g y (inl refl))
one_rising cmp total (x ∷ xs) [] r s f g = absurd (f x (inl refl))
one_rising cmp total (x ∷ xs) (y ∷ ys) r s f g =
    let same = first_same cmp total x y xs ys r s (f x (inl refl)) (g y (inl refl)) in
    let rest = one_rising cmp total xs ys (rest_rises cmp x xs r) (rest_rises cmp y ys s)
    (λ l h. later_in cmp total x y l ys same (above_first cmp total xs x r l h) (f l (inr h)))
    (λ l h. later_in cmp total y x l xs (sym same) (above_first cmp total ys y s l h) (g l (inr h))) in
    λ i. same i ∷ rest i

-- ---- the labels of a row are those that occur

-- a label below a path that has pieces is among the labels of the path's row
has_label : (labels : List Label) (path : Path) (l : Label) (all : List Occurrence)
    → AllByRecursion (λ o. (m : Label) → o.path ≡ below path m → Contains labels m) all
    → 0 < length (pieces_at all (below path l)) → Contains labels l
has_label labels path l [] w h = absurd (omega arith)
has_label labels path l (o ∷ all) (here, others) h =
    by_test (is_path o.path (below path l)) refl (λ k. has_label labels path l all others k) h where
      by_test : (b : Bool)
          → is_path o.path (below path l) ≡ b → (0 < length (pieces_at all (below path l)) → Contains labels l)
          → 0 < length (cond b (o ∷ pieces_at all (below path l)) (pieces_at all (below path l))) → Contains labels l
      by_test true e again h = here l (one_path o.path (below path l) e)
      by_test false e again h = again h

has_pieces : (all : List Occurrence) (path : Path) (frames : ℕ) (nodes : List Node) (l : Label)
    → AllByRecursion (λ n. HasSums (merged_at all (below path n.label)) frames n) nodes
    → In l (map (λ n. n.label) nodes) → 0 < (merged_at all (below path l)).number
has_pieces all path frames [] l t h = absurd h
has_pieces all path frames (n ∷ nodes) l (sums, others) (inl e) =
    subst (λ (m : Label). 0 < (merged_at all (below path m)).number) (sym e) sums.any
has_pieces all path frames (n ∷ nodes) l (sums, others) (inr h) = has_pieces all path frames nodes l others h

labels_in : (all : List Occurrence) (frames : ℕ) (path : Path) (xs ys : List Node) → IsRow all frames path xs
    → IsRow all frames path ys → (l : Label) → In l (map (λ n. n.label) xs) → In l (map (λ n. n.label) ys)
labels_in all frames path xs ys r s l h =
    from_contains (map (λ n. n.label) ys) l (has_label (map (λ n. n.label) ys) path l all
    (recursion_from_All _ all s.whole) (has_pieces all path frames xs l (recursion_from_All _ xs r.sums) h))

sibling_total : (at : Path → Merged) (path : Path) → IsTotalOrder (sibling_cmp at path)
sibling_total at path =
    then_total (on_total (λ (l : Label). (at (below path l)).own_start) int_cmp_total) label_cmp_total

-- ---- starts

nowhere_same : (xs ys : List ℤ) → IsNowhereAbove xs ys → IsNowhereAbove ys xs → xs ≡ ys
nowhere_same [] [] a b = refl
nowhere_same [] (y ∷ ys) a b = absurd a
nowhere_same (x ∷ xs) [] a b = absurd a
nowhere_same (x ∷ xs) (y ∷ ys) (low, lows) (high, highs) =
    let first : x ≡ y = omega (arith, ints) in
    let rest = nowhere_same xs ys lows highs in
    λ i. first i ∷ rest i

one_least : (siblings : List Sibling) (xs ys : List ℤ) → IsLeastFeasible siblings xs
    → IsLeastFeasible siblings ys → xs ≡ ys
one_least siblings xs ys a b = nowhere_same xs ys (a.least ys b.feasible) (b.least xs a.feasible)

siblings_of : (f : Label → Sibling) (nodes : List Node) → map (λ n. f n.label) nodes ≡ map f (map (λ n. n.label) nodes)
siblings_of f [] = refl
siblings_of f (n ∷ nodes) = ap (λ (s : List Sibling). f n.label ∷ s) (siblings_of f nodes)

-- ---- one row

one_node : (m : Merged) (frames : ℕ) (n k : Node) → HasSums m frames n → HasSums m frames k → n.label ≡ k.label
    → n.start ≡ k.start → n ≡ k
one_node m frames n k a b label start =
    let total = a.total ∙ sym b.total in
    let per_frame = a.per_frame ∙ sym b.per_frame in
    let greatest = a.greatest ∙ sym b.greatest in
    let pieces = a.pieces ∙ sym b.pieces in
    λ i. record {
      label = label i;
      start = start i;
      total = total i;
      per_frame = per_frame i;
      greatest = greatest i;
      pieces = pieces i;
    }

-- two lists of nodes with the same labels and starts are the same, since the sums belong to the labels
one_list : (at : Path → Merged) (path : Path) (frames : ℕ) (xs ys : List Node)
    → AllByRecursion (λ n. HasSums (at (below path n.label)) frames n) xs
    → AllByRecursion (λ n. HasSums (at (below path n.label)) frames n) ys
    → map (λ n. n.label) xs ≡ map (λ n. n.label) ys → map (λ n. n.start) xs ≡ map (λ n. n.start) ys → xs ≡ ys
one_list at path frames [] [] a b labels starts = refl
one_list at path frames [] (y ∷ ys) a b labels starts = absurd (cc)
one_list at path frames (x ∷ xs) [] a b labels starts = absurd (cc)
one_list at path frames (x ∷ xs) (y ∷ ys) (sums, more_sums) (others, more_others) labels starts =
    let label : x.label ≡ y.label = cc in
    let start : x.start ≡ y.start = cc in
    let more_labels : map (λ n. n.label) xs ≡ map (λ n. n.label) ys = cc in
    let more_starts : map (λ n. n.start) xs ≡ map (λ n. n.start) ys = cc in
    let first = one_node (at (below path x.label)) frames x y sums
    (subst (λ (l : Label). HasSums (at (below path l)) frames y) (sym label) others) label start in
    let rest = one_list at path frames xs ys more_sums more_others more_labels more_starts in
    λ i. first i ∷ rest i

-- a path has at most one row: its labels are those that occur, in order; its starts are the least ones
one_row : (all : List Occurrence) (frames : ℕ) (path : Path) (xs ys : List Node) → IsRow all frames path xs
    → IsRow all frames path ys → xs ≡ ys
one_row all frames path xs ys r s =
    let labels = one_rising (sibling_cmp (merged_at all) path) (sibling_total (merged_at all) path)
    (map (λ n. n.label) xs) (map (λ n. n.label) ys) r.order s.order (labels_in all frames path xs ys r s)
    (labels_in all frames path ys xs s r) in
    let f : Label → Sibling = λ l. sibling_of (merged_at all (below path l)) frames in
    let siblings : map (λ n. f n.label) xs ≡ map (λ n. f n.label) ys =
    siblings_of f xs ∙ ap (map f) labels ∙ sym (siblings_of f ys) in
    let starts = one_least (map (λ n. f n.label) xs) (map (λ n. n.start) xs) (map (λ n. n.start) ys) r.starts
    (subst (λ (z : List Sibling). IsLeastFeasible z (map (λ n. n.start) ys)) (sym siblings) s.starts) in
    one_list (merged_at all) path frames xs ys (recursion_from_All _ xs r.sums) (recursion_from_All _ ys s.sums)
    labels starts

-- ---- one forest

-- by recursion over both forests: the same rows at each path make the same forest
one_below : (f g : MergedForest) (all : List Occurrence) (frames : ℕ) (path : Path) → row f ≡ row g
    → HasRowsBelow all frames path f → HasRowsBelow all frames path g → f ≡ g
one_below no_node no_node all frames path e a b = refl
one_below no_node (merged m d p) all frames path e a b = absurd (cc)
one_below (merged n c o) no_node all frames path e a b = absurd (cc)
one_below (merged n c o) (merged m d p) all frames path e a b =
    let first : n ≡ m = cc in
    let others : row o ≡ row p = cc in
    let label : m.label ≡ n.label = ap (λ (k : Node). k.label) (sym first) in
    let children = one_row all frames (below path n.label) (row c) (row d) a.0
    (subst (λ (l : Label). IsRow all frames (below path l) (row d)) label b.0) in
    let inner = one_below c d all frames (below path n.label) children a.1
    (subst (λ (l : Label). HasRowsBelow all frames (below path l) d) label b.1) in
    let later = one_below o p all frames path others a.2 b.2 in
    λ i. merged (first i) (inner i) (later i)

-- occurrences have at most one merge
pub one_merge : (all : List Occurrence) (frames : ℕ) (f g : MergedForest) → IsMerge all frames f
    → IsMerge all frames g → f ≡ g
one_merge all frames f g a b =
    one_below f g all frames [] (one_row all frames [] (row f) (row g) a.top b.top) a.deeper b.deeper
