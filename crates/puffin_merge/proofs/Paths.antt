-- The paths of a table's numbers, and when two paths are one.
use Rattle.std.proofs.Common.{◌≡◌, ℕ, zero, suc, ◌+◌, ◌<◌, ◌≤◌, Bool, true, false, List, [], ◌∷◌, ◌++◌, length, get_or, set, fold, refl, ap, subst, ◌∙◌, arith}
use Rattle.std.specs.declared.cmp.Ordering.{Ordering}
use Rattle.std.specs.declared.cmp.Ordering.TheVariants.{Less, Equal, Greater}
use Rattle.std.specs.Ordering.{nat_cmp, ordering_then}
use Rattle.std.specs.Cmp.{IsTotalOrder, then_total, on_total, nat_cmp_total, Equal-is, eq_by_cmp_equiv}
use Rattle.std.specs.Cmp.Lexicographic.{slice_cmp, nat_list_cmp_total, lists_total}
use Rattle.std.specs.FinMap.{IsAntisymmetric, nat_cmp-IsAntisymmetric, slice_cmp-IsAntisymmetric}
use Rattle.std.proofs.lemmas.List.{length_push, map-append, length-map, get_or_append_left, get_or_push}
use Rattle.puffin_merge.specs.declared.merge.table.Node.{Node}
use Rattle.puffin_merge.specs.declared.merge.table.Key.{Key}
use Rattle.puffin_merge.specs.Merge.Occurrences.{Label, Path, label_cmp, is_path}
use Rattle.puffin_merge.specs.Merge.{below}
use Rattle.puffin_merge.specs.inner.Found.{key_label}
use Rattle.puffin_merge.specs.inner.Tables.{with_path, paths_of, keys_in, path_at}

-- ---- one path

-- two orders together tie only if both do
pub ties : (r s : Ordering) → ordering_then r s ≡ Equal → (r ≡ Equal) × (s ≡ Equal)
ties Less s e = cc
ties Equal s e = (refl, e)
ties Greater s e = cc

label_cmp-one : IsAntisymmetric label_cmp
label_cmp-one x y e =
    let both = ties (nat_cmp x.id y.id) (slice_cmp nat_cmp x.text y.text) e in
    let ids = nat_cmp-IsAntisymmetric x.id y.id both.0 in
    let texts = slice_cmp-IsAntisymmetric nat_cmp-IsAntisymmetric x.text y.text both.1 in
    λ i. record { id = ids i; text = texts i }

-- the order of labels is total
pub label_cmp_total : IsTotalOrder label_cmp
label_cmp_total =
    then_total (on_total (λ (l : Label). l.id) nat_cmp_total) (on_total (λ (l : Label). l.text) nat_list_cmp_total)

-- paths for which `is_path` holds are the same
pub one_path : (p q : Path) → is_path p q ≡ true → p ≡ q
one_path p q e = slice_cmp-IsAntisymmetric label_cmp-one p q ((Equal-is (slice_cmp label_cmp p q)).0 e)

-- `is_path` holds for the same path
pub same_path : (p q : Path) → p ≡ q → is_path p q ≡ true
same_path p q e = subst (λ (x : Path). is_path p x ≡ true) e ((eq_by_cmp_equiv (lists_total label_cmp_total)).refl p)

-- `is_path` fails for another path
pub other_path : (p q : Path) → (p ≡ q → ⊥) → is_path p q ≡ false
other_path p q apart = by_test (is_path p q) refl where
  by_test : (b : Bool) → is_path p q ≡ b → is_path p q ≡ false
  by_test true e = absurd (apart (one_path p q e))
  by_test false e = e

-- ---- the paths of numbers

fold-push : {A B : Type 0} (f : B → A → B) (b : B) (xs : List A) (x : A) → fold f b (xs ++ (x ∷ [])) ≡ f (fold f b xs) x
fold-push f b [] x = refl
fold-push f b (y ∷ xs) x = fold-push f (f b y) xs x

length_from : (paths : List Path) (keys : List Key) → length (fold with_path paths keys) ≡ length paths + length keys
length_from paths [] = omega arith
length_from paths (k ∷ keys) = omega (
  arith,
  length_from (with_path paths k) keys,
  length_push paths (below (get_or paths k.parent.number []) (key_label k)),
)

-- there is one path for each node, and one for the top
pub length-paths : (keys : List Key) → length (paths_of keys) ≡ length keys + 1
length-paths keys = omega (arith, length_from ([] ∷ []) keys)

-- the nodes before stay, and each has its path
pub paths-push : (nodes : List Node) (n : Node)
    → paths_of (keys_in (nodes ++ (n ∷ []))) ≡ with_path (paths_of (keys_in nodes)) n.key
paths-push nodes n = ap paths_of (map-append (λ (x : Node). x.key) nodes (n ∷ []))
    ∙ fold-push with_path ([] ∷ []) (keys_in nodes) n.key

length-paths_in : (nodes : List Node) → length (paths_of (keys_in nodes)) ≡ length nodes + 1
length-paths_in nodes = omega (arith, length-paths (keys_in nodes), length-map nodes (λ (x : Node). x.key))

-- the paths of the nodes stay when a node is added
pub path_at-kept : (nodes : List Node) (n : Node) (p : ℕ) → p ≤ length nodes
    → path_at (nodes ++ (n ∷ [])) p ≡ path_at nodes p
path_at-kept nodes n p h =
    ap (λ (ps : List Path). get_or ps p []) (paths-push nodes n)
    ∙ get_or_append_left (paths_of (keys_in nodes)) (below (path_at nodes n.key.parent.number) (key_label n.key) ∷ [])
    [] p (omega (arith, length-paths_in nodes))

-- the new node's path is its label below its parent's path
pub path_at-new : (nodes : List Node) (n : Node) (p : ℕ) → p ≡ length nodes + 1
    → path_at (nodes ++ (n ∷ [])) p ≡ below (path_at nodes n.key.parent.number) (key_label n.key)
path_at-new nodes n p e =
    ap (λ (ps : List Path). get_or ps p []) (paths-push nodes n)
    ∙ get_or_push (paths_of (keys_in nodes)) (below (path_at nodes n.key.parent.number) (key_label n.key)) [] p
    (omega (arith, length-paths_in nodes))

keys-set : (nodes : List Node) (i : ℕ) (n d : Node) → n.key ≡ (get_or nodes i d).key
    → keys_in (set nodes i n) ≡ keys_in nodes
keys-set [] i n d e = refl
keys-set (m ∷ nodes) zero n d e = ap (λ (k : Key). k ∷ keys_in nodes) e
keys-set (m ∷ nodes) (suc i) n d e = ap (λ (ks : List Key). m.key ∷ ks) (keys-set nodes i n d e)

-- a node with other sums
pub path_at-set : (nodes : List Node) (i : ℕ) (n d : Node) (p : ℕ) → n.key ≡ (get_or nodes i d).key
    → path_at (set nodes i n) p ≡ path_at nodes p
path_at-set nodes i n d p e = ap (λ (ks : List Key). get_or (paths_of ks) p []) (keys-set nodes i n d e)

-- the number 0 stands above all nodes
pub top_path : (nodes : List Node) → path_at nodes 0 ≡ []
top_path nodes = first ([] ∷ []) (keys_in nodes) (omega arith) where
  first : (paths : List Path) (keys : List Key) → 0 < length paths
      → get_or (fold with_path paths keys) 0 [] ≡ get_or paths 0 []
  first paths [] h = refl
  first paths (k ∷ keys) h = first (with_path paths k)
      keys (omega (arith, length_push paths (below (get_or paths k.parent.number []) (key_label k))))
      ∙ get_or_append_left paths _ [] 0 h
