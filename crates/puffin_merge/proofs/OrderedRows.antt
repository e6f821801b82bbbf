-- Ordered nodes that are sorted: none comes before an earlier one, so their parents' numbers never fall.
use Rattle.std.proofs.Common.{◌≡◌, ℕ, suc, ◌+◌, ◌<◌, ◌≤◌, false, List, [], ◌∷◌, get_or, ◌⊎◌, inl, inr, refl, ap, subst, ◌∙◌, arith}
use Rattle.std.specs.List.Sorted.{IsSorted}
use Rattle.std.proofs.lemmas.Bool.{cases_lt}
use Rattle.std.specs.declared.cmp.Ordering.{Ordering}
use Rattle.std.specs.declared.cmp.Ordering.TheVariants.{Less, Equal, Greater}
use Rattle.std.specs.Ordering.{is_lt, is_gt, nat_cmp, ordering_then, ordering_reverse}
use Rattle.std.specs.Cmp.{IsTotalOrder, then_total, on_total, nat_cmp_total, int_cmp_total, upto}
use Rattle.std.specs.Cmp.Lexicographic.{nat_list_cmp_total}
use Rattle.puffin_merge.specs.declared.merge.tree.OrderedNode.{OrderedNode}
use Rattle.puffin_merge.specs.inner.Places.{EachOf, ordered_node_cmp}

turn_gt : (r : Ordering) → is_gt (ordering_reverse r) ≡ is_lt r
turn_gt Less = refl
turn_gt Equal = refl
turn_gt Greater = refl

-- each ordered node comes after none of those behind it
abbrev pub InRow : List OrderedNode → Type 0
InRow [] = Unit {0}
InRow (p ∷ ordered_nodes) = EachOf (λ q. is_gt (ordered_node_cmp p q) ≡ false) ordered_nodes × InRow ordered_nodes

-- the order of ordered nodes is total
pub ordered_node_cmp_total : IsTotalOrder ordered_node_cmp
ordered_node_cmp_total = then_total (on_total (λ (p : OrderedNode). p.parent.number) nat_cmp_total)
    (then_total (on_total (λ (p : OrderedNode). p.own_start) int_cmp_total)
    (then_total (on_total (λ (p : OrderedNode). p.id) nat_cmp_total) (then_total (on_total (λ (p : OrderedNode).
    p.text.now) nat_list_cmp_total) (on_total (λ (p : OrderedNode). p.number.number) nat_cmp_total))))

after_next : (p q : OrderedNode) (ordered_nodes : List OrderedNode)
    → is_gt (ordered_node_cmp p q) ≡ false → EachOf (λ z. is_gt (ordered_node_cmp q z) ≡ false) ordered_nodes
    → EachOf (λ z. is_gt (ordered_node_cmp p z) ≡ false) ordered_nodes
after_next p q [] h k = tt
after_next p q (z ∷ ordered_nodes) h k = (upto ordered_node_cmp_total p q z h k.0, after_next p q ordered_nodes h k.1)

-- in sorted nodes none comes before an earlier one, however far behind it is
pub in_row : (ordered_nodes : List OrderedNode) → IsSorted ordered_node_cmp ordered_nodes → InRow ordered_nodes
in_row [] h = tt
in_row (p ∷ []) h = (tt, tt)
in_row (p ∷ (q ∷ ordered_nodes)) h =
    let first : is_gt (ordered_node_cmp p q) ≡ false = ap is_gt (ordered_node_cmp_total.antisymm p q)
    ∙ turn_gt (ordered_node_cmp q p) ∙ h 0 p (omega arith) (omega arith) in
    let rest = in_row (q ∷ ordered_nodes) (λ k d low lt. let e : suc k + 1 ≡ suc (k + 1) = omega arith in
    subst (λ (n : ℕ). is_lt (ordered_node_cmp (get_or (p ∷ (q ∷ ordered_nodes)) n d)
    (get_or (q ∷ ordered_nodes) k d)) ≡ false) e (h (suc k) d (omega arith) (omega arith))) in
    ((first, after_next p q ordered_nodes first rest.0), rest)

-- the first field by which ordered nodes are compared is the parent's number
pub parents_rise : (p q : OrderedNode) → is_gt (ordered_node_cmp p q) ≡ false → p.parent.number ≤ q.parent.number
parents_rise p q h = by_order p.parent.number q.parent.number _ (cases_lt q.parent.number p.parent.number) h where
  by_order : (a b : ℕ) (s : Ordering) → (b < a) ⊎ (a ≤ b) → is_gt (ordering_then (nat_cmp a b) s) ≡ false → a ≤ b
  by_order a b s (inr le) h = le
  by_order a b s (inl lt) h = absurd (clash (nat_cmp a b) s (above a b lt) h) where
    above : (a b : ℕ) → b < a → nat_cmp a b ≡ Greater
    above a b lt = grind arith

    clash : (r s : Ordering) → r ≡ Greater → is_gt (ordering_then r s) ≡ false → ⊥
    clash Less s e h = cc
    clash Equal s e h = cc
    clash Greater s e h = cc

-- no parent's number is below that of an earlier node's parent
pub each_at_least : (p : OrderedNode) (ordered_nodes : List OrderedNode)
    → EachOf (λ q. is_gt (ordered_node_cmp p q) ≡ false) ordered_nodes
    → EachOf (λ q. p.parent.number ≤ q.parent.number) ordered_nodes
each_at_least p [] h = tt
each_at_least p (q ∷ ordered_nodes) h = (parents_rise p q h.0, each_at_least p ordered_nodes h.1)
