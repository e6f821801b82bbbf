-- The children of each parent, placed one after the other, have the earliest starts. The ordered nodes of one parent stand
-- together, so all children of a parent are placed without another node between them.
use Rattle.std.proofs.Common.{◌≡◌, ℕ, ◌-◌, ◌/◌, ◌<◌, ◌≤◌, ℤ, pos, Bool, true, false, cond, eqb, List, [], ◌∷◌, get_or, map, inl, inr, refl, sym, ap, ◌∙◌, arith}
use Rattle.std.specs.List.{AllByRecursion}
use Rattle.std.proofs.lemmas.Bool.Decides.{nat_tests}
use Rattle.std.proofs.lemmas.Bool.{cases_eq}
use Rattle.puffin_merge.specs.declared.merge.table.Node.{Node}
use Rattle.puffin_merge.specs.declared.merge.tree.OrderedNode.{OrderedNode}
use Rattle.puffin_merge.specs.declared.merge.tree.Placement.{Placement}
use Rattle.puffin_merge.specs.Merge.Starts.{Sibling, earliest_starts, earliest_start, end_from}
use Rattle.puffin_merge.specs.Merge.{sibling_of}
use Rattle.puffin_merge.proofs.Assembled.{Entry, children_of, entry_of, entries_from}
use Rattle.puffin_merge.specs.inner.Tables.{merged_of_sums}
use Rattle.puffin_merge.specs.inner.Places.{IsOrderedNodeOf, EachOf, placement_after, next_placement}
use Rattle.puffin_merge.proofs.OrderedRows.{InRow, each_at_least}

eqb_is : (a b : ℕ) → eqb a b ≡ true → a ≡ b
eqb_is a b h = grind (arith, nat_tests)

eqb_not : (a b : ℕ) → eqb a b ≡ false → a ≡ b → ⊥
eqb_not a b h e = grind (arith, nat_tests)

eqb_same : (a b : ℕ) → a ≡ b → eqb a b ≡ true
eqb_same a b h = grind arith

eqb_other : (a b : ℕ) → (a ≡ b → ⊥) → eqb a b ≡ false
eqb_other a b h = grind arith

abbrev rest_of : List Node → ℕ → Placement → OrderedNode → List OrderedNode → Node → List Entry
rest_of nodes frames before p ordered_nodes d =
    entries_from nodes frames (next_placement nodes frames before p d) ordered_nodes d

-- an ordered node that is no child, and one that is
skips : (nodes : List Node)
    (frames : ℕ) (before : Placement) (parent : ℕ) (p : OrderedNode) (ordered_nodes : List OrderedNode) (d : Node)
    → eqb p.parent.number parent ≡ false → children_of parent (entries_from nodes frames before (p ∷ ordered_nodes) d)
    ≡ children_of parent (rest_of nodes frames before p ordered_nodes d)
skips nodes frames before parent p ordered_nodes d e =
    ap (λ (b : Bool). cond b (entry_of nodes p (next_placement nodes frames before p d) d
    ∷ children_of parent (rest_of nodes frames before p ordered_nodes d))
    (children_of parent (rest_of nodes frames before p ordered_nodes d))) e

takes : (nodes : List Node) (frames : ℕ) (before : Placement) (parent : ℕ) (p : OrderedNode)
    (ordered_nodes : List OrderedNode) (d : Node) → eqb p.parent.number parent ≡ true
    → children_of parent (entries_from nodes frames before (p ∷ ordered_nodes) d) ≡ entry_of nodes p (next_placement
    nodes frames before p d) d ∷ children_of parent (rest_of nodes frames before p ordered_nodes d)
takes nodes frames before parent p ordered_nodes d e =
    ap (λ (b : Bool). cond b (entry_of nodes p (next_placement nodes frames before p d) d
    ∷ children_of parent (rest_of nodes frames before p ordered_nodes d))
    (children_of parent (rest_of nodes frames before p ordered_nodes d))) e

-- no child of a parent that stands before
none_of : (nodes : List Node) (frames : ℕ) (parent low : ℕ) (ordered_nodes : List OrderedNode)
    (before : Placement) (d : Node) → parent < low → EachOf (λ q. low ≤ q.parent.number) ordered_nodes
    → children_of parent (entries_from nodes frames before ordered_nodes d) ≡ []
none_of nodes frames parent low [] before d lt h = refl
none_of nodes frames parent low (p ∷ ordered_nodes) before d lt h =
    let at_least = h.0 in
    skips nodes frames before parent p ordered_nodes d (eqb_other p.parent.number parent (λ e. omega arith))
    ∙ none_of nodes frames parent low ordered_nodes _ d lt h.1

abbrev pub starts_of : List Entry → List ℤ
starts_of entries = map (λ e. e.start) entries

abbrev pub siblings_of : ℕ → List Entry → List Sibling
siblings_of frames entries = map (λ e. sibling_of e.merged frames) entries

-- what is free for the first child of a parent, after what was placed before
abbrev pub free_of : ℕ → Placement → ℤ
free_of parent before = cond (eqb parent before.parent) before.end (pos 0)

-- an ordered node has the own start of its node
pub own_is : (nodes : List Node) (p : OrderedNode) (d : Node) → IsOrderedNodeOf nodes p
    → p.own_start ≡ (get_or nodes (p.number.number - 1) d).sums.own_start
own_is nodes p d of =
    let number = of.2.number in
    let ordered_node : of.0 ≡ p.number.number - 1 = omega arith in
    of.2.own_start d ∙ ap (λ (k : ℕ). (get_or nodes k d).sums.own_start) ordered_node

-- the starts of a parent's children are the earliest
abbrev pub Earliest : ℕ → ℕ → List Entry → Placement → Type 0
Earliest frames parent entries before = starts_of (children_of parent entries)
    ≡ earliest_starts (free_of parent before) (siblings_of frames (children_of parent entries))

-- without children, whatever is free
earliest_of_none : (frames parent : ℕ) (entries : List Entry) (a b : Placement) → children_of parent entries ≡ []
    → Earliest frames parent entries a → Earliest frames parent entries b
earliest_of_none frames parent entries a b none h = ap starts_of none
    ∙ ap (λ (es : List Entry). earliest_starts (free_of parent b) (siblings_of frames es)) (sym none)

-- A node that is no child of the parent: if the parent's children stood before, none come after; else nothing is placed for the
-- parent yet.
not_child : (nodes : List Node) (frames parent : ℕ) (p : OrderedNode) (ordered_nodes : List OrderedNode)
    (before : Placement) (d : Node) → EachOf (λ q. p.parent.number ≤ q.parent.number) ordered_nodes
    → before.parent ≤ p.parent.number → eqb p.parent.number parent ≡ false
    → Earliest frames parent (rest_of nodes frames before p ordered_nodes d) (next_placement nodes frames before p d)
    → Earliest frames parent (entries_from nodes frames before (p ∷ ordered_nodes) d) before
not_child nodes frames parent p ordered_nodes before d later low e h =
    let skip = skips nodes frames before parent p ordered_nodes d e in
    let rest = rest_of nodes frames before p ordered_nodes d in
    let apart = eqb_not p.parent.number parent e in
    let moved : Earliest frames parent rest before = elim (cases_eq parent before.parent) [
      | inl same ↦
          earliest_of_none frames parent rest (next_placement nodes frames before p d) before
          (none_of nodes frames parent p.parent.number ordered_nodes (next_placement nodes frames before p d) d
          (strictly before.parent p.parent.number parent low (sym same) apart) later) h
      | inr other ↦
          h ∙ ap (λ (t : ℤ). earliest_starts t (siblings_of frames (children_of parent rest)))
          (ap (λ (b : Bool). cond b (next_placement nodes frames before p d).end (pos 0))
          (eqb_other parent p.parent.number (λ f. apart (sym f)))
          ∙ sym (ap (λ (b : Bool). cond b before.end (pos 0)) (eqb_other parent before.parent other)))
    ] in
    ap starts_of skip ∙ moved
    ∙ ap (λ (es : List Entry). earliest_starts (free_of parent before) (siblings_of frames es)) (sym skip)
  where
    strictly : (low here parent : ℕ) → low ≤ here → low ≡ parent → (here ≡ parent → ⊥) → parent < here
    strictly low here parent h e apart = elim (cases_eq here parent) [
      | inl same ↦ absurd (apart same)
      | inr other ↦ omega arith
    ]

-- A child of the parent: it starts as early as what is free allows, and its end is free for the next one.
is_child : (nodes : List Node) (frames parent : ℕ) (p : OrderedNode) (ordered_nodes : List OrderedNode)
    (before : Placement) (d : Node) → IsOrderedNodeOf nodes p → eqb p.parent.number parent ≡ true
    → Earliest frames parent (rest_of nodes frames before p ordered_nodes d) (next_placement nodes frames before p d)
    → Earliest frames parent (entries_from nodes frames before (p ∷ ordered_nodes) d) before
is_child nodes frames parent p ordered_nodes before d of e h =
    let take = takes nodes frames before parent p ordered_nodes d e in
    let rest = rest_of nodes frames before p ordered_nodes d in
    let sums = (get_or nodes (p.number.number - 1) d).sums in
    let x = placement_after frames sums p before in
    let same : p.parent.number ≡ parent = eqb_is p.parent.number parent e in
    let s : Sibling = sibling_of (merged_of_sums sums) frames in
    let start : x.start ≡ earliest_start (free_of parent before) s =
    ap (λ (n : ℕ). earliest_start (cond (eqb n before.parent) before.end (pos 0))
    (record { own_start = p.own_start; duration = sums.total / frames })) same
    ∙ ap (λ (t : ℤ). earliest_start (free_of parent before)
    (record { own_start = t; duration = sums.total / frames })) (own_is nodes p d of) in
    let free : free_of parent x ≡ end_from (earliest_start (free_of parent before) s) s =
    ap (λ (b : Bool). cond b x.end (pos 0)) (eqb_same parent p.parent.number (sym same))
    ∙ ap (λ (t : ℤ). end_from t s) start in
    ap starts_of take
    ∙ ap (λ (t : ℤ). t ∷ starts_of (children_of parent rest)) start
    ∙ ap (λ (ts : List ℤ). earliest_start (free_of parent before) s ∷ ts)
    (h ∙ ap (λ (t : ℤ). earliest_starts t (siblings_of frames (children_of parent rest))) free)
    ∙ ap (λ (es : List Entry). earliest_starts (free_of parent before) (siblings_of frames es)) (sym take)

-- the children of each parent have the earliest starts
pub starts_earliest : (nodes : List Node) (frames parent : ℕ) (ordered_nodes : List OrderedNode)
    (before : Placement) (d : Node) → AllByRecursion (IsOrderedNodeOf nodes) ordered_nodes → InRow ordered_nodes
    → EachOf (λ q. before.parent ≤ q.parent.number) ordered_nodes
    → Earliest frames parent (entries_from nodes frames before ordered_nodes d) before
starts_earliest nodes frames parent [] before d of row low = refl
starts_earliest nodes frames parent (p ∷ ordered_nodes) before d of row low =
    by_test nodes frames parent p ordered_nodes before d of row low (eqb p.parent.number parent) refl
    (starts_earliest nodes frames parent ordered_nodes (next_placement nodes frames before p d) d of.1 row.1
    (each_at_least p ordered_nodes row.0))
  where
    by_test : (nodes : List Node) (frames parent : ℕ) (p : OrderedNode) (ordered_nodes : List OrderedNode)
        (before : Placement) (d : Node) → AllByRecursion (IsOrderedNodeOf nodes) (p ∷ ordered_nodes)
        → InRow (p ∷ ordered_nodes) → EachOf (λ q. before.parent ≤ q.parent.number) (p ∷ ordered_nodes)
        → (b : Bool) → eqb p.parent.number parent ≡ b → Earliest
        frames parent (rest_of nodes frames before p ordered_nodes d) (next_placement nodes frames before p d)
        → Earliest frames parent (entries_from nodes frames before (p ∷ ordered_nodes) d) before
    by_test nodes frames parent p ordered_nodes before d of row low false e h =
        not_child nodes frames parent p ordered_nodes before d (each_at_least p ordered_nodes row.0) low.0 e h
    by_test nodes frames parent p ordered_nodes before d of row low true e h =
        is_child nodes frames parent p ordered_nodes before d of.0 e h
