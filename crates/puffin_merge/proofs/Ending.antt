-- Where all ends in the forest of a table's entries fit, those of all its ordered nodes do.
use denote.RawPtr.{null_ptr}
use Rattle.std.proofs.lemmas.Str.{IsUtf8-nil}
use Rattle.std.proofs.Common.{◌≡◌, ℕ, ◌+◌, ◌-◌, ◌<◌, ◌≤◌, pos, ◌^◌, ◌+ℤ◌, FitsSigned, Bool, true, false, cond, eqb, List, [], ◌∷◌, length, get_or, ◌⊎◌, inl, inr, refl, sym, ap, subst, ◌∙◌, arith, w64, vec_len}
use Rattle.std.specs.List.{AllByRecursion}
use Rattle.std.proofs.lemmas.Bool.{cases_eq}
use Rattle.std.proofs.lemmas.List.Elements.{recursion_from_All}
use Rattle.puffin_merge.specs.declared.merge.table.Table.{Table}
use Rattle.puffin_merge.specs.declared.merge.table.Node.{Node}
use Rattle.puffin_merge.specs.declared.merge.tree.OrderedNode.{OrderedNode}
use Rattle.puffin_merge.specs.declared.merge.tree.Placement.{Placement}
use Rattle.puffin_merge.specs.Merge.Occurrences.{Occurrence}
use Rattle.puffin_merge.specs.Merge.Tree.{MergedForest, merged}
use Rattle.puffin_merge.specs.Merge.Refusals.{EndsFit}
use Rattle.puffin_merge.proofs.Assembled.{node_of, forest_below, entry_of, entries_from}
use Rattle.puffin_merge.specs.inner.Tables.{IsTableOf}
use Rattle.puffin_merge.specs.inner.Places.{IsOrderedNodeOf, SomeOf, EachOf, EndFits, AreOrderedNodesOf, above_all, next_placement, placements_from}
use Rattle.puffin_merge.specs.Merge.{IsMerge}
use Rattle.puffin_merge.proofs.OrderedRows.{InRow, in_row, each_at_least}
use Rattle.puffin_merge.proofs.PlaceEntries.{forest_merged}

-- each parent is known, or stands before
abbrev ParentsKnown : List OrderedNode → (ℕ → Type 0) → Type 0
ParentsKnown [] known = Unit {0}
ParentsKnown (p ∷ ordered_nodes) known =
    known p.parent.number × ParentsKnown ordered_nodes (λ q. known q ⊎ (q ≡ p.number.number))

eqb_same : (a b : ℕ) → a ≡ b → eqb a b ≡ true
eqb_same a b h = grind arith

-- the ends of what stands below a number, without the first entry
later_fit : (b : Bool) (n : _) (below others : MergedForest) → EndsFit (cond b (merged n below others) others)
    → EndsFit others
later_fit true n below others (ends, in_children, in_others) = in_others
later_fit false n below others h = h

first_fit : (b : Bool) (n : _) (below others : MergedForest) → b ≡ true
    → EndsFit (cond b (merged n below others) others) → FitsSigned w64 (n.start +ℤ n.per_frame) × EndsFit below
first_fit true n below others e (ends, in_children, in_others) = (ends, in_children)
first_fit false n below others e h = absurd (cc)

-- By recursion: the first node stands in the forest below its parent, which is known; and its own children are in the forest
-- below it, so its number becomes known.
all_fit : (nodes : List Node) (frames : ℕ) (ordered_nodes : List OrderedNode) (before : Placement) (d : Node)
    (known : ℕ → Type 0) → ParentsKnown ordered_nodes known
    → ((q : ℕ) → known q → EndsFit (forest_below frames q (entries_from nodes frames before ordered_nodes d)))
    → EachOf EndFits (placements_from nodes frames before ordered_nodes d)
all_fit nodes frames [] before d known k h = tt
all_fit nodes frames (p ∷ ordered_nodes) before d known (parent_known, later_known) h =
    let x = next_placement nodes frames before p d in
    let e = entry_of nodes p x d in
    let rest = entries_from nodes frames x ordered_nodes d in
    let (ends, in_children) = first_fit (eqb p.parent.number p.parent.number)
    (node_of frames e) (forest_below frames p.number.number rest) (forest_below frames p.parent.number rest)
    (eqb_same p.parent.number p.parent.number refl) (h p.parent.number parent_known) in (
      ends,
      all_fit nodes frames ordered_nodes x d (λ q. known q ⊎ (q ≡ p.number.number)) later_known
          (λ q known_q. elim known_q [
            | inl before_it ↦ later_fit (eqb p.parent.number q) (node_of frames e)
                (forest_below frames p.number.number rest) (forest_below frames q rest) (h q before_it)
            | inr is_it ↦ subst (λ (n : ℕ). EndsFit (forest_below frames n rest)) (sym is_it) in_children
          ]),
    )

-- ---- each parent's ordered node stands before

-- a parent's number is lower than its own
parent_low : (t : Table) (p : OrderedNode) (all : List Occurrence) → IsTableOf all t → IsOrderedNodeOf t.nodes.items p
    → p.parent.number < p.number.number
parent_low t p all table of =
    let (k, inside, at) = of in
    let number = at.number in
    let d = some_node t.nodes.items k inside in
    let parent = at.parent d in
    let early = (table.each k d (omega (arith, inside, t.nodes.ok.0))).earlier in
    omega (arith, number, parent, early)
  where
    some_node : (nodes : List Node) (k : ℕ) → k < length nodes → Node
    some_node [] k h = absurd (omega arith)
    some_node (n ∷ nodes) k h = n

-- a number isn't among those whose parents aren't lower
not_after : (all : List Occurrence) (t : Table) (q : ℕ) (ordered_nodes : List OrderedNode) → IsTableOf all t
    → AllByRecursion (IsOrderedNodeOf t.nodes.items) ordered_nodes → EachOf (λ z. q ≤ z.parent.number) ordered_nodes
    → SomeOf (λ z. z.number.number ≡ q) ordered_nodes → ⊥
not_after all t q [] table of low none = elim none [ ]
not_after all t q (z ∷ ordered_nodes) table (of, others) (high, highs) (inl is) =
    let under = parent_low t z all table of in absurd (omega arith)
not_after all t q (z ∷ ordered_nodes) table (of, others) (high, highs) (inr more) =
    not_after all t q ordered_nodes table others highs more

-- in sorted nodes each parent stands before its children, since its number is lower
parents_known : (all : List Occurrence) (t : Table) (ordered_nodes : List OrderedNode) (known : ℕ → Type 0)
    → IsTableOf all t → AllByRecursion (IsOrderedNodeOf t.nodes.items) ordered_nodes → InRow ordered_nodes → known 0
    → ((q : ℕ) → 0 < q → q ≤ length t.nodes.items → known q ⊎ SomeOf (λ z. z.number.number ≡ q) ordered_nodes)
    → ParentsKnown ordered_nodes known
parents_known all t [] known table of row top h = tt
parents_known all t (p ∷ ordered_nodes) known table of row top h = (
  this (cases_eq p.parent.number 0),
  parents_known all t ordered_nodes (λ q. known q ⊎ (q ≡ p.number.number)) table of.1 row.1 (inl top)
      (λ q low high. elim (h q low high) [
        | inl k ↦ inl (inl k)
        | inr (inl e) ↦ inl (inr (sym e))
        | inr (inr more) ↦ inr more
      ]),
)
  where
    under : p.parent.number < p.number.number
    under = parent_low t p all table of.0

    this : (p.parent.number ≡ 0) ⊎ (p.parent.number ≡ 0 → ⊥) → known p.parent.number
    this (inl e) = subst known (sym e) top
    this (inr other) =
        let number = of.0.2.number in
        let inside = of.0.1 in
        let below = under in
        elim (h p.parent.number (omega arith) (omega arith)) [
          | inl k ↦ k
          | inr (inl e) ↦ absurd (omega arith)
          | inr (inr more) ↦ absurd
              (not_after all t p.parent.number ordered_nodes table of.1 (each_at_least p ordered_nodes row.0) more)
        ]

-- if all ends of the table's forest fit, so do those of all placements
pub ends_of_forest : (all : List Occurrence) (t : Table) (frames : ℕ) (ordered_nodes : List OrderedNode) (d : Node)
    → IsTableOf all t → AreOrderedNodesOf t.nodes.items ordered_nodes
    → EndsFit (forest_below frames 0 (entries_from t.nodes.items frames above_all ordered_nodes d))
    → EachOf EndFits (placements_from t.nodes.items frames above_all ordered_nodes d)
ends_of_forest all t frames ordered_nodes d table are fit =
    all_fit t.nodes.items frames ordered_nodes above_all d (λ q. q ≡ 0)
    (parents_known all t ordered_nodes (λ q. q ≡ 0) table (recursion_from_All (IsOrderedNodeOf t.nodes.items)
    ordered_nodes are.each) (in_row ordered_nodes are.sorted) refl (λ q low high. inr (named q low high)))
    (λ q e. subst (λ (n : ℕ). EndsFit
    (forest_below frames n (entries_from t.nodes.items frames above_all ordered_nodes d))) (sym e) fit)
  where
    named : (q : ℕ) → 0 < q → q ≤ length t.nodes.items → SomeOf (λ z. z.number.number ≡ q) ordered_nodes
    named q low high = let e : (q - 1) + 1 ≡ q = omega arith in
        subst (λ (n : ℕ). SomeOf (λ (z : OrderedNode). z.number.number ≡ n) ordered_nodes) e
        (are.whole (q - 1) (omega arith))

-- an end that doesn't fit is one of the merge
pub ends_refused_by : (t : Table) (frames : ℕ) (ordered_nodes : List OrderedNode)
    → AreOrderedNodesOf t.nodes.items ordered_nodes → (d : Node)
    → (EachOf EndFits (placements_from t.nodes.items frames above_all ordered_nodes d) → ⊥)
    → (all : List Occurrence) → IsTableOf all t → (f : MergedForest) × IsMerge all frames f × (EndsFit f → ⊥)
ends_refused_by t frames ordered_nodes are d no_fit all table = (
  forest_below frames 0 (entries_from t.nodes.items frames above_all ordered_nodes d),
  forest_merged all t frames
      ordered_nodes d table are,
  λ fit. no_fit (ends_of_forest all t frames ordered_nodes d table are fit),
)

-- some node, where there is an ordered node
pub node_for : (t : Table) (ordered_nodes : List OrderedNode) → AreOrderedNodesOf t.nodes.items ordered_nodes
    → 0 < length ordered_nodes → Node
node_for t ordered_nodes are some = first t.nodes.items (omega (arith, are.size)) where
  first : (nodes : List Node) → 0 < length nodes → Node
  first [] h = absurd (omega arith)
  first (n ∷ nodes) h = n

-- some node, whatever it is
abbrev pub blank : Node
blank = record {
  key = record {
    parent = record { number = 0 };
    id = 0;
    text =
        record {
          bytes = record {
            ptr = null_ptr;
            len = 0;
            cap = 0;
            alloc = record { memory = record { seal = tt } };
            items = [];
            ok = (refl, omega arith);
            small = omega arith;
          };
          ok = ∣ IsUtf8-nil ∣₁;
        };
  };
  sums = record { number = 0; total = 0; greatest = 0; own_start = pos 0 };
}

-- without ordered nodes nothing is placed
pub placements_some : (t : Table) (frames : ℕ) (ordered_nodes : List OrderedNode)
    → AreOrderedNodesOf t.nodes.items ordered_nodes
    → ((d : Node) → EachOf EndFits (placements_from t.nodes.items frames above_all ordered_nodes d) → ⊥)
    → (all : List Occurrence) → IsTableOf all t → (f : MergedForest) × IsMerge all frames f × (EndsFit f → ⊥)
placements_some t frames [] are no_fit all table = absurd (no_fit blank tt)
placements_some t frames (p ∷ ordered_nodes) are no_fit all table =
    let d = node_for t (p ∷ ordered_nodes) are (omega arith) in
    ends_refused_by t frames (p ∷ ordered_nodes) are d (no_fit d) all table

-- what an ordered node's node allows
pub record Usable (t : Table) (p : OrderedNode) (n : Node) : Type 0 where
  pub low : 0 < p.number.number
  pub high : p.number.number ≤ vec_len t.nodes
  pub parent : p.parent.number < p.number.number
  pub id : 0 < p.id
  pub small : n.sums.total < 2 ^ 63
  pub greatest : n.sums.greatest < 2 ^ 63

-- each ordered node has a node in the table, behind its parent, and its sums fit
pub usable : (t : Table) (ordered_nodes : List OrderedNode) (i : ℕ) (p q : OrderedNode) (n d : Node)
    → (all : List Occurrence) × IsTableOf all t → AreOrderedNodesOf t.nodes.items ordered_nodes
    → i < length ordered_nodes → p ≡ get_or ordered_nodes i q → n ≡ get_or t.nodes.items (p.number.number - 1) d
    → Usable t p n
usable t ordered_nodes i p q n d some are lt e en =
    let of : IsOrderedNodeOf t.nodes.items p = subst (IsOrderedNodeOf t.nodes.items) (sym e) (are.each i q lt) in
    let number = of.2.number in
    let inside = of.1 in
    let ordered_node : p.number.number - 1 ≡ of.0 = omega arith in
    let is = some.1.each of.0 d (omega (arith, inside, t.nodes.ok.0)) in
    let same : n ≡ get_or t.nodes.items of.0 d = en ∙ ap (λ (k : ℕ). get_or t.nodes.items k d) ordered_node in
    let small : n.sums.total < 2 ^ 63 = subst (λ (m : Node). m.sums.total < 2 ^ 63) (sym same) is.small in
    let greatest : n.sums.greatest ≤ n.sums.total =
    subst (λ (m : Node). m.sums.greatest ≤ m.sums.total) (sym same) is.greatest in
    let id = of.2.id d in
    let has_id = is.id in
    record {
      low = omega arith;
      high = omega (arith, inside, t.nodes.ok.0);
      parent = parent_low t p some.0 some.1 of;
      id = omega (arith, id, has_id);
      small = small;
      greatest = omega arith;
    }

-- there is one placement for each ordered node
pub placements_size : (nodes : List Node) (frames : ℕ) (ordered_nodes : List OrderedNode) (before : Placement)
    (d : Node) → length (placements_from nodes frames before ordered_nodes d) ≡ length ordered_nodes
placements_size nodes frames [] before d = refl
placements_size nodes frames (p ∷ ordered_nodes) before d =
    let e = placements_size nodes frames ordered_nodes (next_placement nodes frames before p d) d in omega arith
