-- The nodes of a table, with their starts, in the order in which the result is made from them.
use Rattle.std.specs.Prelude.{◌≡◌, ℕ, ◌+◌, ◌-◌, ◌/◌, ◌<◌, ◌==◌, pos, ◌+ℤ◌, FitsSigned, List, [], ◌∷◌, length, slice_index_or, string_bytes, All, ◌⊎◌, if◌then◌else◌}
use Rattle.std.specs.Int.{w64}
use Rattle.std.specs.declared.cmp.Ordering.{Ordering}
use Rattle.std.specs.Ordering.{nat_cmp, int_cmp, on, then_cmp}
use Rattle.std.specs.Cmp.Lexicographic.{slice_cmp}
use Rattle.std.specs.List.Sorted.{IsSorted}
use Rattle.puffin_merge.specs.declared.merge.table.Node.{Node}
use Rattle.puffin_merge.specs.declared.merge.tree.OrderedNode.{OrderedNode}
use Rattle.puffin_merge.specs.declared.merge.tree.Placement.{Placement}
use Rattle.puffin_merge.specs.declared.merge.table.PieceTotals.{PieceTotals}
use Rattle.puffin_merge.specs.Merge.Occurrences.{Label}
use Rattle.puffin_merge.specs.Merge.Starts.{earliest_start}
use Rattle.puffin_merge.specs.Merge.Tree as forests

-- the ordered node made from the node at place k
pub record IsOrderedNodeAt (nodes : List Node) (k : ℕ) (ordered : OrderedNode) : Type 0 where
  pub number : ordered.number.number ≡ k + 1
  pub parent : (default : Node) →
      ordered.parent.number ≡ (slice_index_or nodes k default).key.parent.number
  pub own_start : (default : Node) →
      ordered.own_start ≡ (slice_index_or nodes k default).sums.own_start
  pub id : (default : Node) → ordered.id ≡ (slice_index_or nodes k default).key.id
  pub text : (default : Node) →
      ordered.text.now ≡ string_bytes (slice_index_or nodes k default).key.text

-- an ordered node made from one of the nodes
abbrev pub IsOrderedNodeOf : List Node → OrderedNode → Type 0
IsOrderedNodeOf nodes ordered = (k : ℕ) × (k < length nodes) × IsOrderedNodeAt nodes k ordered

abbrev pub node_label : OrderedNode → Label
node_label ordered = record { id = ordered.id; text = ordered.text.now }

-- the property holds for some element, by recursion
abbrev pub SomeOf : {A : Type 0} → (A → Type 0) → List A → Type 0
SomeOf P [] = ⊥
SomeOf P (first ∷ others) = P first ⊎ SomeOf P others

-- the property holds for each element, by recursion
abbrev pub EachOf : {A : Type 0} → (A → Type 0) → List A → Type 0
EachOf P [] = Unit {0}
EachOf P (first ∷ others) = P first × EachOf P others

-- no two ordered nodes have the same number
abbrev pub AreApart : List OrderedNode → Type 0
AreApart [] = Unit {0}
AreApart (first ∷ others) =
    EachOf (λ other. first.number.number ≡ other.number.number → ⊥) others × AreApart others

-- by parent's number, then as siblings, and then by number
abbrev pub ordered_node_cmp : OrderedNode → OrderedNode → Ordering
ordered_node_cmp =
    then_cmp (on (λ node. node.parent.number) nat_cmp) (
    then_cmp (on (λ node. node.own_start) int_cmp) (
    then_cmp (on (λ node. node.id) nat_cmp) (
    then_cmp (on (λ node. node.text.now) (slice_cmp nat_cmp)) (
    on (λ node. node.number.number) nat_cmp))))

-- one ordered node for each of the nodes, sorted
pub record AreOrderedNodesOf (nodes : List Node) (ordered_nodes : List OrderedNode) : Type 0 where
  pub size : length ordered_nodes ≡ length nodes
  pub each : All (IsOrderedNodeOf nodes) ordered_nodes
  pub whole : (k : ℕ) → k < length nodes →
      SomeOf (λ ordered. ordered.number.number ≡ k + 1) ordered_nodes
  pub apart : AreApart ordered_nodes
  pub sorted : IsSorted ordered_node_cmp ordered_nodes

-- the start of the walk over the nodes: no node, and an end of 0
abbrev pub above_all : Placement
above_all = record { parent = 0; start = pos 0; end = pos 0 }

-- The place of the next node, with these sums, after that of the node before it. It starts as early as possible: not before the
-- end of the node before it, if that is a sibling, and not before 0.
abbrev pub placement_after : ℕ → PieceTotals → OrderedNode → Placement → Placement
placement_after frames sums next before =
    let start = earliest_start
    (if next.parent.number == before.parent then before.end else pos 0)
    (record { own_start = next.own_start; duration = sums.total / frames }) in
    record { parent = next.parent.number; start = start; end = start +ℤ pos (sums.total / frames) }

-- the same, with the sums of the node that the ordered node was made from
abbrev pub next_placement : List Node → ℕ → Placement → OrderedNode → Node → Placement
next_placement nodes frames before next default =
    placement_after frames (slice_index_or nodes (next.number.number - 1) default).sums next before

-- the places of these ordered nodes, one after the other
abbrev pub placements_from : List Node → ℕ → Placement → List OrderedNode → Node → List Placement
placements_from nodes frames before [] default = []
placements_from nodes frames before (next ∷ others) default =
    let placement = next_placement nodes frames before next default in
    placement ∷ placements_from nodes frames placement others default

abbrev pub EndFits : Placement → Type 0
EndFits placement = FitsSigned w64 placement.end

-- the merged node of an ordered node, with these sums, at this place
abbrev pub placed_node : ℕ → PieceTotals → OrderedNode → Placement → forests.Node
placed_node frames sums ordered placement = record {
  label = node_label ordered;
  start = placement.start;
  total = pos sums.total;
  per_frame = pos (sums.total / frames);
  greatest = pos sums.greatest;
  pieces = sums.number;
}
