use Rattle.std.proofs.Common.{◌≡◌, ℕ, ◌<◌, length, get_or}
use Rattle.puffin_merge.specs.declared.merge.tree.OrderedNode.{OrderedNode}
use Rattle.puffin_merge.specs.inner.Places.{IsOrderedNodeAt}
use Rattle.puffin_merge.proofs.merge.tree.ordered_nodes.Given as goal

abbrev pub invariant-loop-i : goal.invariant-loop-i
invariant-loop-i l = record {
  size : length l.ordered_nodes.items ≡ l.i;
  each : (k : ℕ) (d : OrderedNode) → k < length l.ordered_nodes.items
      → IsOrderedNodeAt l.table.nodes.items k (get_or l.ordered_nodes.items k d);
}
