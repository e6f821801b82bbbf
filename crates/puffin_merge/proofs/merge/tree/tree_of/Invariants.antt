-- The rows so far: empty, and then with the forests of the ordered nodes from the last one on.
use Rattle.std.proofs.Common.{◌≡◌, ◌+◌, drop, vec_len}
use Rattle.puffin_merge.proofs.Attaching.{AreEmpty, HoldForests}
use Rattle.puffin_merge.proofs.merge.tree.tree_of.Given as goal

abbrev pub invariant-empty : goal.invariant-empty
invariant-empty l = record {
  size : vec_len l.rows ≡ l._made;
  empty : AreEmpty l.rows.items;
}

abbrev pub invariant-nodes : goal.invariant-nodes
invariant-nodes l = record {
  size : vec_len l.rows ≡ vec_len l.ordered_nodes + 1;
  forests : HoldForests l.table.nodes.items l.frames l.rows.items (drop l.i l.ordered_nodes.items)
      (drop l.i l.placements.items);
}
