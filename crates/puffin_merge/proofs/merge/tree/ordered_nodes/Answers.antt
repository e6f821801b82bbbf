-- The ordered nodes were made in the nodes' order, and then sorted.
use Rattle.std.proofs.Common.{arith}
use Rattle.puffin_merge.proofs.NodePlaces.{places_sorted}
use Rattle.puffin_merge.proofs.merge.tree.ordered_nodes.Goals as goal

pub returns-clause-ordered_nodes : goal.returns-clause-ordered_nodes
returns-clause-ordered_nodes c =
    places_sorted c.args.table.now.nodes.items c.loop-i.ordered_nodes.items c.sort.new.self.items
    (omega (arith, c.args.table.now.nodes.ok.0, c.len-i-end.ensures)) c.loop-i.invariant.each
    c.in_ok-sort.ensures.permutation c.in_ok-sort.ensures.sorted
