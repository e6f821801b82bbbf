-- The placements so far are a prefix of all, and their ends fit.
use Rattle.std.proofs.Common.{◌≡◌, ◌++◌, drop}
use Rattle.puffin_merge.specs.declared.merge.table.Node.{Node}
use Rattle.puffin_merge.specs.inner.Places.{above_all, placements_from, EachOf, EndFits}
use Rattle.puffin_merge.proofs.merge.tree.place_nodes.Given as goal

abbrev pub invariant-loop-ordered : goal.invariant-loop-ordered
invariant-loop-ordered l = record {
  rest : (d : Node) → placements_from l.table.nodes.items l.frames above_all l.ordered_nodes d ≡ l.placements.items
      ++ placements_from l.table.nodes.items l.frames l.last (drop l.ordered-index l.ordered_nodes) d;
  fit : EachOf EndFits l.placements.items;
}
