-- The row of the scope stands, and behind it those of the children so far.
use Rattle.std.proofs.Common.{◌+◌, ◌≤◌, take, length}
use Rattle.puffin_c.specs.Merges.{AppendsNodes}
use Rattle.puffin_c.proofs.MergedListed.{nodes_of_all}
use Rattle.puffin_c.proofs.merged.MergedList.+append.Given as goal

abbrev pub invariant-loop-child : goal.invariant-loop-child
invariant-loop-child l = record {
  children : AppendsNodes l.initial.self (nodes_of_all (l.depth + 1) (take l.child-index l.child-items)) l.self;
  deep : l.depth + 1 ≤ length l.self.rows.items;
}
