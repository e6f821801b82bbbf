-- The rows of the scopes so far stand.
use Rattle.std.proofs.Common.{take}
use Rattle.puffin_c.specs.Merges.{AppendsNodes}
use Rattle.puffin_c.proofs.MergedListed.{nodes_of_all}
use Rattle.puffin_c.proofs.merged.list_of.Given as goal

abbrev pub invariant-loop-scope : goal.invariant-loop-scope
invariant-loop-scope l = AppendsNodes l.initial.list (nodes_of_all 0 (take l.scope-index l.scopes)) l.list
