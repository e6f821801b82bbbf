-- The copies so far are the same as the children so far.
use Rattle.std.proofs.Common.{◌≡◌, take}
use Rattle.puffin_merge.specs.Merge.Scopes.{forest_in}
use Rattle.puffin_merge.proofs.merge.scope.MergeScope.+clone.Given as goal

abbrev pub invariant-loop-child : goal.invariant-loop-child
invariant-loop-child l = forest_in l.children.items ≡ forest_in (take l.child-index l.child-items)
