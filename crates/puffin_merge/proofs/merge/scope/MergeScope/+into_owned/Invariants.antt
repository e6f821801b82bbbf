-- The owned ones so far and the children that are left are the same as the children, and the text stays.
use Rattle.std.proofs.Common.{◌≡◌, ◌++◌}
use Rattle.std.specs.Cow.{cow_str_bytes}
use Rattle.puffin_merge.specs.declared.merge.scope.MergeScope.TheViews.{out-MergeScope}
use Rattle.puffin_merge.specs.Merge.Scopes.{forest_in}
use Rattle.puffin_merge.proofs.merge.scope.MergeScope.+into_owned.Given as goal

abbrev pub invariant-loop-child : goal.invariant-loop-child
invariant-loop-child l = record {
  children : forest_in (l.owned.items ++ l.child-iterator.rest.items)
      ≡ forest_in (out-MergeScope l.fn.self).children.items;
  text : cow_str_bytes l.text ≡ cow_str_bytes l.initial.text;
}
