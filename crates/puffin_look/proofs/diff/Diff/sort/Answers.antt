-- The rows that are kept are the first of the sorted ones.
use Rattle.std.proofs.Common.{rules, ◌-◌, ◌^◌}
use Rattle.std.proofs.lemmas.List.Sorted.{IsNonDecreasingBy-from_sort_by_key}
use Rattle.puffin_look.specs.Diff.{change}
use Rattle.puffin_look.specs.declared.diff.DiffRow.{DiffRow}
use Rattle.puffin_look.proofs.diff.Diff.sort.Goals as goal

pub returns-clause-rows : goal.returns-clause-rows
returns-clause-rows c = (
  c.sort_by_key.new.self.items,
  record {
    same = c.in_ok-sort_by_key.ensures.permutation;
    greatest_first = IsNonDecreasingBy-from_sort_by_key (λ (row : DiffRow). 2 ^ 64 - 1 - change row)
        _ c.in_ok-sort_by_key.ensures.sorted (λ a r q k. search rules);
  },
  c.truncate.ensures.items,
)
