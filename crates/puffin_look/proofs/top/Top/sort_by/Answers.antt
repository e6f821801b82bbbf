-- The rows that are kept are the first of the sorted ones.
use Rattle.std.proofs.Common.{rules, ◌-◌, ◌^◌}
use Rattle.std.proofs.lemmas.List.Sorted.{IsNonDecreasingBy-from_sort_by_key}
use Rattle.puffin_look.specs.Top.{weight}
use Rattle.puffin_look.specs.declared.top.TopRow.{TopRow}
use Rattle.puffin_look.proofs.top.Top.sort_by.Goals as goal

pub returns-clause-rows : goal.returns-clause-rows
returns-clause-rows c = (
  c.sort_by_key.new.self.items,
  record {
    same = c.in_ok-sort_by_key.ensures.permutation;
    heaviest_first = IsNonDecreasingBy-from_sort_by_key (λ (row : TopRow). 2 ^ 64 - 1 - weight c.args.order row)
        _ c.in_ok-sort_by_key.ensures.sorted (λ a r q k. search rules);
  },
  c.truncate.ensures.items,
)
