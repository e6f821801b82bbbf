use Rattle.puffin_merge.proofs.OneOutcome.{merged_once, not_both}
use Rattle.puffin_merge.proofs.merge.laws.one_outcome.Goals as goal

pub returns-clause-merged : goal.returns-clause-merged
returns-clause-merged c =
    merged_once (record {
      one_forest = c.one_forest.ensures.spelling;
      no_fault = c.no_fault_in_a_spelling.ensures;
      sees = c.scopes_of_a_walk.ensures.spelled;
    })

pub returns-clause-refused : goal.returns-clause-refused
returns-clause-refused c =
    not_both (record {
      one_forest = c.one_forest.ensures.spelling;
      no_fault = c.no_fault_in_a_spelling.ensures;
      sees = c.scopes_of_a_walk.ensures.spelled;
    })
