-- By induction over the forest.
use Rattle.puffin_data.proofs.lemmas.ForestRanges.{least_in_range, greatest_in_range, ordered}
use Rattle.puffin_data.proofs.laws.range_of_a_forest.Goals as goal

pub returns-clause-start : goal.returns-clause-start
returns-clause-start c forest = least_in_range forest

pub returns-clause-stop : goal.returns-clause-stop
returns-clause-stop c forest = greatest_in_range forest

pub returns-clause-ordered : goal.returns-clause-ordered
returns-clause-ordered c form forest fits has_scope = ordered form forest fits has_scope
