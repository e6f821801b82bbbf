-- By induction over the first forest.
use Rattle.puffin_data.proofs.lemmas.Extended.{scope_count-append, height-append, least_start-append, greatest_stop-append, IsForest-append}
use Rattle.puffin_data.proofs.laws.joined_measures.Goals as goal

pub returns-clause-scope_count : goal.returns-clause-scope_count
returns-clause-scope_count c first second = scope_count-append first second

pub returns-clause-height : goal.returns-clause-height
returns-clause-height c first second = height-append first second

pub returns-clause-least_start : goal.returns-clause-least_start
returns-clause-least_start c first second = least_start-append first second

pub returns-clause-greatest_stop : goal.returns-clause-greatest_stop
returns-clause-greatest_stop c first second = greatest_stop-append first second

pub returns-clause-written : goal.returns-clause-written
returns-clause-written c form first second first_fits second_fits = IsForest-append form first second first_fits second_fits
