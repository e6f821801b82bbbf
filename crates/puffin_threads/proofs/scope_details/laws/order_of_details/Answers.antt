-- The order is total, and only equal details tie.
use Rattle.puffin_threads.proofs.Comparing.{details_cmp_total, details_cmp-one, same_details-one}
use Rattle.puffin_threads.proofs.scope_details.laws.order_of_details.Goals as goal

pub returns-clause-total : goal.returns-clause-total
returns-clause-total c = details_cmp_total

pub returns-clause-one : goal.returns-clause-one
returns-clause-one c = details_cmp-one

pub returns-clause-same : goal.returns-clause-same
returns-clause-same c = same_details-one
