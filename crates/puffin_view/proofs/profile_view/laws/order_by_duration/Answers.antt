use Rattle.puffin_view.proofs.Orders.{by_duration_ties, by_duration_total}
use Rattle.puffin_view.proofs.profile_view.laws.order_by_duration.Goals as goal

pub returns-clause-ties : goal.returns-clause-ties
returns-clause-ties c = by_duration_ties

pub returns-clause-total : goal.returns-clause-total
returns-clause-total c = by_duration_total
