use Rattle.puffin_view.proofs.Orders.{older_total}
use Rattle.puffin_view.proofs.profile_view.laws.order_by_index.Goals as goal

pub returns-clause-total : goal.returns-clause-total
returns-clause-total c = older_total
