use Rattle.puffin_view.specs.View.ViewedFrames.{is_slower}
use Rattle.puffin_view.proofs.Orders.{slower_order}
use Rattle.puffin_view.proofs.Rankings.{are_first, first_in_pairs}
use Rattle.puffin_view.proofs.profile_view.laws.slowest_first.Goals as goal

pub returns-clause-first : goal.returns-clause-first
returns-clause-first c = are_first is_slower slower_order

pub returns-clause-in_order : goal.returns-clause-in_order
returns-clause-in_order c = first_in_pairs is_slower slower_order
