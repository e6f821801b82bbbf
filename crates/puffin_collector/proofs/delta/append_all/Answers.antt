-- What is to be appended is what the collection has under its ids.
use Rattle.std.proofs.Common.{◌++◌, List, ◌∙◌, ap, sym}
use Rattle.std.specs.FinMap.{values}
use Rattle.puffin_threads.specs.Details.{Details, shared_details}
use Rattle.puffin_collector.proofs.Knowing.{values-by_ids}
use Rattle.puffin_collector.proofs.delta.append_all.Goals as goal

pub loop-details-init : goal.loop-details-init
loop-details-init c =
    let given = ap shared_details (c.into_iter-details-iterator.ensures.into_iter_gives ∙ c.values-details-items.ensures.rest) in
    let by_id = values-by_ids c.scopes_by_id.result.now.entries c.values-details-items.ensures.ordered in
    let before = shared_details c.args.delta.now.items in
    ap (λ (details : List Details). before ++ details) (given ∙ sym by_id ∙ ap values c.scopes_by_id.ensures.details)
