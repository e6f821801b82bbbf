-- A look-up among the entries is one in the map that they are seen as.
use Rattle.std.proofs.Common.{ap, sym, ◌∙◌, option_map}
use Rattle.std.specs.FinMap.{get}
use Rattle.std.specs.Arc.{arc_value}
use Rattle.puffin_threads.specs.Details.{details_of}
use Rattle.puffin_threads.specs.Details.Collection.{Collection}
use Rattle.puffin_threads.proofs.Inserting.{get-by_ids}
use Rattle.puffin_threads.proofs.scope_details.collection.ScopeCollection.fetch_by_id.Goals as goal

pub returns : goal.returns
returns c =
    ap (option_map (λ d. details_of (arc_value d))) c.get.ensures.value
    ∙ sym (get-by_ids c.self.inside.by_id.entries c.args.id.now)
    ∙ ap (λ (seen : Collection). get seen.by_id c.args.id.now) c.self.view_is
