-- A look-up among the entries is one in the map that they are seen as.
use Rattle.std.proofs.Common.{ap, sym, ◌∙◌}
use Rattle.std.specs.FinMap.{get}
use Rattle.puffin_threads.specs.Details.Collection.{Collection}
use Rattle.puffin_threads.proofs.Inserting.{get-by_names}
use Rattle.puffin_threads.proofs.scope_details.collection.ScopeCollection.fetch_by_name.Goals as goal

pub returns : goal.returns
returns c =
    c.get.ensures.value
    ∙ sym (get-by_names c.self.inside.by_name.entries c.args.name.now)
    ∙ ap (λ (seen : Collection). get seen.by_name c.args.name.now) c.self.view_is
