-- An empty collection has no details under an id that isn't theirs.
use Rattle.std.proofs.Common.{ap, sym, ◌∙◌}
use Rattle.std.specs.FinMap.{get}
use Rattle.puffin_threads.specs.Details.Collection.{by_ids}
use Rattle.puffin_threads.proofs.Inserting.{own_ids_none}
use Rattle.puffin_threads.proofs.scope_details.collection.ScopeCollection.new.Goals as goal

pub invariant_of-result : goal.invariant_of-result
invariant_of-result c id d found = own_ids_none id d (ap (λ es. get (by_ids es) id) (sym c.new.ensures.empty) ∙ found)
