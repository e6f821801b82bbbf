-- The details so far are inserted.
use Rattle.std.proofs.Common.{◌≡◌, take}
use Rattle.puffin_threads.specs.Details.{shared_details}
use Rattle.puffin_threads.specs.Details.Collection.{with_all_details}
use Rattle.puffin_threads.proofs.scope_details.collection.ScopeCollection.insert_all.Given as goal

abbrev pub invariant-loop-details : goal.invariant-loop-details
invariant-loop-details l = l.self ≡ with_all_details l.fn.self (shared_details (take l.details-index l.details))
