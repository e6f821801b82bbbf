-- The new details so far.
use Rattle.std.proofs.Common.{◌≡◌, take}
use Rattle.puffin_threads.specs.Details.{shared_details}
use Rattle.puffin_collector.proofs.delta.scope_delta.Given as goal

abbrev pub invariant-loop-details : goal.invariant-loop-details
invariant-loop-details l = shared_details l.delta.items ≡ shared_details (take l.details-index l.new_details)
