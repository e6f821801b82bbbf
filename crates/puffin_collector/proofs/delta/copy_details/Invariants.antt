-- The copies so far are those of the details so far.
use Rattle.std.proofs.Common.{◌≡◌, take}
use Rattle.puffin_threads.specs.Details.{details_seen, shared_details}
use Rattle.puffin_collector.proofs.delta.copy_details.Given as goal

abbrev pub invariant-loop-details : goal.invariant-loop-details
invariant-loop-details l = shared_details l.copies.items ≡ details_seen (take l.details-index l.details)
