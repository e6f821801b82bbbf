-- What was appended so far, and what is left, comes to all.
use Rattle.std.proofs.Common.{◌≡◌, ◌++◌}
use Rattle.puffin_threads.specs.Details.{shared_details}
use Rattle.puffin_collector.specs.Collector.State.{all_details}
use Rattle.puffin_collector.proofs.delta.append_all.Given as goal

abbrev pub invariant-loop-details : goal.invariant-loop-details
invariant-loop-details l =
    shared_details l.delta.items ++ shared_details l.details-iterator
    ≡ shared_details l.fn.delta.items ++ all_details l.fn.collection
