-- The scopes so far are registered, and there is room for the other ids.
use Rattle.std.proofs.Common.{◌≡◌, ◌≤◌, length, take, vec_len, vec_capacity}
use Rattle.puffin_threads.specs.Details.{details_seen}
use Rattle.puffin_collector.specs.Collector.Registering.{Adds}
use Rattle.puffin_collector.proofs.collector.Collector.register_user_scopes.Given as goal

abbrev pub invariant-loop-details : goal.invariant-loop-details
invariant-loop-details l = record {
  added : Adds l.fn.self (details_seen (take l.details-index l.details)) l.scope_ids.items l.self;
  room : length l.details ≤ vec_capacity l.scope_ids;
  filled : vec_len l.scope_ids ≡ l.details-index;
}
