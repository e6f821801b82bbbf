-- The ranks up to the partition point are those that the rank does not come before.
use Rattle.std.proofs.Common.{arith, rules, of_calls}
use Rattle.std.proofs.lemmas.Fn.{always_returns_same}
use Rattle.puffin_view.proofs.Placing.{is_up_to, partitioned, placed_at_point}
use Rattle.puffin_view.proofs.profile_view.slow_rank.SlowRank.place_in.Goals as goal

pub returns-clause-placed : goal.returns-clause-placed
returns-clause-placed c =
    let point = c.partition_point.ensures.partitioned (is_up_to c.args.self) (always_returns_same _ _ _
    (λ a r f k. search (rules, of_calls))) (partitioned c.args.self c.args.slow.now.items c.requires) in
    placed_at_point c.args.self c.args.slow.now.items c.partition_point.result (omega arith) point
