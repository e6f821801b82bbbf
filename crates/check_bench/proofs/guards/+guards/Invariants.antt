use Rattle.check_bench.proofs.guards.+guards.Given as goal

abbrev pub decreases-guards : goal.decreases-guards
decreases-guards l = l.depth
