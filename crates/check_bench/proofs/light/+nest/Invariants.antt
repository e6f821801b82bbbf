use Rattle.check_bench.proofs.light.+nest.Given as goal

abbrev pub decreases-nest : goal.decreases-nest
decreases-nest g l = l.depth
