use Rattle.check_bench.proofs.guards.+functions.Given as goal

abbrev pub decreases-functions : goal.decreases-functions
decreases-functions l = l.depth
