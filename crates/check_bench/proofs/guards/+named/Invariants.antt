use Rattle.check_bench.proofs.guards.+named.Given as goal

abbrev pub decreases-named : goal.decreases-named
decreases-named g l = l.depth
