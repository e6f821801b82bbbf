use Rattle.check_bench.proofs.guards.+named_with_text.Given as goal

abbrev pub decreases-named_with_text : goal.decreases-named_with_text
decreases-named_with_text l = l.depth
