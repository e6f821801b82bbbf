use Rattle.check_bench.proofs.light.+nest_with_text.Given as goal

abbrev pub decreases-nest_with_text : goal.decreases-nest_with_text
decreases-nest_with_text l = l.depth
