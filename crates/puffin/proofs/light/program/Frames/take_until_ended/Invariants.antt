-- Any number of frames were taken.
use Rattle.puffin.specs.Taking.{TakesMore}
use Rattle.puffin.proofs.light.program.Frames.take_until_ended.Given as goal

abbrev pub invariant-loop : goal.invariant-loop
invariant-loop g l = TakesMore (g.Self.Frames.taken l.fn.self) (g.Self.Frames.taken l.self)
