-- Each thread so far is started under its number, and the shares that are left count nothing.
use Rattle.std.specs.Prelude.{◌≡◌, length, All}
use Rattle.puffin.specs.Members.{IsNewMember}
use Rattle.puffin.specs.Joined.{AreStarted}
use Rattle.puffin.proofs.light.started.start_all.Given as goal

abbrev pub invariant-loop-thread : goal.invariant-loop-thread
invariant-loop-thread g l = record {
  started : length l.started.items ≡ length l.yielded;
  each : AreStarted l.started.items l.yielded l.program;
  new : All IsNewMember l.shares.items;
}
