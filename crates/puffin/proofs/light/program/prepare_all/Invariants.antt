-- The threads so far have their names and the one clock's start.
use Rattle.std.specs.Prelude.{◌≡◌, vec_len, length, map, All}
use Rattle.puffin_threads.specs.Thread.Clock.{clock_start, clock_begun}
use Rattle.puffin.specs.Clocks.{StartsAt}
use Rattle.puffin.specs.Places.{details_in}
use Rattle.puffin.specs.Shown.{AreNamed}
use Rattle.puffin.proofs.light.program.prepare_all.Given as goal

abbrev pub invariant-loop-name : goal.invariant-loop-name
invariant-loop-name g l = record {
  threads : vec_len l.threads ≡ l.name-index;
  names : AreNamed (length (details_in l.scopes)) (map (λ name. name.now) l.names) l.threads.items;
  clocks : All (λ thread. StartsAt (clock_start l.clock) (clock_begun l.clock) thread.clock) l.threads.items;
}
