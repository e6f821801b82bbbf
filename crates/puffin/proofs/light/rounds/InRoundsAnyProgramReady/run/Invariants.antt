-- After so many rounds, none of which failed: what the thread's code told.
use Rattle.std.specs.Prelude.{◌≡◌, [], true, IsOk, string_bytes}
use Rattle.puffin.specs.Places.{num_known}
use Rattle.puffin.proofs.RunningRounds.{AfterRounds}
use Rattle.puffin.proofs.light.rounds.InRoundsAnyProgramReady.run.Given as goal

abbrev pub invariant-loop-round : goal.invariant-loop-round
invariant-loop-round g l =
    g.W.Rounds.states l.self.program.now ≡ true → IsOk l.state → g.P.Meets.told l.fn.reporter ≡ [] →
    AfterRounds g.P.Meets.told (g.W.Rounds.runs l.self.program.now l.number) (string_bytes l.fn.thread.name)
    (num_known l.fn.thread.scopes) l.round l.thread
