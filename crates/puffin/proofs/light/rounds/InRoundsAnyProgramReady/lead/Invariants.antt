-- After so many rounds: what the leader's code told, and what it took.
use Rattle.std.specs.Prelude.{◌≡◌, [], true, string_bytes}
use Rattle.puffin.specs.Code.{OrNothing}
use Rattle.puffin.specs.Places.{num_known}
use Rattle.puffin.proofs.KeptSteps.{IsLeading}
use Rattle.puffin.proofs.RunningRounds.{AfterRounds}
use Rattle.puffin.proofs.light.rounds.InRoundsAnyProgramReady.lead.Given as goal

abbrev pub invariant-loop-round : goal.invariant-loop-round
invariant-loop-round g l = record {
  ran : g.W.Rounds.states l.self.program.now ≡ true → g.P.Meets.told l.fn.reporter ≡ [] →
      AfterRounds g.P.Meets.told (λ round. OrNothing (g.W.Rounds.leads l.self.program.now round)) (string_bytes l.fn.thread.name)
      (num_known l.fn.thread.scopes) l.round l.thread;
  took : g.F.Gathers.told l.fn.frames ≡ [] → IsLeading l.self.meeting.threads l.round (g.F.Gathers.told l.frames);
}
