-- What the frames of a program in rounds show of its code.
use Rattle.std.proofs.Common.{length, map, arith}
use Rattle.std.proofs.lemmas.List.{length-map}
use Rattle.puffin.specs.declared.light.rounds.InRounds.{InRounds}
use Rattle.puffin.specs.Code.{OrNothing}
use Rattle.puffin.specs.Places.{details_in}
use Rattle.puffin.proofs.ShownRounds.{rounds_show_if}
use Rattle.puffin.proofs.light.rounds.run_rounds.Goals as goal

pub returns-clause-shows : goal.returns-clause-shows
returns-clause-shows g c =
    let W = g.W.Rounds in let names = c.args.names.now in
    rounds_show_if _ (λ (p : InRounds g.row.W.Denot). W.states p.program.now) (λ (p : InRounds g.row.W.Denot). W.runs p.program.now)
    (λ (p : InRounds g.row.W.Denot) round. OrNothing (W.leads p.program.now round)) (λ (p : InRounds g.row.W.Denot). p.rounds)
    (λ (p : InRounds g.row.W.Denot). p.meeting.threads)
    (length (details_in c.args.scopes.now)) c.args.settings.now.leader.now (map (λ name. name.now) names)
    (record {
      program = c.args.program;
      rounds = c.args.rounds;
      failed = c.new.result;
      over = c.new-2.result;
      meeting = c.new-3.result;
    }) c.run_named.result
    (omega (arith, c.new-3.ensures, length-map names (λ name. name.now))) c.run_named.ensures.told
