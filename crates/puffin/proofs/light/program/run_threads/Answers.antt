-- What a program's frames show of its code.
use Rattle.std.proofs.Common.{length, map}
use Rattle.puffin.specs.declared.light.program.InOneGo.{InOneGo}
use Rattle.puffin.specs.Places.{details_in}
use Rattle.puffin.proofs.ShownRuns.{shows_if}
use Rattle.puffin.proofs.light.program.run_threads.Goals as goal

pub returns-clause-shows : goal.returns-clause-shows
returns-clause-shows g c =
    let W = g.W.Program in
    shows_if _ (λ (works : InOneGo g.row.W.Denot). W.states works.program.now)
    (λ (works : InOneGo g.row.W.Denot). W.runs works.program.now) (λ (works : InOneGo g.row.W.Denot). W.leads works.program.now)
    (λ (works : InOneGo g.row.W.Denot). W.takes works.program.now)
    (length (details_in c.args.scopes.now)) c.args.settings.now.leader.now (map (λ name. name.now) c.args.names.now)
    (record { program = c.args.program }) c.run_named.result c.run_named.ensures.told
