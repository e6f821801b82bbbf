-- The threads that told have the names that were passed.
use Rattle.std.proofs.Common.{length, map, sym, ◌∙◌}
use Rattle.std.proofs.lemmas.List.{length-map}
use Rattle.puffin.specs.Places.{details_in}
use Rattle.puffin.proofs.ShownRuns.{named_told}
use Rattle.puffin.proofs.light.program.run_named.Goals as goal

pub returns-clause-told : goal.returns-clause-told
returns-clause-told g c =
    let W = g.W.AnyProgram in let prepared = c.in_ok-crew.ensures in let crew = c.in_ok-crew.crew in
    named_told W.tells W.leads W.takes (length (details_in c.args.scopes.now)) c.args.settings.now.leader.now
    (map (λ name. name.now) c.args.names.now) c.args.program.now crew.threads.items crew.leader c.run.result
    (sym crew.threads.ok.0 ∙ prepared.threads ∙ sym (length-map c.args.names.now (λ name. name.now))) prepared.names prepared.leader
    c.run.ensures.told
