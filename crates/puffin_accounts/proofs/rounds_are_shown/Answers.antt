use Rattle.puffin_accounts.proofs.lemmas.Rounds.{rounds_are_shown}
use Rattle.puffin_accounts.proofs.rounds_are_shown.Goals as goal

pub returns : goal.returns
returns g c = rounds_are_shown g.C.NsSource.answers g.P.Reporter.accepts g.P.Reporter.refuses
