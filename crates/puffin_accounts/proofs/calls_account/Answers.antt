use Rattle.puffin_accounts.proofs.lemmas.Steps.{accounts, none_due_at_first, nothing_due}
use Rattle.puffin_accounts.proofs.calls_account.Goals as goal

pub returns : goal.returns
returns g c = record {
  account = accounts g.C.NsSource.answers g.P.Reporter.accepts g.P.Reporter.refuses;
  first = none_due_at_first _;
  none = nothing_due _;
}
