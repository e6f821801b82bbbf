use Rattle.puffin_accounts.proofs.lemmas.Running.{all_began}
use Rattle.puffin_accounts.proofs.all_scopes_began.Goals as goal

pub returns : goal.returns
returns c = all_began
