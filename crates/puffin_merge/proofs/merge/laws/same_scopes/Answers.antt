use Rattle.puffin_merge.proofs.Copied.{exchanged}
use Rattle.puffin_merge.proofs.merge.laws.same_scopes.Goals as goal

pub returns : goal.returns
returns c = exchanged
