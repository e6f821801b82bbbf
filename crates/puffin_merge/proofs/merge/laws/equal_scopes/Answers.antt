use Rattle.std.proofs.Common.{refl}
use Rattle.puffin_merge.proofs.EqualScopes.{equal_where}
use Rattle.puffin_merge.proofs.merge.laws.equal_scopes.Goals as goal

pub returns : goal.returns
returns c = equal_where _ (λ r s t. refl)
