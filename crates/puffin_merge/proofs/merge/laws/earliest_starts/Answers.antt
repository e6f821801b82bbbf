use Rattle.puffin_merge.proofs.Starting.{earliest-is_least}
use Rattle.puffin_merge.proofs.merge.laws.earliest_starts.Goals as goal

pub returns : goal.returns
returns c = earliest-is_least
