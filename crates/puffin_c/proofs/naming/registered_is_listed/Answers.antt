use Rattle.puffin_c.proofs.Listed.{listed}
use Rattle.puffin_c.proofs.naming.registered_is_listed.Goals as goal

pub returns : goal.returns
returns c = listed
