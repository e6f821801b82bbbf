use Rattle.puffin_c.proofs.Codes.{distinct}
use Rattle.puffin_c.proofs.fault.codes_are_distinct.Goals as goal

pub returns : goal.returns
returns c = distinct
