-- Stored bytes that are UTF-8 are text as they are.
use Rattle.std.proofs.Common.{◌∙◌}
use Rattle.puffin_data.proofs.Lenience.{text_in-whole}
use Rattle.puffin_data.proofs.data.reader.text_of.Goals as goal

pub returns-in-Ok : goal.returns-in-Ok
returns-in-Ok c = c.in-Ok.ensures.cases.0 ∙ text_in-whole c.args.stored.now c.in-Ok.ensures.cases.1
