-- A text's bytes are UTF-8 and fit their type.
use Rattle.std.proofs.Common.{arith, rules}
use Rattle.puffin_data.proofs.lemmas.Texts.{is_utf8_yes}
use Rattle.puffin_frames.proofs.frame_data.encode.text_of.Goals as goal

pub returns-clause-text : goal.returns-clause-text
returns-clause-text c = ((omega arith, λ i. omega (arith, c.type_inv.text i)), is_utf8_yes c.args.text.now (search rules))
