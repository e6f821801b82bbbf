-- No byte of an element begins a tag.
use Rattle.puffin_look.proofs.PagesMade.{no_tag}
use Rattle.puffin_look.proofs.laws.no_element_ends.Goals as goal

pub returns : goal.returns
returns c = no_tag c.args.json.now
