-- Two threads are the same if they have the same key.
use Rattle.std.proofs.Common.{◌∙◌}
use Rattle.puffin_threads.specs.Thread.ThreadKey.{key_of}
use Rattle.puffin_threads.proofs.lemmas.ThreadKeys.{same_parts}
use Rattle.puffin_look.proofs.wanted.is_same.Goals as goal

pub returns : goal.returns
returns c = c.eq.ensures ∙ same_parts (key_of c.args.one.now) (key_of c.args.other.now)
