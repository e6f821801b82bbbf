-- Equality of infos, field by field, is that of their keys.
use Rattle.puffin_threads.specs.Thread.ThreadKey.{key_of}
use Rattle.puffin_threads.proofs.lemmas.ThreadKeys.{same_parts}
use Rattle.puffin_threads.proofs.laws.threads_by_key.Goals as goal

pub returns-clause-equality : goal.returns-clause-equality
returns-clause-equality c a b = same_parts (key_of a) (key_of b)
