-- Equality of details, field by field, is that of what contracts see of them.
use Rattle.puffin_threads.proofs.Comparing.{same_parts}
use Rattle.puffin_threads.proofs.scope_details.laws.details_by_contents.Goals as goal

pub returns-clause-equality : goal.returns-clause-equality
returns-clause-equality c = same_parts
