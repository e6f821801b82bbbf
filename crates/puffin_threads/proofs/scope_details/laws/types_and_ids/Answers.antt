-- A type is hashed as its place in the order.
use Rattle.std.proofs.Common.{refl}
use Rattle.puffin_threads.specs.declared.scope_details.scope_type.ScopeType.TheVariants.{Function, Named}
use Rattle.puffin_threads.proofs.scope_details.laws.types_and_ids.Goals as goal

pub returns-clause-type_hashes : goal.returns-clause-type_hashes
returns-clause-type_hashes c Function = refl
returns-clause-type_hashes c Named = refl
