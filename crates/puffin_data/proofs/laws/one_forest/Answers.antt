-- The first scope of a spelling is read again, so both forests have it.
use Rattle.std.proofs.Common.{arith}
use Rattle.puffin_data.proofs.lemmas.Unique.{same_forest, spelling-append}
use Rattle.puffin_data.proofs.laws.one_forest.Goals as goal

pub returns-clause-spelling : goal.returns-clause-spelling
returns-clause-spelling c form first second first_fits second_fits small same =
    same_forest form first second first_fits second_fits (omega arith) same

pub returns-clause-joined : goal.returns-clause-joined
returns-clause-joined c form first second = spelling-append form first second
