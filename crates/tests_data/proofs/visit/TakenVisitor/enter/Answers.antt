use Rattle.std.proofs.Common.{inl, refl}
use Rattle.tests_data.proofs.visit.TakenVisitor.enter.Goals as goal

pub returns-then-is_err-clause-err : goal.returns-then-is_err-clause-err
returns-then-is_err-clause-err c = inl refl
