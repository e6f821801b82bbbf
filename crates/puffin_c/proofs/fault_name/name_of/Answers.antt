-- 0 is the number of success, and any other number with a name is that of a fault.
use Rattle.std.proofs.Common.{refl, sym, inl}
use Rattle.std.specs.Prelude.{Ok, Err}
use Rattle.puffin_c.proofs.fault_name.name_of.Goals as goal

pub returns-then-code-eq0 : goal.returns-then-code-eq0
returns-then-code-eq0 c = inl (Ok tt, sym c.if-code-eq0.true, refl)

pub returns-in-Some : goal.returns-in-Some
returns-in-Some c = inl (Err c.in-Some._fault, c.in-Some.ensures.some.0, c.in-Some.ensures.some.1)
