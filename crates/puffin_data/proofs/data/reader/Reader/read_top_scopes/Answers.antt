-- Each turn reads one scope more, and the last one the fault or the end.
use Rattle.std.proofs.Common.{◌≡◌, ◌∷◌, ◌++◌, [], subst, inr, Result, Some}
use Rattle.puffin_data.specs.declared.error.Error.{Error}
use Rattle.puffin_data.specs.declared.data.record.Scope.{Scope}
use Rattle.puffin_data.specs.Reader.ReadScopes.{IsNextRead}
use Rattle.puffin_data.proofs.AllRead.{one_more, all_read, fault_read}
use Rattle.puffin_data.proofs.data.reader.Reader.read_top_scopes.Goals as goal

pub loop-next-preserved : goal.loop-next-preserved
loop-next-preserved c =
    let step =
    subst (λ (any : Result Scope Error). IsNextRead c.loop-next.reader (Some any) c.next.new.self) c.in-Ok.is c.in-Some.ensures.steps in
    let grown : c.push.new.self.items ≡ c.loop-next.scopes.items ++ c.in-Ok.scope ∷ [] =
    rw c.if-is_err.ensures.negation at c.push.ensures.items in
    one_more c.args.self c.loop-next.reader c.next.new.self c.loop-next.scopes.items c.push.new.self.items c.in-Ok.scope
    c.loop-next.invariant step grown

pub returns-in-Err-clause-err : goal.returns-in-Err-clause-err
returns-in-Err-clause-err c =
    let step =
    subst (λ (any : Result Scope Error). IsNextRead c.loop-next.reader (Some any) c.next.new.self) c.in-Err.is c.in-Some.ensures.steps in
    inr (fault_read c.args.self c.loop-next.reader c.next.new.self c.loop-next.scopes.items c.in-Err.fault c.loop-next.invariant step)

pub returns-clause-ok : goal.returns-clause-ok
returns-clause-ok c =
    all_read c.args.self c.loop-next.reader c.next.new.self c.loop-next.scopes.items c.loop-next.invariant c.in_default.ensures.steps
