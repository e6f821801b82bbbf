-- Each step goes on within the stream: to the next sibling, or past a fault to the end.
use Rattle.std.proofs.Common.{◌∙◌, length, sym, ap, Option, Ok, arith}
use Rattle.puffin_data.specs.declared.data.record.Scope.{Scope}
use Rattle.puffin_data.specs.Reader.ReadScopes.{scope_seen, scope_answer}
use Rattle.puffin_data.proofs.Lenience.{next_within, fault_within}
use Rattle.puffin_data.proofs.data.reader.ReaderIterator.next.Goals as goal

pub invariant_of-self : goal.invariant_of-self
invariant_of-self c =
    let bytes = c.self.inside.bytes.now in
    let read = sym c.in-Ok-Some.ensures ∙ ap (λ (any : Option Scope). scope_answer (Ok any)) c.in-Ok-Some.field-0-is in
    let within =
    next_within c.self.inside.form bytes c.self.inside.at (length bytes) (scope_seen c.in-Ok-Some.scope) c.self.invariant
    (omega arith) read in
    within.1

pub returns-in-Ok-Some-clause-goes : goal.returns-in-Ok-Some-clause-goes
returns-in-Ok-Some-clause-goes c =
    let bytes = c.self.inside.bytes.now in
    let read = sym c.in-Ok-Some.ensures ∙ ap (λ (any : Option Scope). scope_answer (Ok any)) c.in-Ok-Some.field-0-is in
    let within =
    next_within c.self.inside.form bytes c.self.inside.at (length bytes) (scope_seen c.in-Ok-Some.scope) c.self.invariant
    (omega arith) read in
    rw (← c.self.view_is) (record { on = λ _. (tt, tt, omega (arith, within)); keeps = tt; rests = λ _. tt })

pub returns-in-Err-clause-goes : goal.returns-in-Err-clause-goes
returns-in-Err-clause-goes c =
    let bytes = c.self.inside.bytes.now in
    let within =
    fault_within c.self.inside.form bytes c.self.inside.at (length bytes) c.in-Err.fault c.self.invariant (sym c.in-Err.ensures) in
    rw (← c.self.view_is) (record { on = λ _. (tt, tt, omega (arith, within)); keeps = tt; rests = λ _. tt })
