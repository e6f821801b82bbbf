-- Code that ran is a list of calls, before any others.
use Rattle.std.proofs.Common.{ℕ, ℤ, List, ◌∷◌, Option, Some, None, subst}
use Rattle.puffin_data.specs.declared.error.Error.{Error}
use Rattle.puffin_data.specs.Honesty.{StreamFacts}
use Rattle.puffin_threads.specs.Thread.ThreadKey.{ThreadKey}
use Rattle.puffin_threads.specs.Details.{Details}
use Rattle.puffin_collector.specs.Collector.State.{Collected}
use Rattle.puffin_scopes.specs.Guards.Guard.{offset_in}
use Rattle.puffin.specs.declared.light.thread.Thread.{Thread}
use Rattle.puffin.specs.Guards.{BeginsAt, EndsIn, Leaves}
use Rattle.puffin_accounts.specs.Running.{Code, nothing, scope, Runs}
use Rattle.puffin_accounts.specs.Steps.{Call, begins, ends, Run}

module _ {C R : Type 0} (answers : C → ℤ → C → Type 0)
    (seen : R → Collected) (accepts : R → ThreadKey → List Details → StreamFacts → R → Type 0)
    (refuses : R → ThreadKey → List Details → StreamFacts → Error → R → Type 0) where
  abbrev Made : Thread C R → Thread C R → Type 0
  Made old last = (made : List Call) × Run answers seen accepts refuses old made last

  left : (offset : Option ℕ) (old new last : Thread C R) → Leaves (EndsIn answers accepts refuses) offset old new → Made new last
      → Made old last
  left None old new last same later = subst (λ t. Made t last) same later
  left (Some offset) old new last ended later = (ends offset ∷ later.0, (new, ended, later.1))

  pub calls_of_code : (code : Code) (old new last : Thread C R)
      → Runs (BeginsAt answers accepts refuses) (EndsIn answers accepts refuses) code old new → Made new last → Made old last
  calls_of_code nothing old new last same later = subst (λ t. Made t last) same later
  calls_of_code (scope place text within after) old new last (state, begun, inner, ended, began, inside, leaves, rest) later =
      let behind = calls_of_code after ended new last rest later in
      let more = calls_of_code within begun inner last inside (left (offset_in state) inner ended last leaves behind) in
      (begins place text state ∷ more.0, (begun, began, more.1))
