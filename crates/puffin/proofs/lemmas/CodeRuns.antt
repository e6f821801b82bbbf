-- Code that runs after other code.
use Rattle.std.proofs.Common.{◌≡◌, ℕ, zero, suc, List, ap, subst, ◌∙◌}
use Rattle.puffin_scopes.specs.declared.guard_state.GuardState.{GuardState}
use Rattle.puffin.specs.declared.light.scopes.Place.{Place}
use Rattle.puffin.specs.Code.{Code, nothing, scope, Runs, followed_by, in_turn, AreTurns}

-- one piece of code ran after another
pub runs_both : {T : Type 0} (begins : T → Place → List ℕ → GuardState → T → Type 0) (ends : T → ℕ → T → Type 0)
    (code next : Code) (old mid new : T) → Runs begins ends code old mid → Runs begins ends next mid new
    → Runs begins ends (followed_by code next) old new
runs_both begins ends nothing next old mid new first then_next = subst (λ t. Runs begins ends next t new) first then_next
runs_both begins ends (scope place text within after) next old mid new
    (state, begun, left, ended, began, inner, leaves, rest) then_next =
    (state, begun, left, ended, began, inner, leaves, runs_both begins ends after next ended mid new rest then_next)

-- ---- turns

-- turns each of whose code is known
pub turns_are : (code : ℕ → Code) (turns : ℕ) (whole : Code) → AreTurns (λ turn c. c ≡ code turn) turns whole
    → whole ≡ in_turn code turns
turns_are code zero whole is = is
turns_are code (suc turn) whole (before, last, are, one, is) = is
    ∙ ap (λ (c : Code). followed_by c last) (turns_are code turn before are) ∙ ap (followed_by (in_turn code turn)) one
