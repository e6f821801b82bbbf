-- The scopes that a walk meets, each with those around it, even if the bytes have a fault.
use Rattle.std.specs.Prelude.{ℕ, ◌+◌, List, [], ◌∷◌, ◌++◌, map, filter, nat_lt}
use Rattle.puffin_data.specs.declared.data.form.Form.{Form}
use Rattle.puffin_data.specs.Forest.{Span, Forest, empty, node}
use Rattle.puffin_data.specs.Walk.Reading.{FoundScope}
use Rattle.puffin_data.specs.Walk.{IsSoundAt}

-- a scope, and the scopes that it is nested in, the outermost first
pub record ScopeInContext : Type 0 where
  pub around : List Span
  pub span : Span

-- The scopes of a forest that is nested in others, in the order of a walk: each scope, its children, its next sibling.
abbrev pub nested_in : List Span → Forest → List ScopeInContext
nested_in around empty = []
nested_in around (node first children others) =
    record { around = around; span = first }
    ∷ (nested_in (around ++ (first ∷ [])) children ++ nested_in around others)

-- a scope and its place
pub record PlacedScope : Type 0 where
  pub place : ℕ
  pub scope : ScopeInContext

-- The sound scopes from `place` up to `end`, a region that is nested in the scopes `around`: if one is at the place, then that one,
-- those of its children, and those from its next sibling on.
pub data Sees (form : Form) (bytes : List ℕ) :
    (around : List Span) → (place : ℕ) → (end : ℕ) → (placed : List PlacedScope) → Type 0 where
  no_scope : {around : List Span} {place end : ℕ} →
      ((found : FoundScope) → IsSoundAt form bytes place end found → ⊥) →
      Sees form bytes around place end []
  one_scope : {around : List Span} {place end : ℕ} {found : FoundScope}
      {inner later : List PlacedScope} → IsSoundAt form bytes place end found →
      Sees form bytes (around ++ (found.span ∷ []))
      (place + found.child_begin) (place + found.child_end) inner →
      Sees form bytes around (place + found.next_sibling) end later →
      Sees form bytes around place end (
      record { place = place; scope = record { around = around; span = found.span } }
      ∷ (inner ++ later))

-- the scopes without their places
abbrev pub scopes_of : List PlacedScope → List ScopeInContext
scopes_of placed = map (λ one. one.scope) placed

-- the scopes before a place
abbrev pub before : (place : ℕ) → List PlacedScope → List PlacedScope
before place placed = filter (λ one. nat_lt one.place place) placed
