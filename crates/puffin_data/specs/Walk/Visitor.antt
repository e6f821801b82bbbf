-- A walk with a visitor: which scopes the visitor takes, and where the walk stops.
use Rattle.std.specs.Prelude.{◌≡◌, ℕ, ◌+◌, ◌≤◌, ◌==◌, if◌then◌else◌, ◌⊎◌, List, [], ◌∷◌, ◌++◌, length, slice_index}
use Rattle.puffin_data.specs.declared.data.form.Form.{Form}
use Rattle.puffin_data.specs.declared.error.Error.{Error}
use Rattle.puffin_data.specs.Forest.{Span, Forest}
use Rattle.puffin_data.specs.Forest.Spelling.{begin_mark, Spells}
use Rattle.puffin_data.specs.Walk.{Reaches, IsFaultAt, IsFirstFault}
use Rattle.puffin_data.specs.Walk.PlacedScopes.{ScopeInContext, nested_in, PlacedScope, Sees, scopes_of, before}

-- `V` is the type of the visitor's states, and `W` that of the values that it keeps for open scopes. `stands_for` says for which scopes
-- a value stands, the outermost first.

-- ---- one scope

-- From state `old`, with the value `within` for the scopes around, the visitor takes a scope: it is then in state `new`, and `inner`
-- stands for the same scopes and this one.
abbrev pub Entering : {V W : Type 0} → (takes : V → List ScopeInContext → V → Type 0) →
    (stands_for : V → W → List Span → Type 0) → (old : V) → (within : W) → Span → (inner : W) →
    (new : V) → Type 0
Entering takes stands_for old within span inner new =
    (around : List Span) → stands_for old within around →
    takes old (record { around = around; span = span } ∷ []) new
    × stands_for new inner (around ++ (span ∷ []))

-- in this state, with the value `within` for the scopes around, the visitor may refuse a scope with this cause
abbrev pub Refusing : {V W : Type 0} → (refuses : V → ScopeInContext → Error → Type 0) →
    (stands_for : V → W → List Span → Type 0) → (state : V) → (within : W) → Span →
    (cause : Error) → Type 0
Refusing refuses stands_for state within span cause =
    (around : List Span) → stands_for state within around →
    refuses state (record { around = around; span = span }) cause

-- ---- all of the bytes

-- the bytes spell a forest, and the visitor has taken all of its scopes, with one try for each
pub record TakesAll (form : Form) {V : Type 0} (takes : V → List ScopeInContext → V → Type 0)
    (from to : V) (bytes : List ℕ) (tried : ℕ) : Type 0 where
  pub forest : Forest
  pub spells : Spells form bytes forest
  pub taken : takes from (nested_in [] forest) to
  pub tries : tried ≡ length (nested_in [] forest)

-- The walk met the first fault, and the visitor has taken the sound scopes before it. The tries are these scopes, and one more
-- if a `(` is at the fault.
pub record StopsAtFault (form : Form) {V : Type 0} (takes : V → List ScopeInContext → V → Type 0)
    (from to : V) (bytes : List ℕ) (tried : ℕ) (fault : Error) : Type 0 where
  pub place : ℕ
  pub first : IsFirstFault form bytes place fault
  pub placed : List PlacedScope
  pub sees : Sees form bytes [] 0 (length bytes) placed
  pub taken : takes from (scopes_of (before place placed)) to
  pub tries : tried
      ≡ length (before place placed) + (if slice_index bytes place == begin_mark then 1 else 0)

-- The visitor has taken the sound scopes before one that it refuses, and there is no fault before that one. The tries are these
-- scopes and the refused one.
pub record StopsAtRefusal (form : Form) {V : Type 0} (takes : V → List ScopeInContext → V → Type 0)
    (refuses : V → ScopeInContext → Error → Type 0) (from : V) (bytes : List ℕ) (tried : ℕ)
    (cause : Error) : Type 0 where
  pub earlier : List PlacedScope
  pub met : PlacedScope
  pub later : List PlacedScope
  pub sees : Sees form bytes [] 0 (length bytes) (earlier ++ (met ∷ later))
  pub to : V
  pub taken : takes from (scopes_of earlier) to
  pub refused : refuses to met.scope cause
  pub first : (place end : ℕ) (fault : Error) → Reaches form bytes 0 (length bytes) place end →
      IsFaultAt form bytes place end fault → met.place ≤ place
  pub tries : tried ≡ length earlier + 1

-- the walk stopped with this cause, at the first fault or at a scope that the visitor refused
abbrev pub StopsEarly : (form : Form) → {V : Type 0} →
    (takes : V → List ScopeInContext → V → Type 0) →
    (refuses : V → ScopeInContext → Error → Type 0) →
    (from : V) → (to : V) → (bytes : List ℕ) → (tried : ℕ) → (cause : Error) → Type 0
StopsEarly form takes refuses from to bytes tried cause =
    StopsAtFault form takes from to bytes tried cause
    ⊎ StopsAtRefusal form takes refuses from bytes tried cause
