-- The names and the order of the types of scopes.
use Rattle.std.specs.Prelude.{ℕ, List, codes}
use Rattle.std.specs.declared.cmp.Ordering.{Ordering}
use Rattle.std.specs.declared.cmp.Ordering.TheVariants.{Less, Equal, Greater}
use Rattle.puffin_threads.specs.declared.scope_details.scope_type.ScopeType.{ScopeType}
use Rattle.puffin_threads.specs.declared.scope_details.scope_type.ScopeType.TheVariants.{Function, Named}

-- the name of a type of scopes
abbrev pub type_text : ScopeType → List ℕ
type_text Function = codes "function scope"
type_text Named = codes "named"

-- the order of the types: whole functions first
abbrev pub type_cmp : ScopeType → ScopeType → Ordering
type_cmp Function Function = Equal
type_cmp Function Named = Less
type_cmp Named Function = Greater
type_cmp Named Named = Equal

-- the place in the list of types
abbrev pub type_place : ScopeType → ℕ
type_place Function = 0
type_place Named = 1
