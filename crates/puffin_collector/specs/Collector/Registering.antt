-- How a caller's own scopes are registered by name.
use Rattle.std.specs.Prelude.{◌≡◌, ℕ, List, [], ◌∷◌, ◌++◌, Option, Some, None, ◌⊎◌}
use Rattle.std.specs.FinMap as map
use Rattle.puffin_data.specs.declared.error.Error.{Error}
use Rattle.puffin_data.specs.declared.error.Error.TheVariants.{IdsExhausted, Memory}
use Rattle.puffin_threads.specs.Details.{Details, name_of, with_id}
use Rattle.puffin_threads.specs.Details.Collection.{Collection, with_all_details}
use Rattle.puffin_collector.specs.Collector.State.{Collected, after_adding}

-- the id that a collection has under the name of these details, if any
abbrev pub known_id : Collection → Details → Option ℕ
known_id collection details = map.get collection.by_name (name_of details)

-- The details that were asked for, one after the other, have these ids. Those with a known name keep its id. `new` are the others,
-- which are newly registered, each with its id.
pub data Registers (collection : Collection) : (asked : List Details) → (ids : List ℕ) →
    (new : List Details) → Type 0 where
  none_asked : Registers collection [] [] []
  -- one more scope is asked for, whose name is known by then
  known_name : {asked : List Details} {ids : List ℕ} {new : List Details} (last : Details) (id : ℕ)
      → Registers collection asked ids new
      → known_id (with_all_details collection new) last ≡ Some id
      → Registers collection (asked ++ (last ∷ [])) (ids ++ (id ∷ [])) new
  -- one more scope is asked for, whose name isn't known: it is registered under a new id
  new_name : {asked : List Details} {ids : List ℕ} {new : List Details} (last : Details) (id : ℕ)
      → Registers collection asked ids new
      → known_id (with_all_details collection new) last ≡ None
      → Registers collection (asked ++ (last ∷ [])) (ids ++ (id ∷ [])) (new ++ (with_id last id ∷ []))

-- there is a first one of these details, and its name isn't known
abbrev pub NextIsNew : Collection → List Details → Type 0
NextIsNew collection [] = ⊥
NextIsNew collection (next ∷ rest) = known_id collection next ≡ None

-- A refused call registered the first ones of what was asked for. Ids are exhausted only if the next one had to get an id.
abbrev pub RegistersSome : Collection → (asked : List Details) → (cause : Error) → (new : List Details) →
    Type 0
RegistersSome collection asked cause new =
    (part rest : List Details)
    × (ids : List ℕ)
    × (asked ≡ part ++ rest)
    × Registers collection part ids new
    × ((cause ≡ Memory)
    ⊎ ((cause ≡ IdsExhausted) × NextIsNew (with_all_details collection new) rest))

-- a call registers all that was asked for, and returns their ids
abbrev pub Adds : (old : Collected) → (asked : List Details) → (ids : List ℕ) → (new : Collected) → Type 0
Adds old asked ids new =
    (added : List Details)
    × Registers old.collection asked ids added
    × (new ≡ after_adding old added)

-- a refused call registers the first ones of what was asked for
abbrev pub AddsSome : (old : Collected) → (asked : List Details) → (cause : Error) → (new : Collected) → Type 0
AddsSome old asked cause new =
    (added : List Details)
    × RegistersSome old.collection asked cause added
    × (new ≡ after_adding old added)

-- one scope is registered: a known name keeps its id, and any other gets this one
abbrev pub AddsOne : (old : Collected) → (asked : Details) → (id : ℕ) → (new : Collected) → Type 0
AddsOne old asked id new =
    ((known_id old.collection asked ≡ Some id) × (new ≡ old))
    ⊎ ((known_id old.collection asked ≡ None) × (new ≡ after_adding old (with_id asked id ∷ [])))

-- why one scope isn't registered: ids are exhausted only if it had to get one
abbrev pub IsAddingRefusal : Collection → (asked : Details) → (cause : Error) → Type 0
IsAddingRefusal collection asked cause =
    (cause ≡ Memory) ⊎ ((cause ≡ IdsExhausted) × (known_id collection asked ≡ None))
