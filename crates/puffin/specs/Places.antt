-- The registered places of a program, and what registering one more does.
use Rattle.std.specs.Prelude.{◌≡◌, ℕ, ◌+◌, ◌^◌, ◌⊎◌, List, Some, [], ◌∷◌, ◌++◌, length}
use Rattle.puffin_data.specs.declared.error.Error.{Error}
use Rattle.puffin_data.specs.declared.error.Error.TheVariants.{IdsExhausted, Memory}
use Rattle.puffin_threads.specs.Details.{Details, default_details, with_id, shared_details}
use Rattle.puffin_threads.specs.Details.Collection.{first_with_id}
use Rattle.puffin_scopes.specs.Names.Files.{short_file}
use Rattle.puffin_scopes.specs.Names.Functions.{clean}
use Rattle.puffin.specs.declared.light.scopes.Place.{Place}
use Rattle.puffin.specs.declared.light.scopes.Scopes.{Scopes}
use Rattle.puffin.specs.declared.light.scopes.ThreadScopes.{ThreadScopes}

-- the id of the place's scopes
abbrev pub id_of : Place → ℕ
id_of place = place.id

-- the details of all registered places, in the order of their ids
abbrev pub details_in : Scopes → List Details
details_in scopes = shared_details scopes.details.items

-- the number of places that a thread knows; their ids are 1 to this number
abbrev pub num_known : ThreadScopes → ℕ
num_known scopes = scopes.places

-- the details of a function in a file, with short names and no id yet
abbrev pub function_at : List ℕ → List ℕ → Details
function_at file function = record default_details {
  function_name = clean function;
  file_path = short_file file;
}

-- the details of a scope with this name in a function
abbrev pub named_at : List ℕ → List ℕ → List ℕ → Details
named_at file function name = record (function_at file function) { scope_name = Some name }

-- the details were registered last; their id is the number of the registration, from 1, and no details before have it
pub record Registers (old : List Details) (details : Details) (id : ℕ) (new : List Details) :
    Type 0 where
  pub number : id ≡ length old + 1
  pub added : new ≡ old ++ (with_id details id ∷ [])
  pub found : first_with_id id new ≡ Some (with_id details id)

-- the errors of registering a place after these: `IdsExhausted` only if no id is left
abbrev pub IsPlaceCause : List Details → Error → Type 0
IsPlaceCause details error = ((error ≡ IdsExhausted) × (length details + 1 ≡ 2 ^ 32)) ⊎ (error ≡ Memory)
