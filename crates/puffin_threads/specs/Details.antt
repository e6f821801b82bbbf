-- What contracts see of scope details, and their order.
pub mod Collection
pub mod Kind
use Rattle.std.specs.Prelude.{◌≡◌, ◌⊎◌, ℕ, Bool, List, Option, Some, None, ◌++◌, ◌∷◌, [], map, refl, is_some, is_none, IsSome, All, decimal, if◌then◌else◌, ◌==◌}
use Rattle.std.specs.declared.cmp.Ordering.{Ordering}
use Rattle.std.specs.declared.sync.Arc.{Arc}
use Rattle.std.specs.Ordering.{nat_cmp, on, then_cmp, eq_by_cmp}
use Rattle.std.specs.Arc.{arc_value}
use Rattle.std.specs.Coded.{Coded, code_by, coded×, coded_option, coded_list, coded_ℕ}
use Rattle.std.specs.Cow.{cow_str_bytes}
use Rattle.std.specs.Option.{option_cmp, option_map, unwrap_or}
use Rattle.std.specs.Cmp.Lexicographic.{slice_cmp}
use Rattle.puffin_data.specs.declared.error.Error.{Error}
use Rattle.puffin_data.specs.declared.error.Error.TheVariants.{IdsExhausted, Memory}
use Rattle.puffin_threads.specs.declared.scope_details.details.ScopeDetails.{ScopeDetails}
use Rattle.puffin_threads.specs.declared.scope_details.scope_type.ScopeType.{ScopeType}
use Rattle.puffin_threads.specs.declared.scope_details.scope_type.ScopeType.TheVariants.{Function, Named}

-- the details of a scope as contracts see them: the number of the id and the bytes of the texts
pub record Details : Type 0 where
  pub id : Option ℕ
  pub scope_name : Option (List ℕ)
  pub function_name : List ℕ
  pub file_path : List ℕ
  pub line_nr : ℕ

-- details as the tuple of their fields, and back: two are equal if their tuples are
abbrev pub details_code : Coded Details
details_code =
    code_by (Option ℕ × (Option (List ℕ) × (List ℕ × (List ℕ × ℕ))))
    (coded× (coded_option coded_ℕ) (coded× (coded_option (coded_list coded_ℕ)) (
    coded× (coded_list coded_ℕ) (coded× (coded_list coded_ℕ) coded_ℕ))))
    (λ details. (
      details.id,
      (details.scope_name, (details.function_name, (details.file_path, details.line_nr))),
    ))
    (λ (id, (scope_name, (function_name, (file_path, line_nr)))). record {
      id = id;
      scope_name = scope_name;
      function_name = function_name;
      file_path = file_path;
      line_nr = line_nr;
    })
    (λ _. refl)

-- what contracts see of one scope's details
abbrev pub details_of : ScopeDetails → Details
details_of details = record {
  id = details.scope_id;
  scope_name = option_map cow_str_bytes details.scope_name;
  function_name = cow_str_bytes details.function_name;
  file_path = cow_str_bytes details.file_path;
  line_nr = details.line_nr;
}

-- the same for a list of them
abbrev pub details_seen : List ScopeDetails → List Details
details_seen details = map details_of details

-- the same for a list of shared ones
abbrev pub shared_details : {A : Type 0} → List (Arc ScopeDetails A) → List Details
shared_details details = map (λ one. details_of (arc_value one)) details

-- the scope's name, or the function's if it has none
abbrev pub name_of : Details → List ℕ
name_of details = unwrap_or details.scope_name details.function_name

-- details with a scope name are those of a named scope
abbrev pub type_of : Details → ScopeType
type_of details = if is_some details.scope_name then Named else Function

-- the file, followed by a colon and the line if that isn't 0
abbrev pub location_of : Details → List ℕ
location_of details =
    if details.line_nr == 0 then details.file_path
    else details.file_path ++ (58 ∷ decimal details.line_nr)

-- no id, no scope name, empty texts, and line 0
abbrev pub default_details : Details
default_details =
    record { id = None; scope_name = None; function_name = []; file_path = []; line_nr = 0 }

-- details with this id in place of their own
abbrev pub with_id : Details → ℕ → Details
with_id details id = record details { id = Some id }

-- whether details have no id
abbrev pub lacks_id : Details → Bool
lacks_id details = is_none details.id

-- each of these details has an id
abbrev pub AllHaveIds : List Details → Type 0
AllHaveIds details = All (λ one. IsSome one.id) details

-- the order of details by scope name, none first, then by function, file and line
abbrev pub texts_cmp : Details → Details → Ordering
texts_cmp =
    then_cmp (on (λ details. details.scope_name) (option_cmp (slice_cmp nat_cmp)))
    (then_cmp (on (λ details. details.function_name) (slice_cmp nat_cmp))
    (then_cmp (on (λ details. details.file_path) (slice_cmp nat_cmp))
    (on (λ details. details.line_nr) nat_cmp)))

-- the order of details by id, none first, then by texts and line
abbrev pub details_cmp : Details → Details → Ordering
details_cmp = then_cmp (on (λ details. details.id) (option_cmp nat_cmp)) texts_cmp

-- whether two details are equal
abbrev pub same_details : Details → Details → Bool
same_details = eq_by_cmp details_cmp

-- the errors of registering scopes under new ids
abbrev pub IsAddingCause : Error → Type 0
IsAddingCause cause = (cause ≡ IdsExhausted) ⊎ (cause ≡ Memory)
