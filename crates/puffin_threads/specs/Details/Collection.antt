-- What contracts see of a collection: the first details under each id, the last id under each name.
use Rattle.std.specs.Prelude.{ℕ, List, [], ◌∷◌, ◌++◌, ◌≡◌, Option, Some, None, map, fold, find, if◌then◌else◌, nat_eq, option_and_then, string_bytes, String, refl}
use Rattle.std.specs.declared.sync.Arc.{Arc}
use Rattle.std.specs.declared.cmp.Ordering.{Ordering}
use Rattle.std.specs.Option.{option_eq, option_or}
use Rattle.std.specs.Ordering.{nat_cmp, eq_by_cmp}
use Rattle.std.specs.Arc.{arc_value}
use Rattle.std.specs.Cmp.Lexicographic.{slice_cmp}
use Rattle.std.specs.Coded.{Coded, code_by, coded×, coded_list, coded_ℕ}
use Rattle.std.specs.FinMap as map
use Rattle.puffin_threads.specs.declared.scope_details.details.ScopeDetails.{ScopeDetails}
use Rattle.puffin_threads.specs.Details.{Details, details_code, details_of, name_of}

-- names are ordered by their bytes
abbrev pub bytes_cmp : List ℕ → List ℕ → Ordering
bytes_cmp = slice_cmp nat_cmp

-- a collection: the details under each id, and the id under each name
pub record Collection : Type 0 where
  pub by_id : map.FinMap nat_cmp Details
  pub by_name : map.FinMap bytes_cmp ℕ

-- a collection as the pair of its maps, and back: two are equal if their maps are
abbrev pub collection_code : Coded Collection
collection_code =
    code_by (map.FinMap nat_cmp Details × map.FinMap bytes_cmp ℕ)
    (coded× (map.code coded_ℕ details_code) (map.code (coded_list coded_ℕ) coded_ℕ))
    (λ collection. (collection.by_id, collection.by_name))
    (λ maps. record { by_id = maps.0; by_name = maps.1 })
    (λ _. refl)

-- the empty collection
abbrev pub no_details : Collection
no_details = record { by_id = map.empty; by_name = map.empty }

-- the details by id after an insertion: what was kept under the id stays, and otherwise the given details are put there
abbrev pub kept_or : Option Details → map.FinMap nat_cmp Details → ℕ → Details →
    map.FinMap nat_cmp Details
kept_or (Some kept) by_id id details = by_id
kept_or None by_id id details = map.insert by_id id details

-- a collection after details are inserted under this id, if there is one, and their name
abbrev pub with_details_under : Collection → Details → Option ℕ → Collection
with_details_under collection details None = collection
with_details_under collection details (Some id) = record {
  by_id = kept_or (map.get collection.by_id id) collection.by_id id details;
  by_name = map.insert collection.by_name (name_of details) id;
}

-- the same under their own id; details without an id change nothing
abbrev pub with_details : Collection → Details → Collection
with_details collection details = with_details_under collection details details.id

-- the same for a list of details, one after the other
abbrev pub with_all_details : Collection → List Details → Collection
with_all_details collection details = fold with_details collection details

-- `some` is a prefix of `all`
abbrev pub IsPrefix : List Details → List Details → Type 0
IsPrefix some all = (rest : List Details) × (all ≡ some ++ rest)

-- a prefix of the details was inserted
abbrev pub LearnsSome : Collection → List Details → Collection → Type 0
LearnsSome old details new =
    (learnt : List Details) × IsPrefix learnt details × (new ≡ with_all_details old learnt)

-- what a collection has under the id of these details
abbrev pub kept_for : Collection → Details → Option Details
kept_for collection details =
    option_and_then (λ id. map.get collection.by_id id) details.id

-- all details are under their own ids
abbrev pub KeepsOwnIds : Collection → Type 0
KeepsOwnIds collection =
    (id : ℕ) (details : Details) → map.get collection.by_id id ≡ Some details →
    details.id ≡ Some id

-- the first of a list of details with this id
abbrev pub first_with_id : ℕ → List Details → Option Details
first_with_id id details = find (λ one. option_eq nat_eq one.id (Some id)) details

-- the id of details if this is their name
abbrev pub id_under : List ℕ → Details → Option ℕ
id_under name details =
    if eq_by_cmp bytes_cmp name (name_of details) then details.id else None

-- the last id that a list of details has with this name
abbrev pub last_id_of : List ℕ → List Details → Option ℕ
last_id_of name [] = None
last_id_of name (details ∷ later) = option_or (last_id_of name later) (id_under name details)

-- the entries of a stored map from ids to details, as contracts see them
abbrev pub ids_seen : {A : Type 0} → List (ℕ × Arc ScopeDetails A) → List (ℕ × Details)
ids_seen entries = map (λ entry. (entry.0, details_of (arc_value entry.1))) entries

-- the same of a stored map from names to ids
abbrev pub names_seen : {A : Type 0} → List (String A × ℕ) → List (List ℕ × ℕ)
names_seen entries = map (λ entry. (string_bytes entry.0, entry.1)) entries

-- the map of entries from ids to details
abbrev pub by_ids : {A : Type 0} → List (ℕ × Arc ScopeDetails A) → map.FinMap nat_cmp Details
by_ids entries = map.from_entries (ids_seen entries)

-- the map of entries from names to ids
abbrev pub by_names : {A : Type 0} → List (String A × ℕ) → map.FinMap bytes_cmp ℕ
by_names entries = map.from_entries (names_seen entries)
