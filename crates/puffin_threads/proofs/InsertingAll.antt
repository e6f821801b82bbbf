-- Details that are inserted one after the other: which of them lack their id, and which are inserted so far.
use Rattle.std.proofs.Common.{◌≡◌, ◌↔◌, ◌⊎◌, inl, inr, ℕ, ◌<◌, Bool, false, ◌||◌, List, [], ◌∷◌, take, drop, get_or, length, Option, None, Result, Ok, Err, refl, sym, ap, subst, ◌∙◌, arith}
use Rattle.std.specs.Prelude.{IsSome, OnErr}
use Rattle.std.specs.List.{list_any}
use Rattle.std.specs.Arc.{arc_value}
use Rattle.std.specs.declared.sync.Arc.{Arc}
use Rattle.std.proofs.lemmas.List.{get_or-map, length-map, map-append, take-append-drop}
use Rattle.std.proofs.lemmas.List.Elements.{All-get_or}
use Rattle.puffin_data.specs.declared.error.Error.{Error}
use Rattle.puffin_data.specs.declared.error.Error.TheVariants.{MissingId, Memory}
use Rattle.puffin_threads.specs.declared.scope_details.details.ScopeDetails.{ScopeDetails}
use Rattle.puffin_threads.specs.Details.{Details, details_of, shared_details, lacks_id, AllHaveIds}
use Rattle.puffin_threads.specs.Details.Collection.{Collection, with_all_details, IsPrefix, LearnsSome}
use Rattle.puffin_threads.proofs.lemmas.Ids.{none_lacks}

-- ---- ids

-- the test of shared details, and that of what they say
any_shared : {A : Type 0} (details : List (Arc ScopeDetails A)) →
    list_any (λ d. lacks_id (details_of (arc_value d))) details ≡ list_any lacks_id (shared_details details)
any_shared [] = refl
any_shared (one ∷ others) = ap (λ (b : Bool). lacks_id (details_of (arc_value one)) || b) (any_shared others)

-- what a test of shared details tells of what they say
pub tested : {A : Type 0} (b : Bool) (details : List (Arc ScopeDetails A)) →
    b ≡ list_any (λ d. lacks_id (details_of (arc_value d))) details →
    list_any lacks_id (shared_details details) ≡ b
tested b details is = sym (is ∙ any_shared details)

-- the details at a place of a list none of which lacks its id, and a copy of them, have one
pub id_at : {A : Type 0} (details : List (Arc ScopeDetails A)) (i : ℕ) (item copy : Arc ScopeDetails A) →
    list_any lacks_id (shared_details details) ≡ false → i < length details → item ≡ get_or details i item →
    arc_value copy ≡ arc_value item →
    IsSome (details_of (arc_value copy)).id
id_at details i item copy none inside is same =
    let said : Arc ScopeDetails _ → Details = λ shared. details_of (arc_value shared) in
    let all : AllHaveIds (shared_details details) = none_lacks (shared_details details) none in
    let in_list =
    All-get_or (λ one. IsSome one.id) (shared_details details) i (said item) (omega (arith, inside, length-map details said)) all in
    let of_item = subst (λ (one : Details). IsSome one.id) (get_or-map said details i item (said item) inside ∙ ap said (sym is)) in_list in
    subst (λ (value : ScopeDetails). IsSome (details_of value).id) (sym same) of_item

-- the only refusal of details that have an id
pub memory_alone : {T : Type 0} (r : Result T Error) (cause : Error) (details : Details) →
    IsSome details.id → r ≡ Err cause → ((r ≡ Err MissingId) ↔ (details.id ≡ None)) →
    (cause ≡ MissingId) ⊎ (cause ≡ Memory) →
    cause ≡ Memory
memory_alone r cause details some is (missing_has_none, _) (inl missing) =
    absurd (no_id (subst (λ (id : Option ℕ). IsSome id) (missing_has_none (is ∙ ap Err missing)) some))
  where
    no_id : IsSome {T = ℕ} None → ⊥
    no_id some = cc
memory_alone r cause details some is missing (inr memory) = memory

-- ---- lists of details

-- the first details of a list are a prefix of it
beginning : {A : Type 0} (details : List (Arc ScopeDetails A)) (i : ℕ) →
    IsPrefix (shared_details (take i details)) (shared_details details)
beginning details i = (
  shared_details (drop i details),
  ap shared_details (sym (take-append-drop i details))
      ∙ map-append (λ d. details_of (arc_value d)) (take i details) (drop i details),
)

-- what is inserted so far is a prefix of all
pub learnt_so_far : {A T E : Type 0} (r : Result T E) (details : List (Arc ScopeDetails A)) (i : ℕ) (old new : Collection) →
    new ≡ with_all_details old (shared_details (take i details)) →
    OnErr r (LearnsSome old (shared_details details) new)
learnt_so_far (Ok x) details i old new is = tt
learnt_so_far (Err cause) details i old new is = (shared_details (take i details), beginning details i, is)
