-- Details that are copied, known, and told of.
use Rattle.std.proofs.Common.{◌≡◌, ℕ, Bool, true, false, ◌↔◌, All, List, [], ◌∷◌, ◌++◌, map, Result, Err, ◌⊎◌, inl, inr, refl, sym, ap, ◌∙◌, subst, arith}
use Rattle.std.specs.Prelude.{IsSome, IsTrue}
use Rattle.std.specs.List.{list_any}
use Rattle.std.specs.Arc.{arc_value}
use Rattle.std.specs.declared.sync.Arc.{Arc}
use Rattle.std.specs.Ordering.{nat_cmp}
use Rattle.std.specs.Map.{keys_of, values_of}
use Rattle.std.specs.List.Sorted.{IsStrictlySortedBy}
use Rattle.std.specs.FinMap.{values}
use Rattle.std.proofs.lemmas.Cmp.{nat_cmp_total}
use Rattle.std.proofs.lemmas.List.{get_or-map, length-map, map-append}
use Rattle.std.proofs.lemmas.List.Elements.{All-map, All-get_or, All-append}
use Rattle.puffin_data.specs.declared.error.Error.{Error}
use Rattle.puffin_data.specs.declared.error.Error.TheVariants.{MissingId, Memory}
use Rattle.puffin_threads.specs.declared.scope_details.details.ScopeDetails.{ScopeDetails}
use Rattle.puffin_threads.specs.Details.{Details, details_of, details_seen, shared_details, lacks_id, AllHaveIds}
use Rattle.puffin_threads.specs.Details.Collection.{by_ids, ids_seen}
use Rattle.puffin_threads.proofs.lemmas.EntriesSeen.{entries-seen}
use Rattle.puffin_threads.proofs.lemmas.Ids.{all_have}

-- ---- ids

-- what the test of all ids tells if it answers yes
pub all_ids : (answer : Bool) (details : List ScopeDetails) → (IsTrue answer ↔ All (λ one. IsSome (details_of one).id) details)
    → answer ≡ true → AllHaveIds (details_seen details)
all_ids answer details test is = All-map (λ one. IsSome one.id) details_of details (test.0 is)

-- and if it answers no
pub not_all_ids : (answer : Bool) (details : List ScopeDetails) → (IsTrue answer ↔ All (λ one. IsSome (details_of one).id) details)
    → answer ≡ false → ¬ AllHaveIds (details_seen details)
not_all_ids answer details test is all =
    let yes : answer ≡ true = test.1 (λ k one less.
    subst (λ (seen : Details). IsSome seen.id) (get_or-map details_of details k one (details_of one) less)
    (All-get_or (λ seen. IsSome seen.id) (details_seen details) k (details_of one)
    (omega (arith, less, length-map details details_of)) all)) in
    cc

-- details with ids, after details with ids
pub ids_after : {A : Type 0} (old more new : List (Arc ScopeDetails A)) → new ≡ old ++ more
    → AllHaveIds (shared_details old) → AllHaveIds (shared_details more) → AllHaveIds (shared_details new)
ids_after old more new is before later =
    subst AllHaveIds (sym (ap shared_details is ∙ map-append (λ one. details_of (arc_value one)) old more))
    (All-append (λ one. IsSome one.id) (shared_details old) (shared_details more) before later)

-- what is refused where all details have ids is refused for memory
pub memory_alone : {T : Type 0} (result : Result T Error) (cause : Error) (details : List Details) → AllHaveIds details
    → result ≡ Err cause → ((result ≡ Err MissingId) ↔ (list_any lacks_id details ≡ true))
    → (cause ≡ MissingId) ⊎ (cause ≡ Memory) → cause ≡ Memory
memory_alone result cause details all is missing (inl none) =
    let lost : list_any lacks_id details ≡ true = missing.0 (is ∙ ap Err none) in
    let kept = all_have details all in
    absurd cc
memory_alone result cause details all is missing (inr memory) = memory

-- ---- lists of details

-- the details of a collection's entries, in their order
values-seen : {A : Type 0} (entries : List (ℕ × Arc ScopeDetails A))
    → map (λ (entry : ℕ × Details). entry.1) (ids_seen entries) ≡ shared_details (values_of entries)
values-seen [] = refl
values-seen (entry ∷ entries) = ap (λ rest. details_of (arc_value entry.1) ∷ rest) (values-seen entries)

-- the same, of entries that are sorted by id and so make a map
pub values-by_ids : {A : Type 0} (entries : List (ℕ × Arc ScopeDetails A)) → IsStrictlySortedBy nat_cmp (keys_of entries)
    → values (by_ids entries) ≡ shared_details (values_of entries)
values-by_ids entries sorted =
    ap (map (λ (entry : ℕ × Details). entry.1))
    (entries-seen (λ (id : ℕ). id) (λ one. details_of (arc_value one)) nat_cmp nat_cmp_total entries sorted)
    ∙ values-seen entries
