-- Scopes of the caller's own, one after the other.
use Rattle.std.proofs.Common.{◌≡◌, ℕ, ◌+◌, ◌<◌, inl, inr, List, [], ◌∷◌, ◌++◌, take, drop, get_or, length, Some, None, refl, sym, ap, ◌∙◌, subst, append-nil, append_assoc}
use Rattle.std.proofs.lemmas.List.{map-append, take-append-drop, take_more}
use Rattle.puffin_data.specs.declared.error.Error.{Error}
use Rattle.puffin_data.specs.declared.error.Error.TheVariants.{Memory}
use Rattle.puffin_threads.specs.declared.scope_details.details.ScopeDetails.{ScopeDetails}
use Rattle.puffin_threads.specs.Details.{Details, details_of, details_seen, with_id}
use Rattle.puffin_threads.specs.Details.Collection.{Collection, with_details, with_all_details}
use Rattle.puffin_collector.specs.Collector.State.{Collected, after_adding}
use Rattle.puffin_collector.specs.Collector.Registering.{known_id, none_asked, known_name, new_name, Adds, AddsSome, AddsOne, IsAddingRefusal}

-- details become known, and then later ones: the same as all of them at once
with_all_details-append : (collection : Collection) (first later : List Details)
    → with_all_details collection (first ++ later) ≡ with_all_details (with_all_details collection first) later
with_all_details-append collection [] later = refl
with_all_details-append collection (one ∷ first) later = with_all_details-append (with_details collection one) first later

-- adding none changes nothing
adding_none : (old : Collected) → old ≡ after_adding old []
adding_none old i = record old { new_details = sym (append-nil old.new_details) i }

-- adding twice is adding all at once
adding_more : (old : Collected) (first later : List Details)
    → after_adding (after_adding old first) later ≡ after_adding old (first ++ later)
adding_more old first later i = record old {
  collection = sym (with_all_details-append old.collection first later) i;
  new_details = append_assoc old.new_details first later i;
}

-- at first none is registered
pub Adds-none : (old : Collected) → Adds old [] [] old
Adds-none old = ([], none_asked, adding_none old)

-- one more is registered
pub Adds-more : (old now new : Collected) (asked : List Details) (ids : List ℕ) (last : Details) (id : ℕ)
    → Adds old asked ids now → AddsOne now last id new → Adds old (asked ++ (last ∷ [])) (ids ++ (id ∷ [])) new
Adds-more old now new asked ids last id (added, registers, is) (inl (known, same)) =
    (added, known_name last id registers (subst (λ (seen : Collected). known_id seen.collection last ≡ Some id) is known), same ∙ is)
Adds-more old now new asked ids last id (added, registers, is) (inr (unknown, grown)) = (
  added ++ (with_id last id ∷ []),
  new_name last id registers (subst (λ (seen : Collected). known_id seen.collection last ≡ None) is unknown),
  grown ∙ ap (λ (seen : Collected). after_adding seen (with_id last id ∷ [])) is ∙ adding_more old added (with_id last id ∷ []),
)

-- ---- refusals

-- no memory, and none registered
pub AddsSome-none : (old : Collected) (asked : List Details) → AddsSome old asked Memory old
AddsSome-none old asked = ([], ([], asked, [], refl, none_asked, inl refl), adding_none old)

-- a list, divided at one of its elements
split_at : (details : List ScopeDetails) (i : ℕ) (this : ScopeDetails) → i < length details → this ≡ get_or details i this
    → details_seen details ≡ details_seen (take i details) ++ (details_of this ∷ details_seen (drop (i + 1) details))
split_at details i this less is =
    let rest = drop (i + 1) details in
    let up_to_this : take (i + 1) details ≡ take i details ++ (this ∷ []) = take_more details i this less
    ∙ ap (λ (one : ScopeDetails). take i details ++ (one ∷ [])) (sym is) in
    ap details_seen (sym (take-append-drop (i + 1) details) ∙ ap (λ (front : List ScopeDetails). front ++ rest) up_to_this
    ∙ append_assoc (take i details) (this ∷ []) rest)
    ∙ map-append details_of (take i details) (this ∷ rest)

-- one is refused, and those before it are registered
pub AddsSome-at : (old now new : Collected) (details : List ScopeDetails) (i : ℕ) (this : ScopeDetails) (ids : List ℕ) (cause : Error)
    → i < length details → this ≡ get_or details i this → Adds old (details_seen (take i details)) ids now → new ≡ now
    → IsAddingRefusal now.collection (details_of this) cause → AddsSome old (details_seen details) cause new
AddsSome-at old now new details i this ids cause less at (added, registers, is) same refusal =
    let rest = details_of this ∷ details_seen (drop (i + 1) details) in (
      added,
      (
        details_seen (take i details),
        rest,
        ids,
        split_at details i this less at,
        registers,
        subst (λ (seen : Collected). IsAddingRefusal seen.collection (details_of this) cause) is refusal,
      ),
      same ∙ is,
    )
