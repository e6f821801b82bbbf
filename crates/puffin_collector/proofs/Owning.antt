-- Details that stand under their own ids have ids. A collection says so of what is found under an id, and so of all its entries.
use Rattle.std.proofs.Common.{◌≡◌, ℕ, List, [], ◌∷◌, map, T, cond, Option, None, Some, refl, sym, ap, subst, ◌∙◌}
use Rattle.std.specs.Prelude.{IsSome}
use Rattle.std.specs.declared.cmp.Ordering.{Ordering}
use Rattle.std.specs.declared.cmp.Ordering.TheVariants.{Less, Equal, Greater}
use Rattle.std.specs.Ordering.{nat_cmp, is_eq, is_lt}
use Rattle.std.specs.FinMap.{entries, find, is_sorted, entries_sorted, get-entries, nat_cmp-IsAntisymmetric}
use Rattle.std.specs.FinMap.Entries.{below_all}
use Rattle.std.proofs.lemmas.Cmp.{nat_cmp_total, tied_itself}
use Rattle.std.proofs.lemmas.List.Elements.{All-cons, All-nil}
use Rattle.puffin_threads.specs.Details.{Details, AllHaveIds}
use Rattle.puffin_threads.specs.Details.Collection.{Collection, KeepsOwnIds}
use Rattle.puffin_frames.proofs.lemmas.Measured.{first, second, less}
use Rattle.puffin_collector.specs.Collector.State.{all_details}

-- what is found in a list under an id is details with that id
abbrev pub Owned : List (ℕ × Details) → Type 0
Owned list = (id : ℕ) (details : Details) → find nat_cmp id list ≡ Some details → details.id ≡ Some id

-- nothing is found under an id that is below all
none_below : (id : ℕ) (list : List (ℕ × Details)) → T (below_all nat_cmp id list) → find nat_cmp id list ≡ None
none_below id [] below = refl
none_below id (entry ∷ list) below =
    ap (λ order. cond (is_eq order) (Some entry.1) (find nat_cmp id list)) (less (nat_cmp id entry.0) (first _ _ below))
    ∙ none_below id list (second (is_lt (nat_cmp id entry.0)) _ below)

-- what is found past the first entry, which is below the others, is found in the whole list
past_first : (order : Ordering) (id : ℕ) (details : Details) (entry : ℕ × Details) (list : List (ℕ × Details))
    → nat_cmp id entry.0 ≡ order → T (below_all nat_cmp entry.0 list) → find nat_cmp id list ≡ Some details
    → cond (is_eq order) (Some entry.1) (find nat_cmp id list) ≡ Some details
past_first Less id details entry list is below found = found
past_first Equal id details entry list is below found =
    let none = ap (λ k. find nat_cmp k list) (nat_cmp-IsAntisymmetric id entry.0 is) ∙ none_below entry.0 list below in
    absurd cc
past_first Greater id details entry list is below found = found

-- all details of such a list have ids, if it is sorted by id
all_owned : (list : List (ℕ × Details)) → T (is_sorted nat_cmp list) → Owned list → AllHaveIds (map (λ entry. entry.1) list)
all_owned [] sorted owned = All-nil (λ one. IsSome one.id)
all_owned (entry ∷ list) sorted owned =
    let own_id : entry.1.id ≡ Some entry.0 = owned entry.0 entry.1
    (ap (λ order. cond (is_eq order) (Some entry.1) (find nat_cmp entry.0 list)) (tied_itself nat_cmp_total entry.0)) in
    let has_id : IsSome entry.1.id = subst (λ (id : Option ℕ). IsSome id) (sym own_id) refl in
    let later = all_owned list (second (below_all nat_cmp entry.0 list) _ sorted) (λ id details found.
    owned id details (past_first (nat_cmp id entry.0) id details entry list refl (first _ _ sorted) found)) in
    All-cons (λ one. IsSome one.id) entry.1 (map (λ entry. entry.1) list) has_id later

-- all details of a collection have ids
pub all_have_ids : (collection : Collection) → KeepsOwnIds collection → AllHaveIds (all_details collection)
all_have_ids collection own = all_owned (entries collection.by_id) (entries_sorted collection.by_id)
    (λ id details found. own id details (get-entries collection.by_id id ∙ found))
