-- Inserting details into a collection.
use Rattle.std.proofs.Common.{◌≡◌, ℕ, Bool, true, false, cond, List, Option, Some, None, option_map, option_and_then, refl, sym, ap, ◌∙◌, string_bytes, String}
use Rattle.std.specs.Ordering.{nat_cmp, eq_by_cmp}
use Rattle.std.specs.Cmp.{nat_cmp_total, Equal-is, eq_by_cmp_equiv}
use Rattle.std.specs.Cmp.Lexicographic.{nat_list_cmp_total}
use Rattle.std.specs.Map.{lookup, set_value}
use Rattle.std.specs.BTreeMap.{BTreeMap, insert_entry, is_at}
use Rattle.std.specs.BTreeMap as tree
use Rattle.std.specs.FinMap.{FinMap, get, insert, get-insert, get-empty, same_map, nat_cmp-IsAntisymmetric, slice_cmp-IsAntisymmetric}
use Rattle.std.specs.Arc.{arc_value}
use Rattle.std.specs.declared.sync.Arc.{Arc}
use Rattle.puffin_threads.specs.declared.scope_details.details.ScopeDetails.{ScopeDetails}
use Rattle.puffin_threads.specs.Details.{Details, details_of, name_of}
use Rattle.puffin_threads.specs.Details.Collection.{Collection, bytes_cmp, with_details, with_details_under, kept_for, kept_or, no_details, KeepsOwnIds, by_ids, by_names}
use Rattle.puffin_threads.proofs.lemmas.EntriesSeen.{get-seen, insert-seen, write-seen}
use Rattle.std.proofs.lemmas.Option.{same_Some, none-some}

module _ {A : Type 0} where
  -- look-ups in and insertions into the entries of a collection's maps, as its maps see them
  pub get-by_ids : (entries : List (ℕ × Arc ScopeDetails A)) (id : ℕ) →
      get (by_ids entries) id ≡ option_map (λ d. details_of (arc_value d)) (lookup (is_at (nat_cmp id)) entries)
  get-by_ids entries id = get-seen (λ k. k) (λ d. details_of (arc_value d)) nat_cmp nat_cmp_total entries id

  pub by_ids-insert : (entries : List (ℕ × Arc ScopeDetails A)) (k : ℕ) (details : Arc ScopeDetails A) →
      by_ids (insert_entry nat_cmp entries k details) ≡ insert (by_ids entries) k (details_of (arc_value details))
  by_ids-insert entries k details =
      insert-seen (λ k. k) (λ details. details_of (arc_value details)) nat_cmp nat_cmp_total nat_cmp-IsAntisymmetric
      entries k details

  pub get-by_names : (entries : List (String A × ℕ)) (name : List ℕ) →
      get (by_names entries) name ≡ lookup (is_at (λ k. bytes_cmp name (string_bytes k))) entries
  get-by_names entries name =
      get-seen (λ k. string_bytes k) (λ id. id) bytes_cmp nat_list_cmp_total entries name
      ∙ same (lookup (is_at (λ k. bytes_cmp name (string_bytes k))) entries)
    where
      same : (o : Option ℕ) → option_map (λ id. id) o ≡ o
      same None = refl
      same (Some id) = refl

  pub by_names-insert : (entries : List (String A × ℕ)) (k : String A) (n : ℕ) →
      by_names (insert_entry (λ a b. bytes_cmp (string_bytes a) (string_bytes b)) entries k n)
      ≡ insert (by_names entries) (string_bytes k) n
  by_names-insert entries k n =
      insert-seen (λ k. string_bytes k) (λ n. n) bytes_cmp nat_list_cmp_total
      (slice_cmp-IsAntisymmetric nat_cmp-IsAntisymmetric) entries k n

  pub by_names-write : (entries : List (String A × ℕ)) (name : List ℕ) (old n : ℕ) →
      lookup (is_at (λ k. bytes_cmp name (string_bytes k))) entries ≡ Some old →
      by_names (set_value (is_at (λ k. bytes_cmp name (string_bytes k))) entries n) ≡ insert (by_names entries) name n
  by_names-write entries name old n found =
      write-seen (λ k. string_bytes k) (λ n. n) bytes_cmp nat_list_cmp_total
      (slice_cmp-IsAntisymmetric nat_cmp-IsAntisymmetric) entries name old n found

  -- an id that is taken out again, where there was none
  undone_test : (b : Bool) (q k : ℕ) (details : Arc ScopeDetails A) (found : Option (Arc ScopeDetails A)) →
      (b ≡ true → found ≡ None) →
      cond b None (cond b (Some details) found) ≡ found
  undone_test true q k details found none = sym (none refl)
  undone_test false q k details found none = refl

-- ---- details under their own ids

-- ids tie only if they are equal
same_ids : (q id : ℕ) → eq_by_cmp nat_cmp q id ≡ true → q ≡ id
same_ids q id e = nat_cmp-IsAntisymmetric q id ((Equal-is (nat_cmp q id)).0 e)

-- what is found after an insertion is the new details, under their own id, or what was there
own_at : (b : Bool) (other id : ℕ) (details found_details : Details) (o : Option Details) →
    (b ≡ true → other ≡ id) → details.id ≡ Some id → (o ≡ Some found_details → found_details.id ≡ Some other) →
    cond b (Some details) o ≡ Some found_details →
    found_details.id ≡ Some other
own_at true other id details found_details o same is later found =
    ap (λ (y : Details). y.id) (sym (same_Some details found_details found)) ∙ is ∙ ap Some (sym (same refl))
own_at false other id details found_details there_is same is later found = later found

pub own_ids_put : (by_id : FinMap nat_cmp Details) (id : ℕ) (details : Details) →
    ((other : ℕ) (found_details : Details) → get by_id other ≡ Some found_details → found_details.id ≡ Some other) →
    details.id ≡ Some id →
    (other : ℕ) (found_details : Details) →
    get (insert by_id id details) other ≡ Some found_details →
    found_details.id ≡ Some other
own_ids_put by_id id details own is other found_details found =
    own_at (eq_by_cmp nat_cmp other id) other id details found_details (get by_id other) (same_ids other id) is
    (own other found_details)
    (sym (get-insert nat_cmp_total by_id id details other) ∙ found)

own_or : (found : Option Details) (collection : Collection) (details : Details) (id : ℕ) →
    details.id ≡ Some id → KeepsOwnIds collection →
    (other : ℕ) (found_details : Details) →
    get (kept_or found collection.by_id id details) other ≡ Some found_details →
    found_details.id ≡ Some other
own_or (Some kept) collection details id is own other found_details found = own other found_details found
own_or None collection details id is own other found_details found =
    own_ids_put collection.by_id id details own is other found_details found

own_ids_at : (collection : Collection) (details : Details) (o : Option ℕ) →
    details.id ≡ o → KeepsOwnIds collection →
    KeepsOwnIds (with_details_under collection details o)
own_ids_at collection details None is own = own
own_ids_at collection details (Some id) is own = own_or (get collection.by_id id) collection details id is own

pub own_ids_none : KeepsOwnIds no_details
own_ids_none id d found = absurd (none-some d (sym (get-empty nat_cmp id) ∙ found))

pub own_ids_inserted : (collection : Collection) (details : Details) →
    KeepsOwnIds collection →
    KeepsOwnIds (with_details collection details)
own_ids_inserted collection details own = own_ids_at collection details details.id refl own

-- ---- what an insertion leaves

-- under an id that is there only the name is put
pub kept_inserted : (collection : Collection) (details : Details) (id : ℕ) (old : Details) (names : FinMap bytes_cmp ℕ) →
    details.id ≡ Some id → get collection.by_id id ≡ Some old → names ≡ insert collection.by_name (name_of details) id →
    ◌≡◌ {A = Collection} (record { by_id = collection.by_id; by_name = names }) (with_details collection details)
kept_inserted collection details id old names is there named =
    (λ i. record { by_id = kept_or (sym there i) collection.by_id id details; by_name = named i })
    ∙ ap (with_details_under collection details) (sym is)

-- under a new id the details are put too
pub fresh_inserted :
    (collection : Collection) (details : Details) (id : ℕ) (ids : FinMap nat_cmp Details) (names : FinMap bytes_cmp ℕ) →
    details.id ≡ Some id → get collection.by_id id ≡ None → ids ≡ insert collection.by_id id details →
    names ≡ insert collection.by_name (name_of details) id →
    ◌≡◌ {A = Collection} (record { by_id = ids; by_name = names }) (with_details collection details)
fresh_inserted collection details id ids names is none put named =
    let fresh : ids ≡ kept_or (get collection.by_id id) collection.by_id id details =
    put ∙ ap (λ o. kept_or o collection.by_id id details) (sym none) in
    (λ i. record { by_id = fresh i; by_name = named i }) ∙ ap (with_details_under collection details) (sym is)

-- what is under an id is what was kept for details with that id
pub kept_is : (collection : Collection) (details : Details) (id : ℕ) (kept : Details) →
    details.id ≡ Some id → get collection.by_id id ≡ Some kept →
    kept_for collection details ≡ Some kept
kept_is collection details id kept is there = ap (option_and_then (λ id. get collection.by_id id)) is ∙ there

pub get-put : (by_id : FinMap nat_cmp Details) (id : ℕ) (details : Details) → get (insert by_id id details) id ≡ Some details
get-put by_id id details =
    get-insert nat_cmp_total by_id id details id
    ∙ ap (λ b. cond b (Some details) (get by_id id)) ((eq_by_cmp_equiv nat_cmp_total).refl id)

-- an id that was put where there was none, and was taken out again
module _ {A : Type 0} where
  pub undone : (before put after : BTreeMap ℕ (Arc ScopeDetails A)) (id : ℕ) (details : Arc ScopeDetails A) →
      tree.get nat_cmp before id ≡ None → tree.Updates nat_cmp before put id (Some details) →
      tree.Updates nat_cmp put after id None →
      by_ids after.entries ≡ by_ids before.entries
  undone before put after id details none puts takes =
      same_map nat_cmp_total nat_cmp-IsAntisymmetric (by_ids after.entries) (by_ids before.entries)
      (λ other. get-by_ids after.entries other
      ∙ ap (option_map (λ x. details_of (arc_value x)))
      (takes.0 other ∙ ap (cond (is_at (nat_cmp id) other) None) (puts.0 other)
      ∙ undone_test (is_at (nat_cmp id) other) other id details (tree.get nat_cmp before other)
      (λ same. ap (tree.get nat_cmp before) (sym (same_ids id other same)) ∙ none))
      ∙ sym (get-by_ids before.entries other))
