-- What a collection of a list of details has.
use Rattle.std.proofs.Common.{◌≡◌, ℕ, Bool, true, false, cond, List, [], ◌∷◌, map, Option, Some, None, nat_eq, refl, sym, ap, ◌∙◌}
use Rattle.std.specs.Ordering.{nat_cmp, eq_by_cmp}
use Rattle.std.specs.Option.{option_or, option_eq}
use Rattle.std.specs.Cmp.{nat_cmp_total, eq_by_cmp_equiv, unsigned_ties, Equal-is}
use Rattle.std.specs.Cmp.Lexicographic.{nat_list_cmp_total}
use Rattle.std.specs.FinMap.{get, get-insert, get-empty, values, nat_cmp-IsAntisymmetric}
use Rattle.puffin_threads.specs.Details.{Details, name_of}
use Rattle.puffin_threads.proofs.lemmas.EntriesSeen.{entries-empty}
use Rattle.puffin_threads.specs.Details.Collection.{Collection, bytes_cmp, no_details, with_details, with_details_under, with_all_details, kept_or, first_with_id, id_under, last_id_of}

or_assoc : {A : Type 0} (a b c : Option A) → option_or (option_or a b) c ≡ option_or a (option_or b c)
or_assoc None b c = refl
or_assoc (Some x) b c = refl

or_none : {A : Type 0} (a : Option A) → option_or a None ≡ a
or_none None = refl
or_none (Some x) = refl

-- a test decides between some value and another
or_test : {A : Type 0} (b : Bool) (x : A) (o : Option A) → cond b (Some x) o ≡ option_or (cond b (Some x) None) o
or_test true x o = refl
or_test false x o = refl

-- ---- by id: the first

tied : (i id : ℕ) → nat_eq i id ≡ eq_by_cmp nat_cmp id i
tied i id = unsigned_ties i id ∙ (eq_by_cmp_equiv nat_cmp_total).symm i id

same_id : (i id : ℕ) → nat_eq i id ≡ true → i ≡ id
same_id i id e = nat_cmp-IsAntisymmetric i id ((Equal-is (nat_cmp i id)).0 (sym (unsigned_ties i id) ∙ e))

-- what is there stays
kept_at : (b : Bool) (kept details : Details) (found : Option Details) →
    (b ≡ true → found ≡ Some kept) →
    found ≡ option_or found (cond b (Some details) None)
kept_at true kept details found there =
    there refl ∙ ap (λ (p : Option Details). option_or p (Some details)) (sym (there refl))
kept_at false kept details found there = sym (or_none found)

-- and what isn't there comes
fresh_at : (b : Bool) (details : Details) (found : Option Details) →
    (b ≡ true → found ≡ None) →
    cond b (Some details) found ≡ option_or found (cond b (Some details) None)
fresh_at true details found none = sym (ap (λ (p : Option Details). option_or p (Some details)) (none refl))
fresh_at false details found none = sym (or_none found)

-- one more insertion under an id, as a look-up sees it
put_at : (collection : Collection) (details : Details) (i id : ℕ) (found : Option Details) →
    get collection.by_id i ≡ found →
    get (kept_or found collection.by_id i details) id
    ≡ option_or (get collection.by_id id) (cond (nat_eq i id) (Some details) None)
put_at collection details i id (Some kept) is =
    kept_at (nat_eq i id) kept details (get collection.by_id id)
    (λ same. ap (get collection.by_id) (sym (same_id i id same)) ∙ is)
put_at collection details i id None is =
    get-insert nat_cmp_total collection.by_id i details id
    ∙ ap (λ b. cond b (Some details) (get collection.by_id id)) (sym (tied i id))
    ∙ fresh_at (nat_eq i id) details (get collection.by_id id)
    (λ same. ap (get collection.by_id) (sym (same_id i id same)) ∙ is)

-- one more details, as a look-up by id sees it
one_by_id : (collection : Collection) (details : Details) (o : Option ℕ) (id : ℕ) →
    get (with_details_under collection details o).by_id id
    ≡ option_or (get collection.by_id id) (cond (option_eq nat_eq o (Some id)) (Some details) None)
one_by_id collection details None id = sym (or_none (get collection.by_id id))
one_by_id collection details (Some i) id = put_at collection details i id (get collection.by_id i) refl

-- so what is found by id is what was there, or the first details with that id
first_from : (details : List Details) (collection : Collection) (id : ℕ) →
    get (with_all_details collection details).by_id id ≡ option_or (get collection.by_id id) (first_with_id id details)
first_from [] collection id = sym (or_none (get collection.by_id id))
first_from (one ∷ others) collection id =
    let b = option_eq nat_eq one.id (Some id) in
    first_from others (with_details collection one) id
    ∙ ap (λ o. option_or o (first_with_id id others)) (one_by_id collection one one.id id)
    ∙ or_assoc (get collection.by_id id) (cond b (Some one) None) (first_with_id id others)
    ∙ ap (option_or (get collection.by_id id)) (sym (or_test b one (first_with_id id others)))

pub first_in : (details : List Details) (id : ℕ) →
    get (with_all_details no_details details).by_id id ≡ first_with_id id details
first_in details id =
    first_from details no_details id ∙ ap (λ o. option_or o (first_with_id id details)) (get-empty nat_cmp id)

-- ---- by name: the last

none_at : (b : Bool) → ◌≡◌ {A = Option ℕ} (cond b None None) None
none_at true = refl
none_at false = refl

-- one more details, as a look-up by name sees it
one_by_name : (collection : Collection) (details : Details) (o : Option ℕ) (name : List ℕ) →
    get (with_details_under collection details o).by_name name
    ≡ option_or (cond (eq_by_cmp bytes_cmp name (name_of details)) o None) (get collection.by_name name)
one_by_name collection details None name =
    sym (ap (λ o. option_or o (get collection.by_name name)) (none_at (eq_by_cmp bytes_cmp name (name_of details))))
one_by_name collection details (Some i) name =
    get-insert nat_list_cmp_total collection.by_name (name_of details) i name
    ∙ or_test (eq_by_cmp bytes_cmp name (name_of details)) i (get collection.by_name name)

-- so what is found by name is the last id with that name, or what was there
last_from : (details : List Details) (collection : Collection) (name : List ℕ) →
    get (with_all_details collection details).by_name name
    ≡ option_or (last_id_of name details) (get collection.by_name name)
last_from [] collection name = refl
last_from (one ∷ others) collection name =
    last_from others (with_details collection one) name
    ∙ ap (option_or (last_id_of name others)) (one_by_name collection one one.id name)
    ∙ sym (or_assoc (last_id_of name others) (id_under name one) (get collection.by_name name))

pub last_in : (details : List Details) (name : List ℕ) →
    get (with_all_details no_details details).by_name name ≡ last_id_of name details
last_in details name =
    last_from details no_details name
    ∙ ap (option_or (last_id_of name details)) (get-empty bytes_cmp name)
    ∙ or_none (last_id_of name details)

-- the empty collection has nothing
pub none_in_none : (values no_details.by_id ≡ []) × (values no_details.by_name ≡ [])
none_in_none = (ap (map (λ e. e.1)) (entries-empty nat_cmp), ap (map (λ e. e.1)) (entries-empty bytes_cmp))
