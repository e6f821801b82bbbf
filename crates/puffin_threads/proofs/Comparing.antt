-- The order of details is total, only equal details tie, and equality is a tie.
use Rattle.std.proofs.Common.{◌≡◌, ℕ, Option, Some, None, Bool, true, ◌&&◌, refl, ap, ◌∙◌, nat_eq, option_map}
use Rattle.std.specs.declared.cmp.Ordering.{Ordering}
use Rattle.std.specs.declared.borrow.CowStr.{CowStr}
use lib.Pointwise.{pointwise}
use Rattle.std.specs.Cow.{cow_str_bytes}
use Rattle.std.specs.Ordering.{is_eq, nat_cmp}
use Rattle.std.specs.Option.{option_cmp, option_eq}
use Rattle.std.specs.Cmp.{IsTotalOrder, then_total, on_total, nat_cmp_total, Equal-is, unsigned_ties}
use Rattle.std.specs.Cmp.Lexicographic.{slice_cmp, options_total, nat_list_cmp_total, texts_ties}
use Rattle.std.specs.FinMap.{IsAntisymmetric, nat_cmp-IsAntisymmetric, slice_cmp-IsAntisymmetric}
use Rattle.puffin_threads.specs.declared.scope_details.details.ScopeDetails.{ScopeDetails}
use Rattle.puffin_threads.specs.Details.{Details, details_of, details_cmp, texts_cmp, same_details}
use Rattle.puffin_threads.proofs.lemmas.ThreadKeys.{ties, both}

-- only equal texts tie
bytes_one : IsAntisymmetric (slice_cmp nat_cmp)
bytes_one = slice_cmp-IsAntisymmetric nat_cmp-IsAntisymmetric

-- each field is ordered totally, and so are details
pub details_cmp_total : IsTotalOrder details_cmp
details_cmp_total =
    then_total (on_total (λ (d : Details). d.id) (options_total nat_cmp_total))
    (then_total (on_total (λ (d : Details). d.scope_name) (options_total nat_list_cmp_total))
    (then_total (on_total (λ (d : Details). d.function_name) nat_list_cmp_total)
    (then_total (on_total (λ (d : Details). d.file_path) nat_list_cmp_total)
    (on_total (λ (d : Details). d.line_nr) nat_cmp_total))))

-- if only equal values tie, only equal options do
options_one : {A : Type 0} {R : A → A → Ordering} → IsAntisymmetric R → IsAntisymmetric (option_cmp R)
options_one only None None tied = refl
options_one only None (Some other) tied = cc
options_one only (Some value) None tied = cc
options_one only (Some value) (Some other) tied = ap Some (only value other tied)

-- details tie only if each of their fields does, and then the fields are equal
pub details_cmp-one : IsAntisymmetric details_cmp
details_cmp-one x y tied =
    let (id_tied, by_name) = ties (option_cmp nat_cmp x.id y.id) (texts_cmp x y) tied in
    let (name_tied, by_function) = ties (option_cmp (slice_cmp nat_cmp) x.scope_name y.scope_name) _ by_name in
    let (function_tied, by_file) = ties (slice_cmp nat_cmp x.function_name y.function_name) _ by_function in
    let (file_tied, line_tied) = ties (slice_cmp nat_cmp x.file_path y.file_path) (nat_cmp x.line_nr y.line_nr) by_file in
    let ids = options_one nat_cmp-IsAntisymmetric x.id y.id id_tied in
    let names = options_one bytes_one x.scope_name y.scope_name name_tied in
    let functions = bytes_one x.function_name y.function_name function_tied in
    let files = bytes_one x.file_path y.file_path file_tied in
    let lines = nat_cmp-IsAntisymmetric x.line_nr y.line_nr line_tied in
    λ i. record { id = ids i; scope_name = names i; function_name = functions i; file_path = files i; line_nr = lines i }

-- details that are the same to the test are equal
pub same_details-one : (x y : Details) → same_details x y ≡ true → x ≡ y
same_details-one x y tied = details_cmp-one x y ((Equal-is (details_cmp x y)).0 tied)

-- ---- equality is a tie

-- equal ids are ids that tie
same_ids : (a b : Option ℕ) → option_eq nat_eq a b ≡ is_eq (option_cmp nat_cmp a b)
same_ids None None = refl
same_ids None (Some y) = refl
same_ids (Some x) None = refl
same_ids (Some x) (Some y) = unsigned_ties x y

-- and equal names are names that tie
same_names : {Z : Type 0} (a b : Option (CowStr Z)) →
    option_eq (λ x y. pointwise nat_eq (cow_str_bytes x) (cow_str_bytes y)) a b
    ≡ is_eq (option_cmp (slice_cmp nat_cmp) (option_map cow_str_bytes a) (option_map cow_str_bytes b))
same_names None None = refl
same_names None (Some y) = refl
same_names (Some x) None = refl
same_names (Some x) (Some y) = texts_ties (cow_str_bytes x) (cow_str_bytes y)

-- two tests that are ties are a test for both ties
and_then : {p q : Bool} (r s : Ordering) → p ≡ is_eq r → q ≡ is_eq s → (p && q) ≡ (is_eq r && is_eq s)
and_then r s first later = λ i. first i && later i

-- details that are equal field by field are details that tie
pub same_parts : (a b : ScopeDetails) →
    (option_eq nat_eq a.scope_id b.scope_id &&
    (option_eq (λ x y. pointwise nat_eq (cow_str_bytes x) (cow_str_bytes y)) a.scope_name b.scope_name &&
    (pointwise nat_eq (cow_str_bytes a.function_name) (cow_str_bytes b.function_name) &&
    (pointwise nat_eq (cow_str_bytes a.file_path) (cow_str_bytes b.file_path) && nat_eq a.line_nr b.line_nr))))
    ≡ same_details (details_of a) (details_of b)
same_parts a b =
    let x = details_of a in
    let y = details_of b in
    let line = nat_cmp x.line_nr y.line_nr in
    let file = slice_cmp nat_cmp x.file_path y.file_path in
    let function = slice_cmp nat_cmp x.function_name y.function_name in
    let name = option_cmp (slice_cmp nat_cmp) x.scope_name y.scope_name in
    let id = option_cmp nat_cmp x.id y.id in
    let files =
    and_then file line (texts_ties x.file_path y.file_path) (unsigned_ties x.line_nr y.line_nr) ∙ both file line in
    let functions = and_then function _ (texts_ties x.function_name y.function_name) files ∙ both function _ in
    let names = and_then name _ (same_names a.scope_name b.scope_name) functions ∙ both name _ in
    and_then id (texts_cmp x y) (same_ids x.id y.id) names ∙ both id (texts_cmp x y)
