-- A reading reads back what a layout writes, and nothing else; readings are put together as layouts are.
use Rattle.std.proofs.Common.{◌≡◌, ℕ, zero, suc, ◌+◌, ◌^◌, ◌<◌, Bool, true, cond, eqb, List, [], ◌∷◌, ◌++◌, length, get_or, Option, Some, None, refl, sym, ap, subst, ◌∙◌, append_assoc, arith}
use Rattle.std.specs.List.{flat_map, AllByRecursion}
use Rattle.std.proofs.lemmas.Bool.{eqb-true}
use Rattle.std.proofs.lemmas.List.{get_or-append_right, append-nil, nil_from_length}
use Rattle.std.proofs.lemmas.Option.{same_Some, some_pair_parts, cond_some}
use Rattle.puffin_data.specs.Value.Layout.{IsBytes, number, optional, pair, items, IsLong, IfAny, AreItems, NoneBeginsAnother, ReadsLayouts}
use Rattle.puffin_data.specs.Value.Decoding.{◌>>=◌, with_test, seen_as, optional_at, pair_at, times_at, whole}
use Rattle.puffin_data.specs.inner.Fronts.{ReadsWithRest, GivesWithRest}

pub IsBytes-rest : (first : ℕ) (bytes : List ℕ) → IsBytes (first ∷ bytes) → IsBytes bytes
IsBytes-rest first bytes are_bytes index = are_bytes (suc index)

-- what follows a layout in bytes is bytes
pub IsBytes-after : (bytes front rest : List ℕ) → bytes ≡ front ++ rest → IsBytes bytes → IsBytes rest
IsBytes-after bytes front rest is are_bytes index =
    let there : get_or (front ++ rest) (length front + index) 0 ≡ get_or rest index 0 =
    get_or-append_right front rest (length front) (length front + index) 0 refl (omega arith)
    ∙ ap (λ any. get_or rest any 0) (omega arith) in
    let P : List ℕ → Type 0 = λ (any : List ℕ). get_or any (length front + index) 0 < 256 in
    let here : get_or (front ++ rest) (length front + index) 0 < 256 = subst P is (are_bytes (length front + index)) in
    rw (← there) here

-- The reading reads what was laid out, whatever follows, and what it read was laid out so.
pub record IsReader {A : Type 0} (fits : A → Type 0) (layout : A → List ℕ) (read : List ℕ → Option (A × List ℕ)) : Type 0 where
  pub again : (value : A) (rest : List ℕ) → fits value → read (layout value ++ rest) ≡ Some (value, rest)
  pub taken : (bytes : List ℕ) (value : A) (rest : List ℕ) → IsBytes bytes → read bytes ≡ Some (value, rest)
      → fits value × (bytes ≡ layout value ++ rest)

-- ---- what follows for each

pub begins_no_other : {A : Type 0} (fits : A → Type 0) (layout : A → List ℕ) (read : List ℕ → Option (A × List ℕ))
    → IsReader fits layout read → NoneBeginsAnother fits layout
begins_no_other fits layout read reader one other rest other_rest fits_one fits_other same =
    some_pair_parts one other rest other_rest
    (sym (reader.again one rest fits_one) ∙ (ap read same ∙ reader.again other other_rest fits_other))

nothing : {X : Type 0} (value : X) → None ≡ Some value → ⊥
nothing value same = absurd cc

-- nothing is read only where no layout begins
pub none_begins : {A : Type 0} (fits : A → Type 0) (layout : A → List ℕ) (read : List ℕ → Option (A × List ℕ))
    → IsReader fits layout read → (bytes : List ℕ) → read bytes ≡ None → (value : A) (rest : List ℕ) → fits value
    → bytes ≡ layout value ++ rest → ⊥
none_begins fits layout read reader bytes none value rest value_fits is =
    nothing (value, rest) (sym none ∙ (ap read is ∙ reader.again value rest value_fits))

pub reads_with_rest : {X A : Type 0} (view : X → A × List ℕ) (fits : A → Type 0) (layout : A → List ℕ)
    (read : List ℕ → Option (A × List ℕ)) → IsReader fits layout read → (old : List ℕ) (result : Option X) → IsBytes old
    → GivesWithRest view result (read old) → ReadsWithRest view fits layout old result
reads_with_rest view fits layout read reader old (Some value) bytes given = reader.taken old (view value).0 (view value).1 bytes given
reads_with_rest view fits layout read reader old None bytes given = none_begins fits layout read reader old given

pub reads_layouts : {A : Type 0} (fits : A → Type 0) (layout : A → List ℕ) (read : List ℕ → Option (A × List ℕ))
    → IsReader fits layout read → ReadsLayouts fits layout read
reads_layouts fits layout read reader bytes value rest are_bytes =
    (reader.taken bytes value rest are_bytes, λ laid_out. ap read laid_out.1 ∙ reader.again value rest laid_out.0)

-- ---- steps

-- the first reading gave something, and the next one gives the value on it
pub record Binds {A B : Type 0} (first : Option A) (next : A → Option B) (value : B) : Type 0 where
  pub got : A
  pub got_is : first ≡ Some got
  pub next_is : next got ≡ Some value

pub bind_some : {A B : Type 0} (first : Option A) (next : A → Option B) (value : B) → (first >>= next) ≡ Some value
    → Binds first next value
bind_some (Some one) next value is = record { got = one; got_is = refl; next_is = is }
bind_some None next value is = absurd cc

-- ---- putting together

pub pair_reader : {A B : Type 0} (first_fits : A → Type 0) (first_layout : A → List ℕ) (read_first : List ℕ → Option (A × List ℕ))
    (second_fits : B → Type 0) (second_layout : B → List ℕ) (read_second : List ℕ → Option (B × List ℕ))
    → IsReader first_fits first_layout read_first → IsReader second_fits second_layout read_second
    → IsReader (λ (both : A × B). first_fits both.0 × second_fits both.1) (pair first_layout second_layout)
    (pair_at read_first read_second)
pair_reader {A = A} {B = B} first_fits first_layout read_first second_fits second_layout read_second first_reader second_reader = record {
  again = λ both rest fits.
      ap (pair_at read_first read_second) (append_assoc (first_layout both.0) (second_layout both.1) rest)
      ∙ rw (first_reader.again both.0 (second_layout both.1 ++ rest) fits.0, second_reader.again both.1 rest fits.1) refl;
  taken = λ bytes both rest are_bytes read.
      let one = bind_some (read_first bytes) (λ got. read_second got.1 >>= λ last. Some ((got.0, last.0), last.1)) (both, rest) read in
      let other = bind_some (read_second one.got.1) (λ last. Some ((one.got.0, last.0), last.1)) (both, rest) one.next_is in
      let first = one.got.0 in
      let left = one.got.1 in
      let second = other.got.0 in
      let after = other.got.1 in
      let one_taken = first_reader.taken bytes first left are_bytes one.got_is in
      let other_taken =
      second_reader.taken left second after (IsBytes-after bytes (first_layout first) left one_taken.1 are_bytes) other.got_is in
      let made : ((A × B) × List ℕ) = ((first, second), after) in
      let same : made ≡ (both, rest) = same_Some made (both, rest) other.next_is in
      let text : bytes ≡ (first_layout first ++ second_layout second) ++ after =
      one_taken.1
      ∙ (ap (λ (any : List ℕ). first_layout first ++ any) other_taken.1
      ∙ sym (append_assoc (first_layout first) (second_layout second) after)) in
      subst (λ (any : (A × B) × List ℕ). (first_fits any.0.0 × second_fits any.0.1)
      × (bytes ≡ (first_layout any.0.0 ++ second_layout any.0.1) ++ any.1)) same ((one_taken.0, other_taken.0), text);
}

-- the same values in another form
pub form_reader : {A B : Type 0} (fits : A → Type 0) (layout : A → List ℕ) (read : List ℕ → Option (A × List ℕ)) (to : A → B)
    (from : B → A) → ((one : A) → from (to one) ≡ one) → ((value : B) → to (from value) ≡ value)
    → IsReader fits layout read → IsReader (λ (value : B). fits (from value)) (λ (value : B). layout (from value)) (seen_as to read)
form_reader {A = A} {B = B} fits layout read to from back forth reader = record {
  again = λ value rest value_fits. rw (reader.again (from value) rest value_fits) (ap (λ (any : B). Some (any, rest)) (forth value));
  taken = λ bytes value rest are_bytes read_is.
      let one = bind_some (read bytes) (λ got. Some (to got.0, got.1)) (value, rest) read_is in
      let inner = one.got.0 in
      let after = one.got.1 in
      let one_taken = reader.taken bytes inner after are_bytes one.got_is in
      let made : (B × List ℕ) = (to inner, after) in
      let same : made ≡ (value, rest) = same_Some made (value, rest) one.next_is in
      let P : A → Type 0 = λ (any : A). fits any × (bytes ≡ layout any ++ after) in
      subst (λ (any : B × List ℕ). fits (from any.0) × (bytes ≡ layout (from any.0) ++ any.1)) same
      (subst P (sym (back inner)) one_taken);
}

-- those values of which a test holds
pub checked_reader : {A : Type 0} (fits : A → Type 0) (layout : A → List ℕ) (read : List ℕ → Option (A × List ℕ)) (test : A → Bool)
    → IsReader fits layout read → IsReader (λ (value : A). fits value × (test value ≡ true)) layout (with_test test read)
checked_reader {A = A} fits layout read test reader = record {
  again = λ value rest value_fits. rw (reader.again value rest value_fits.0, value_fits.1) refl;
  taken = λ bytes value rest are_bytes read_is.
      let one = bind_some (read bytes) (λ got. cond (test got.0) (Some got) None) (value, rest) read_is in
      let tested = cond_some (test one.got.0) one.got (value, rest) one.next_is in
      let one_taken = reader.taken bytes one.got.0 one.got.1 are_bytes one.got_is in
      subst (λ (any : A × List ℕ). (fits any.0 × (test any.0 ≡ true)) × (bytes ≡ layout any.0 ++ any.1)) tested.1
      ((one_taken.0, tested.0), one_taken.1);
}

optional-again : {A : Type 0} (fits : A → Type 0) (layout : A → List ℕ) (read : List ℕ → Option (A × List ℕ))
    → IsReader fits layout read → (option : Option A) (rest : List ℕ) → IfAny fits option
    → optional_at read (optional layout option ++ rest) ≡ Some (option, rest)
optional-again fits layout read reader None rest value_fits = refl
optional-again fits layout read reader (Some value) rest value_fits = rw (reader.again value rest value_fits) refl

optional-taken : {A : Type 0} (fits : A → Type 0) (layout : A → List ℕ) (read : List ℕ → Option (A × List ℕ))
    → IsReader fits layout read → (bytes : List ℕ) (option : Option A) (rest : List ℕ) → IsBytes bytes
    → optional_at read bytes ≡ Some (option, rest) → IfAny fits option × (bytes ≡ optional layout option ++ rest)
optional-taken fits layout read reader [] option rest are_bytes read_is = absurd cc
optional-taken {A = A} fits layout read reader (zero ∷ bytes) option rest are_bytes read_is =
    let made : (Option A × List ℕ) = (None, bytes) in
    subst (λ (any : Option A × List ℕ). IfAny fits any.0 × (0 ∷ bytes ≡ optional layout any.0 ++ any.1))
    (same_Some made (option, rest) read_is) (tt, refl)
optional-taken {A = A} fits layout read reader (suc zero ∷ bytes) option rest are_bytes read_is =
    let one = bind_some (read bytes) (λ got. Some (Some got.0, got.1)) (option, rest) read_is in
    let inner = one.got.0 in
    let after = one.got.1 in
    let one_taken = reader.taken bytes inner after (IsBytes-rest 1 bytes are_bytes) one.got_is in
    let made : (Option A × List ℕ) = (Some inner, after) in
    subst (λ (any : Option A × List ℕ). IfAny fits any.0 × (1 ∷ bytes ≡ optional layout any.0 ++ any.1))
    (same_Some made (option, rest) one.next_is) (one_taken.0, ap (λ (any : List ℕ). 1 ∷ any) one_taken.1)
optional-taken fits layout read reader (suc (suc more) ∷ bytes) option rest are_bytes read_is = absurd cc

pub optional_reader : {A : Type 0} (fits : A → Type 0) (layout : A → List ℕ) (read : List ℕ → Option (A × List ℕ))
    → IsReader fits layout read → IsReader (IfAny fits) (optional layout) (optional_at read)
optional_reader fits layout read reader =
    record { again = optional-again fits layout read reader; taken = optional-taken fits layout read reader }

times-again : {A : Type 0} (fits : A → Type 0) (layout : A → List ℕ) (read : List ℕ → Option (A × List ℕ)) → IsReader fits layout read
    → (values : List A) (rest : List ℕ) → AllByRecursion fits values
    → times_at read (length values) (flat_map layout values ++ rest) ≡ Some (values, rest)
times-again fits layout read reader [] rest values_fit = refl
times-again fits layout read reader (first ∷ values) rest values_fit =
    let regrouped : flat_map layout (first ∷ values) ++ rest ≡ layout first ++ (flat_map layout values ++ rest) =
    append_assoc (layout first) (flat_map layout values) rest in
    ap (times_at read (suc (length values))) regrouped
    ∙ rw (
      reader.again first (flat_map layout values ++ rest) values_fit.0,
      times-again fits layout read reader values rest values_fit.1,
    ) refl

times-taken : {A : Type 0} (fits : A → Type 0) (layout : A → List ℕ) (read : List ℕ → Option (A × List ℕ)) → IsReader fits layout read
    → (count : ℕ) (bytes : List ℕ) (values : List A) (rest : List ℕ) → IsBytes bytes → times_at read count bytes ≡ Some (values, rest)
    → AllByRecursion fits values × (length values ≡ count) × (bytes ≡ flat_map layout values ++ rest)
times-taken {A = A} fits layout read reader zero bytes values rest are_bytes read_is =
    let made : (List A × List ℕ) = ([], bytes) in
    subst (λ (any : List A × List ℕ). AllByRecursion fits any.0 × (length any.0 ≡ 0) × (bytes ≡ flat_map layout any.0 ++ any.1))
    (same_Some made (values, rest) read_is) (tt, refl, refl)
times-taken {A = A} fits layout read reader (suc count) bytes values rest are_bytes read_is =
    let one = bind_some (read bytes) (λ got. times_at read count got.1 >>= λ last. Some (got.0 ∷ last.0, last.1)) (values, rest) read_is in
    let others = bind_some (times_at read count one.got.1) (λ last. Some (one.got.0 ∷ last.0, last.1)) (values, rest) one.next_is in
    let first = one.got.0 in
    let left = one.got.1 in
    let more = others.got.0 in
    let after = others.got.1 in
    let one_taken = reader.taken bytes first left are_bytes one.got_is in
    let others_taken =
    times-taken fits layout read reader count left more after (IsBytes-after bytes (layout first) left one_taken.1 are_bytes)
    others.got_is in
    let made : (List A × List ℕ) = (first ∷ more, after) in
    let text : bytes ≡ (layout first ++ flat_map layout more) ++ after =
    one_taken.1
    ∙ (ap (λ (any : List ℕ). layout first ++ any) others_taken.2 ∙ sym (append_assoc (layout first) (flat_map layout more) after)) in
    subst (λ (any : List A × List ℕ). AllByRecursion fits any.0 × (length any.0 ≡ suc count)
    × (bytes ≡ flat_map layout any.0 ++ any.1)) (same_Some made (values, rest) others.next_is)
    ((one_taken.0, others_taken.0), ap suc others_taken.1, text)

pub items_reader : {A : Type 0} (fits : A → Type 0) (layout : A → List ℕ) (read : List ℕ → Option (A × List ℕ))
    (number_read : List ℕ → Option (ℕ × List ℕ)) → IsReader IsLong number number_read → IsReader fits layout read
    → IsReader (AreItems fits) (items layout) (λ bytes. number_read bytes >>= λ count. times_at read count.0 count.1)
items_reader {A = A} fits layout read number_read number_reader reader = record {
  again = λ values rest values_fit.
      let regrouped : (number (length values) ++ flat_map layout values) ++ rest ≡ number (length values)
      ++ (flat_map layout values ++ rest) =
      append_assoc (number (length values)) (flat_map layout values) rest in
      ap (λ (any : List ℕ). number_read any >>= λ count. times_at read count.0 count.1) regrouped
      ∙ rw (number_reader.again (length values) (flat_map layout values ++ rest) values_fit.0)
      (times-again fits layout read reader values rest values_fit.1);
  taken = λ bytes values rest are_bytes read_is.
      let count_read = bind_some (number_read bytes) (λ count. times_at read count.0 count.1) (values, rest) read_is in
      let count = count_read.got.0 in
      let left = count_read.got.1 in
      let count_taken = number_reader.taken bytes count left are_bytes count_read.got_is in
      let values_taken =
      times-taken fits layout read reader count left values rest (IsBytes-after bytes (number count) left count_taken.1 are_bytes)
      count_read.next_is in
      let short : length values < 2 ^ 64 = rw values_taken.1 count_taken.0 in
      let text : bytes ≡ (number count ++ flat_map layout values) ++ rest =
      count_taken.1
      ∙ (ap (λ (any : List ℕ). number count ++ any) values_taken.2
      ∙ sym (append_assoc (number count) (flat_map layout values) rest)) in
      ((short, values_taken.0), rw values_taken.1 text);
}

-- what takes all of the bytes
pub whole_again : {A : Type 0} (fits : A → Type 0) (layout : A → List ℕ) (read : List ℕ → Option (A × List ℕ))
    → IsReader fits layout read → (value : A) → fits value → whole read (layout value) ≡ Some value
whole_again fits layout read reader value value_fits =
    let one : read (layout value) ≡ Some (value, []) = ap read (sym (append-nil (layout value))) ∙ reader.again value [] value_fits in
    rw one refl

pub whole_taken : {A : Type 0} (fits : A → Type 0) (layout : A → List ℕ) (read : List ℕ → Option (A × List ℕ))
    → IsReader fits layout read → (bytes : List ℕ) (value : A) → IsBytes bytes → whole read bytes ≡ Some value
    → fits value × (bytes ≡ layout value)
whole_taken {A = A} fits layout read reader bytes value are_bytes read_is =
    let one = bind_some (read bytes) (λ got. cond (eqb (length got.1) 0) (Some got.0) None) value read_is in
    let inner = one.got.0 in
    let after = one.got.1 in
    let tested = cond_some (eqb (length after) 0) inner value one.next_is in
    let one_taken = reader.taken bytes inner after are_bytes one.got_is in
    let nothing_left : after ≡ [] = nil_from_length after (eqb-true _ _ tested.0) in
    let text : bytes ≡ layout inner = one_taken.1 ∙ (ap (λ (any : List ℕ). layout inner ++ any) nothing_left ∙ append-nil (layout inner)) in
    subst (λ (any : A). fits any × (bytes ≡ layout any)) tested.1 (one_taken.0, text)
