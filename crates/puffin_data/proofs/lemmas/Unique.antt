-- The spelling of a forest is read as that forest and no other, and no fault is met in it.
use Rattle.std.proofs.Common.{◌≡◌, ℕ, ◌+◌, ◌-◌, ◌<◌, ◌≤◌, ◌^◌, List, ◌++◌, length, take, drop, refl, sym, ap, subst, ◌∙◌, arith, append_assoc}
use Rattle.std.proofs.lemmas.List.{length-append, take_at, drop_at, drop-drop}
use Rattle.byteorder.specs.Endian.{little_bytes}
use Rattle.puffin_data.proofs.lemmas.Lengths.{layout_size}
use Rattle.puffin_data.specs.Text.Lengths.{length_layout}
use Rattle.puffin_data.specs.declared.data.form.Form.{Form}
use Rattle.puffin_data.specs.declared.error.Error.{Error}
use Rattle.puffin_data.specs.Forest.{Span, Forest, empty, node, append, IsSpan, IsForest}
use Rattle.puffin_data.specs.Forest.Spelling.{spelling, begin_bytes, end_bytes, head_size}
use Rattle.puffin_data.specs.Walk.Reading.{FoundScope, reading}
use Rattle.puffin_data.specs.Walk.{region, IsSoundAt, IsFaultAt, Reaches, here, child, sibling}
use Rattle.puffin_data.proofs.Again.{found_at, reads_again}
use Rattle.puffin_data.proofs.Regions.{length-region, part_of_region, rest_of_region, sound_is_no_fault, nothing_is_no_fault, nothing_is_not_sound, one_sound}
use Rattle.puffin_data.proofs.FoundScope.{Places}
use Rattle.puffin_data.proofs.Resuming.{found_places}

-- the spelling of two forests one after the other
pub spelling-append : (form : Form) (first second : Forest)
    → spelling form (append first second) ≡ spelling form first ++ spelling form second
spelling-append form empty second = refl
spelling-append form (node span children others) second =
    ap (λ (any : List ℕ). begin_bytes form span.id span.start span.text (length (spelling form children))
    ++ (spelling form children ++ (end_bytes span.stop ++ any))) (spelling-append form others second)
    ∙ simp append_assoc

-- the sizes of a scope's beginning and end
length-begin : (form : Form) (span : Span) (size : ℕ)
    → length (begin_bytes form span.id span.start span.text size) ≡ head_size form span.text
unfolding begin_bytes
length-begin form span size =
    omega (
      arith,
      length-append (length_layout form (length span.text)) span.text,
      length-append (length_layout form (length span.text) ++ span.text) (little_bytes 8 size),
    )

length-end : (span : Span) → length (end_bytes span.stop) ≡ 9
unfolding end_bytes
length-end span = refl

-- the parts of a scope's bytes
begin_at : (form : Form) (span : Span) (inner more : List ℕ)
    → drop (head_size form span.text)
    (begin_bytes form span.id span.start span.text (length inner) ++ (inner ++ (end_bytes span.stop ++ more))) ≡ inner
    ++ (end_bytes span.stop ++ more)
begin_at form span inner more =
    drop_at (begin_bytes form span.id span.start span.text (length inner)) _ (head_size form span.text)
    (length-begin form span (length inner))

pub children_at : (form : Form) (span : Span) (inner more : List ℕ)
    → take (length inner) (drop (head_size form span.text)
    (begin_bytes form span.id span.start span.text (length inner) ++ (inner ++ (end_bytes span.stop ++ more)))) ≡ inner
children_at form span inner more = ap (take (length inner)) (begin_at form span inner more) ∙ take_at inner _ (length inner) refl

pub rest_at : (form : Form) (span : Span) (inner more : List ℕ)
    → drop (head_size form span.text + length inner + 9)
    (begin_bytes form span.id span.start span.text (length inner) ++ (inner ++ (end_bytes span.stop ++ more))) ≡ more
rest_at form span inner more =
    let all = begin_bytes form span.id span.start span.text (length inner) ++ (inner ++ (end_bytes span.stop ++ more)) in
    let sum : head_size form span.text + length inner + 9 ≡ (head_size form span.text) + (length inner + 9) = omega arith in
    ap (λ (any : ℕ). drop any all) sum
    ∙ sym (drop-drop (length inner + 9) (head_size form span.text) all)
    ∙ ap (drop (length inner + 9)) (begin_at form span inner more)
    ∙ sym (drop-drop 9 (length inner) (inner ++ (end_bytes span.stop ++ more)))
    ∙ ap (drop 9) (drop_at inner _ (length inner) refl)
    ∙ drop_at (end_bytes span.stop) more 9 (length-end span)

-- a scope's bytes are more than those of its parts
pub long : (form : Form) (span : Span) (inner more : List ℕ)
    → length inner + length more + 31
    ≤ length (begin_bytes form span.id span.start span.text (length inner) ++ (inner ++ (end_bytes span.stop ++ more)))
long form span inner more =
    omega (
      arith,
      length-append (begin_bytes form span.id span.start span.text (length inner))
          (inner ++ (end_bytes span.stop ++ more)),
      length-append inner (end_bytes span.stop ++ more),
      length-append (end_bytes span.stop) more,
      length-begin form span (length inner),
      length-end span,
      (layout_size form (length span.text)).least,
    )

-- a region that spells a forest has the forest's first scope at its front, and spells the children and the others where these begin
pub record Parts (form : Form) (found : FoundScope) (children others : Forest) (bytes : List ℕ) (begin end : ℕ) : Type 0 where
  pub reads : IsSoundAt form bytes begin end found
  pub places : Places (end - begin) found
  pub inner : region bytes (begin + found.child_begin) (begin + found.child_end) ≡ spelling form children
  pub later : region bytes (begin + found.next_sibling) end ≡ spelling form others

pub parts_of : (form : Form) (span : Span) (children others : Forest) (bytes : List ℕ) (begin end : ℕ) → IsSpan form span
    → begin ≤ end → end ≤ length bytes → length bytes < 2 ^ 64 → region bytes begin end ≡ spelling form (node span children others)
    → Parts form (found_at form span (length (spelling form children))) children others bytes begin end
parts_of form span children others bytes begin end fits ordered bounded small is =
    let inner = spelling form children in
    let later = spelling form others in
    let found = found_at form span (length inner) in
    let short : length inner < 2 ^ 64 - 1 =
    omega (arith, long form span inner later, ap length is, length-region bytes begin end bounded) in
    let reads = ap (reading form) is ∙ reads_again form span inner later fits short in
    let places = found_places form bytes begin end found reads ordered bounded in
    let size : found.child_end - found.child_begin ≡ length inner = omega arith in
    record {
      reads = reads;
      places = places;
      inner =
          part_of_region bytes begin end found.child_begin found.child_end places.inside (omega (arith, places))
          ∙ ap (λ (any : ℕ). take any (drop found.child_begin (region bytes begin end))) size
          ∙ ap (λ (any : List ℕ). take (length inner) (drop found.child_begin any)) is
          ∙ children_at form span inner later;
      later =
          rest_of_region bytes begin end found.next_sibling (omega (arith, places))
          ∙ ap (drop found.next_sibling) is
          ∙ rest_at form span inner later;
    }

-- No fault is met in a spelling: by induction over the forest, since its first scope is read again and the way goes on from there.
pub faultless : (form : Form) (forest : Forest) (bytes : List ℕ) (begin end to to_end : ℕ) (fault : Error) → IsForest form forest
    → begin ≤ end → end ≤ length bytes → length bytes < 2 ^ 64 → region bytes begin end ≡ spelling form forest
    → Reaches form bytes begin end to to_end → IsFaultAt form bytes to to_end fault → ⊥
faultless form empty bytes begin end to to_end fault fits ordered bounded small is here at =
    nothing_is_no_fault form (region bytes begin end) fault is at
faultless form empty bytes begin end to to_end fault fits ordered bounded small is (child {found = other_found} sound reach) at =
    nothing_is_not_sound form (region bytes begin end) other_found is sound
faultless form empty bytes begin end to to_end fault fits ordered bounded small is (sibling {found = other_found} sound reach) at =
    nothing_is_not_sound form (region bytes begin end) other_found is sound
faultless form (node span children others) bytes begin end to to_end fault fits ordered bounded small is here at =
    let parts = parts_of form span children others bytes begin end fits.0 ordered bounded small is in
    sound_is_no_fault form (region bytes begin end) (found_at form span (length (spelling form children))) fault parts.reads at
faultless form (node span children others) bytes begin end to to_end fault fits ordered bounded small is
    (child {found = other_found} sound reach) at =
    let parts = parts_of form span children others bytes begin end fits.0 ordered bounded small is in
    let found = found_at form span (length (spelling form children)) in
    let places = parts.places in
    faultless form children bytes (begin + found.child_begin) (begin + found.child_end) to to_end fault fits.1 (omega arith)
    (omega (arith, places)) small parts.inner
    (subst (λ (any : FoundScope). Reaches form bytes (begin + any.child_begin) (begin + any.child_end) to to_end)
    (one_sound form (region bytes begin end) other_found found sound parts.reads) reach) at
faultless form (node span children others) bytes begin end to to_end fault fits ordered bounded small is
    (sibling {found = other_found} sound reach) at =
    let parts = parts_of form span children others bytes begin end fits.0 ordered bounded small is in
    let found = found_at form span (length (spelling form children)) in
    let places = parts.places in
    faultless form others bytes (begin + found.next_sibling) end to to_end fault fits.2 (omega (arith, places)) bounded small
    parts.later
    (subst (λ (any : FoundScope). Reaches form bytes (begin + any.next_sibling) end to to_end)
    (one_sound form (region bytes begin end) other_found found sound parts.reads) reach) at

same_node : (span other_span : Span) (children other_children others other_others : Forest) → span ≡ other_span
    → children ≡ other_children → others ≡ other_others → node span children others ≡ node other_span other_children other_others
same_node span other_span children other_children others other_others same_span same_children same_others = cc

-- Two forests with one spelling are one: the first scope is read again, so both have it, and then the rest is equal too.
pub same_forest : (form : Form) (forest other : Forest) → IsForest form forest → IsForest form other
    → length (spelling form forest) < 2 ^ 64 → spelling form forest ≡ spelling form other → forest ≡ other
same_forest form empty empty fits other_fits small same = refl
same_forest form empty (node other_span other_children other_others) fits other_fits small same =
    absurd (omega (arith, long form other_span (spelling form other_children) (spelling form other_others), ap length same))
same_forest form (node span children others) empty fits other_fits small same =
    absurd (omega (arith, long form span (spelling form children) (spelling form others), ap length same))
same_forest form (node span children others) (node other_span other_children other_others) fits other_fits small same =
    let size = long form span (spelling form children) (spelling form others) in
    let other_size = long form other_span (spelling form other_children) (spelling form other_others) in
    let read = reads_again form span (spelling form children) (spelling form others) fits.0 (omega (arith, size)) in
    let other_read =
    ap (reading form) same
    ∙ reads_again form other_span (spelling form other_children) (spelling form other_others) other_fits.0
    (omega (arith, other_size, ap length same)) in
    let same_found : found_at form span (length (spelling form children))
    ≡ found_at form other_span (length (spelling form other_children)) =
    one_sound form (spelling form (node span children others)) _ _ read other_read in
    let same_span : span ≡ other_span = ap (λ (any : FoundScope). any.span) same_found in
    let same_begin : head_size form span.text ≡ head_size form other_span.text = ap (λ (any : FoundScope). any.child_begin) same_found in
    let same_end : head_size form span.text + length (spelling form children)
    ≡ head_size form other_span.text + length (spelling form other_children) =
    ap (λ (any : FoundScope). any.child_end) same_found in
    let same_size : length (spelling form children) ≡ length (spelling form other_children) = omega (arith, same_begin, same_end) in
    let same_children : spelling form children ≡ spelling form other_children =
    sym (children_at form span (spelling form children) (spelling form others))
    ∙ ap (λ (any : ℕ). take any (drop (head_size form span.text) (spelling form (node span children others)))) same_size
    ∙ ap (λ (any : ℕ). take (length (spelling form other_children)) (drop any (spelling form (node span children others)))) same_begin
    ∙ ap (λ (any : List ℕ). take (length (spelling form other_children)) (drop (head_size form other_span.text) any)) same
    ∙ children_at form other_span (spelling form other_children) (spelling form other_others) in
    let same_others : spelling form others ≡ spelling form other_others =
    sym (rest_at form span (spelling form children) (spelling form others))
    ∙ ap (λ (any : ℕ). drop (any + 9) (spelling form (node span children others))) same_end
    ∙ ap (drop (head_size form other_span.text + length (spelling form other_children) + 9)) same
    ∙ rest_at form other_span (spelling form other_children) (spelling form other_others) in
    same_node span other_span children other_children others other_others same_span
    (same_forest form children other_children fits.1 other_fits.1 (omega (arith, size)) same_children)
    (same_forest form others other_others fits.2 other_fits.2 (omega (arith, size)) same_others)
