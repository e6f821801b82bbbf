-- Each region has one list of the places of its sound scopes, and these places rise strictly.
use Rattle.std.proofs.Common.{◌≡◌, ℕ, zero, suc, ◌+◌, ◌-◌, ◌<◌, ◌≤◌, List, [], ◌∷◌, ◌++◌, length, get_or, refl, sym, ap, subst, ◌∙◌, arith, Some, None, Ok, Err}
use Rattle.std.specs.List.Sorted.{IsStrictlyIncreasing}
use Rattle.puffin_data.specs.declared.data.form.Form.{Form}
use Rattle.puffin_data.specs.Walk.Reading.{FoundScope, reading}
use Rattle.puffin_data.specs.Walk.{region, Sounds, no_more, one_more}
use Rattle.puffin_data.proofs.Resuming.{found_places}
use Rattle.puffin_data.proofs.Regions.{one_sound, ok_is_not_err, none_is_not_some, Answer}

-- ---- each has a list: by induction over the region's length, since children and next sibling have shorter ones

-- each region that is shorter than `size` has one
abbrev pub HasSounds : (form : Form) → List ℕ → ℕ → Type 0
HasSounds form bytes size =
    (place end : ℕ) → end - place < size → place ≤ end → end ≤ length bytes → (places : List ℕ) × Sounds form bytes place end places

-- by what is read at the region's front
by_reading : (form : Form) (bytes : List ℕ) (size place end : ℕ) → HasSounds form bytes size → end - place < suc size → place ≤ end
    → end ≤ length bytes → (read : Answer) → reading form (region bytes place end) ≡ read
    → (places : List ℕ) × Sounds form bytes place end places
by_reading form bytes size place end shorter smaller ordered bounded (Ok (Some found)) is =
    let at = found_places form bytes place end found is ordered bounded in
    let inner = shorter (place + found.child_begin) (place + found.child_end) (omega (arith, at)) (omega (arith, at)) (omega (arith, at)) in
    let later = shorter (place + found.next_sibling) end (omega (arith, at)) (omega (arith, at)) bounded in
    (place ∷ (inner.0 ++ later.0), one_more is inner.1 later.1)
by_reading form bytes size place end shorter smaller ordered bounded (Ok None) is =
    ([], no_more (λ found sound. none_is_not_some found (sym is ∙ sound)))
by_reading form bytes size place end shorter smaller ordered bounded (Err fault) is =
    ([], no_more (λ found sound. ok_is_not_err (Some found) fault (sym sound ∙ is)))

pub has_sounds : (form : Form) (bytes : List ℕ) (size : ℕ) → HasSounds form bytes size
has_sounds form bytes zero place end smaller ordered bounded = absurd (omega arith)
has_sounds form bytes (suc size) place end smaller ordered bounded =
    by_reading form bytes size place end (has_sounds form bytes size) smaller ordered bounded (reading form (region bytes place end))
    refl

-- the list of all bytes
pub all_sounds : (form : Form) (bytes : List ℕ) → (places : List ℕ) × Sounds form bytes 0 (length bytes) places
all_sounds form bytes = has_sounds form bytes (suc (length bytes)) 0 (length bytes) (omega arith) (omega arith) (omega arith)

-- ---- no region has two: what is read at a place is one thing, so both lists have the same first scope

both_parts : (place : ℕ) (inner other_inner later other_later : List ℕ) → inner ≡ other_inner → later ≡ other_later
    → place ∷ (inner ++ later) ≡ place ∷ (other_inner ++ other_later)
both_parts place inner other_inner later other_later same_inner same_later =
    ap (λ (any : List ℕ). place ∷ (any ++ later)) same_inner ∙ ap (λ (any : List ℕ). place ∷ (other_inner ++ any)) same_later

pub one_list : (form : Form) (bytes : List ℕ) (place end : ℕ) (places others : List ℕ) → Sounds form bytes place end places
    → Sounds form bytes place end others → places ≡ others
one_list form bytes place end places others (no_more none) (no_more no_other) = refl
one_list form bytes place end places others (no_more none)
    (one_more {found = other_found} other_sound of_other_inner of_other_later) =
    absurd (none other_found other_sound)
one_list form bytes place end places others (one_more {found = found} sound of_inner of_later) (no_more none) = absurd (none found sound)
one_list form bytes place end places others (one_more {found = found} {inner = inner} {later = later} sound of_inner of_later)
    (one_more {found = other_found} {inner = other_inner} {later = other_later} other_sound of_other_inner of_other_later) =
    let same : other_found ≡ found = one_sound form (region bytes place end) other_found found other_sound sound in
    let same_inner : inner ≡ other_inner =
    one_list form bytes (place + found.child_begin) (place + found.child_end) inner other_inner of_inner
    (subst (λ (any : FoundScope). Sounds form bytes (place + any.child_begin) (place + any.child_end) other_inner) same
    of_other_inner) in
    let same_later : later ≡ other_later =
    one_list form bytes (place + found.next_sibling) end later other_later of_later
    (subst (λ (any : FoundScope). Sounds form bytes (place + any.next_sibling) end other_later) same of_other_later) in
    both_parts place inner other_inner later other_later same_inner same_later

-- ---- the places rise

-- the numbers rise strictly, from low on and below high
abbrev Rises : ℕ → ℕ → List ℕ → Type 0
Rises low high [] = Unit {0}
Rises low high (first ∷ others) = (low ≤ first) × (first < high) × Rises (suc first) high others

-- what rises from a later place on rises from an earlier one on
rises_from : (low from high : ℕ) (others : List ℕ) → low ≤ from → Rises from high others → Rises low high others
rises_from low from high [] ordered rise = tt
rises_from low from high (first ∷ others) ordered rise = (omega (arith, rise.0), rise.1, rise.2)

-- two rising lists, the second behind the first, rise when joined
rises_joined : (low end place high : ℕ) (inner later : List ℕ) → low ≤ place → end ≤ place → place ≤ high → Rises low end inner
    → Rises place high later → Rises low high (inner ++ later)
rises_joined low end place high [] later apart ordered within inner_rise later_rise = rises_from low place high later apart later_rise
rises_joined low end place high (first ∷ inner) later apart ordered within inner_rise later_rise = (
  inner_rise.0,
  omega (arith, inner_rise.1),
  rises_joined (suc first) end place high inner later (omega (arith, inner_rise.1)) ordered within inner_rise.2 later_rise,
)

pub places_rise : (form : Form) (bytes : List ℕ) (place end : ℕ) (places : List ℕ) → place ≤ end → end ≤ length bytes
    → Sounds form bytes place end places → Rises place end places
places_rise form bytes place end places ordered bounded (no_more none) = tt
places_rise form bytes place end places ordered bounded (one_more {found = found} {inner = inner} {later = later} sound of_inner of_later) =
    let at = found_places form bytes place end found sound ordered bounded in
    let inner_rise =
    places_rise form bytes (place + found.child_begin) (place + found.child_end) inner (omega (arith, at)) (omega (arith, at))
    of_inner in
    let later_rise = places_rise form bytes (place + found.next_sibling) end later (omega (arith, at)) bounded of_later in
    let inside = rises_from (suc place) (place + found.child_begin) (place + found.child_end) inner (omega (arith, at)) inner_rise in (
      omega arith,
      omega (arith, at),
      rises_joined (suc place) (place + found.child_end) (place + found.next_sibling) end inner later (omega (arith, at))
          (omega (arith, at)) (omega (arith, at)) inside later_rise,
    )

increasing : (low high : ℕ) (others : List ℕ) → Rises low high others → IsStrictlyIncreasing others
increasing low high [] rise index within = absurd (omega arith)
increasing low high (first ∷ []) rise index within = absurd (omega arith)
increasing low high (first ∷ second ∷ others) rise zero within = omega (arith, rise.2.0)
increasing low high (first ∷ second ∷ others) rise (suc index) within =
    let same : suc (index + 1) ≡ suc index + 1 = omega arith in
    subst (λ (any : ℕ). get_or (second ∷ others) index 0 < get_or (first ∷ second ∷ others) any 0) same
    (increasing (suc first) high (second ∷ others) rise.2 index (omega arith))

pub sounds_increase : (form : Form) (bytes places : List ℕ) → Sounds form bytes 0 (length bytes) places → IsStrictlyIncreasing places
sounds_increase form bytes places sounds =
    increasing 0 (length bytes) places (places_rise form bytes 0 (length bytes) places (omega arith) (omega arith) sounds)
