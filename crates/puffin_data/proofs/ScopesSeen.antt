-- Each region has one list of placed scopes, which lie in it in order.
use Rattle.std.proofs.Common.{◌≡◌, ℕ, zero, suc, ◌+◌, ◌-◌, ◌<◌, ◌≤◌, List, [], ◌∷◌, ◌++◌, length, refl, sym, ap, subst, ◌∙◌, arith, Some, None, Ok, Err, ltb, cond, Bool, true, false}
use Rattle.std.specs.Prelude.{nat_lt}
use Rattle.std.proofs.lemmas.List.Elements.{filter-append}
use Rattle.puffin_data.specs.declared.data.form.Form.{Form}
use Rattle.puffin_data.specs.Forest.{Span}
use Rattle.puffin_data.specs.Walk.Reading.{FoundScope, reading}
use Rattle.puffin_data.specs.Walk.{region}
use Rattle.puffin_data.specs.Walk.PlacedScopes.{PlacedScope, Sees, no_scope, one_scope, before}
use Rattle.puffin_data.proofs.Resuming.{found_places}
use Rattle.puffin_data.proofs.Regions.{one_sound, ok_is_not_err, none_is_not_some, Answer}

-- ---- each has a list: by induction over the region's length, since children and next sibling have shorter ones

-- each region that is shorter than `size` has one, whatever it is nested in
abbrev pub HasScopes : (form : Form) → List ℕ → ℕ → Type 0
HasScopes form bytes size =
    (around : List Span) (place end : ℕ) → end - place < size → place ≤ end → end ≤ length bytes
    → (placed : List PlacedScope) × Sees form bytes around place end placed

-- by what is read at the region's front
by_reading : (form : Form) (bytes : List ℕ) (size : ℕ) (around : List Span) (place end : ℕ) → HasScopes form bytes size
    → end - place < suc size → place ≤ end → end ≤ length bytes → (read : Answer) → reading form (region bytes place end) ≡ read
    → (placed : List PlacedScope) × Sees form bytes around place end placed
by_reading form bytes size around place end shorter smaller ordered bounded (Ok (Some found)) is =
    let at = found_places form bytes place end found is ordered bounded in
    let inner =
    shorter (around ++ (found.span ∷ [])) (place + found.child_begin) (place + found.child_end) (omega (arith, at))
    (omega (arith, at)) (omega (arith, at)) in
    let later = shorter around (place + found.next_sibling) end (omega (arith, at)) (omega (arith, at)) bounded in
    (record { place = place; scope = record { around = around; span = found.span } } ∷ (inner.0 ++ later.0), one_scope is inner.1 later.1)
by_reading form bytes size around place end shorter smaller ordered bounded (Ok None) is =
    ([], no_scope (λ found sound. none_is_not_some found (sym is ∙ sound)))
by_reading form bytes size around place end shorter smaller ordered bounded (Err fault) is =
    ([], no_scope (λ found sound. ok_is_not_err (Some found) fault (sym sound ∙ is)))

pub has_scopes : (form : Form) (bytes : List ℕ) (size : ℕ) → HasScopes form bytes size
has_scopes form bytes zero around place end smaller ordered bounded = absurd (omega arith)
has_scopes form bytes (suc size) around place end smaller ordered bounded =
    by_reading form bytes size around place end (has_scopes form bytes size) smaller ordered bounded
    (reading form (region bytes place end)) refl

-- the list of a region
pub placed_in : (form : Form) (bytes : List ℕ) (around : List Span) (place end : ℕ) → place ≤ end → end ≤ length bytes
    → (placed : List PlacedScope) × Sees form bytes around place end placed
placed_in form bytes around place end ordered bounded = has_scopes form bytes (suc end) around place end (omega arith) ordered bounded

-- ---- no region has two: what is read at a place is one thing, so both lists have the same first scope

both_parts : (scope : PlacedScope) (inner other_inner later other_later : List PlacedScope) → inner ≡ other_inner
    → later ≡ other_later → scope ∷ (inner ++ later) ≡ scope ∷ (other_inner ++ other_later)
both_parts scope inner other_inner later other_later same_inner same_later =
    ap (λ (any : List PlacedScope). scope ∷ (any ++ later)) same_inner
    ∙ ap (λ (any : List PlacedScope). scope ∷ (other_inner ++ any)) same_later

first_is : (place : ℕ) (around : List Span) (found other : FoundScope) (rest : List PlacedScope) → found ≡ other
    → record { place = place; scope = record { around = around; span = found.span } } ∷ rest
    ≡ record { place = place; scope = record { around = around; span = other.span } } ∷ rest
first_is place around found other rest same =
    ap (λ (any : FoundScope). record { place = place; scope = record { around = around; span = any.span } } ∷ rest) same

pub one_list_of_scopes : (form : Form) (bytes : List ℕ) (around : List Span) (place end : ℕ) (placed others : List PlacedScope)
    → Sees form bytes around place end placed → Sees form bytes around place end others → placed ≡ others
one_list_of_scopes form bytes around place end placed others (no_scope none) (no_scope no_other) = refl
one_list_of_scopes form bytes around place end placed others (no_scope none)
    (one_scope {found = other_found} other_sound of_other_inner of_other_later) =
    absurd (none other_found other_sound)
one_list_of_scopes form bytes around place end placed others (one_scope {found = found} sound of_inner of_later) (no_scope none) =
    absurd (none found sound)
one_list_of_scopes form bytes around place end placed others
    (one_scope {found = found} {inner = inner} {later = later} sound of_inner of_later)
    (one_scope {found = other_found} {inner = other_inner} {later = other_later} other_sound of_other_inner of_other_later) =
    let same : other_found ≡ found = one_sound form (region bytes place end) other_found found other_sound sound in
    let same_inner : inner ≡ other_inner =
    one_list_of_scopes form bytes (around ++ (found.span ∷ [])) (place + found.child_begin) (place + found.child_end) inner
    other_inner of_inner (subst (λ (any : FoundScope).
    Sees form bytes (around ++ (any.span ∷ [])) (place + any.child_begin) (place + any.child_end) other_inner) same
    of_other_inner) in
    let same_later : later ≡ other_later =
    one_list_of_scopes form bytes around (place + found.next_sibling) end later other_later of_later
    (subst (λ (any : FoundScope). Sees form bytes around (place + any.next_sibling) end other_later) same of_other_later) in
    both_parts _ inner other_inner later other_later same_inner same_later
    ∙ first_is place around found other_found (other_inner ++ other_later) (sym same)

-- ---- those before a place

lt_test : (a b : ℕ) → a < b → ltb a b ≡ true
lt_test a b ordered = grind arith

le_test : (a b : ℕ) → b ≤ a → ltb a b ≡ false
le_test a b ordered = grind arith

kept : (test : Bool) (scope : PlacedScope) (rest : List PlacedScope) → test ≡ true → cond test (scope ∷ rest) rest ≡ scope ∷ rest
kept test scope rest is = ap (λ (any : Bool). cond any (scope ∷ rest) rest) is

dropped : (test : Bool) (scope : PlacedScope) (rest : List PlacedScope) → test ≡ false → cond test (scope ∷ rest) rest ≡ rest
dropped test scope rest is = ap (λ (any : Bool). cond any (scope ∷ rest) rest) is

-- a scope before the place, with those in it and those after it
pub before-first : (place : ℕ) (scope : PlacedScope) (inner later : List PlacedScope) → scope.place < place
    → before place (scope ∷ (inner ++ later)) ≡ scope ∷ (before place inner ++ before place later)
before-first place scope inner later earlier =
    kept (nat_lt scope.place place) scope (before place (inner ++ later)) (lt_test scope.place place earlier)
    ∙ ap (λ (any : List PlacedScope). scope ∷ any) (filter-append (λ (one : PlacedScope). nat_lt one.place place) inner later)

-- the same if the scope isn't before the place
before-not_first : (place : ℕ) (scope : PlacedScope) (inner later : List PlacedScope) → place ≤ scope.place
    → before place (scope ∷ (inner ++ later)) ≡ before place inner ++ before place later
before-not_first place scope inner later later_place =
    dropped (nat_lt scope.place place) scope (before place (inner ++ later)) (le_test scope.place place later_place)
    ∙ filter-append (λ (one : PlacedScope). nat_lt one.place place) inner later

both_equal : (inner other_inner later other_later : List PlacedScope) → inner ≡ other_inner → later ≡ other_later
    → inner ++ later ≡ other_inner ++ other_later
both_equal inner other_inner later other_later same_inner same_later =
    ap (λ (any : List PlacedScope). any ++ later) same_inner ∙ ap (λ (any : List PlacedScope). other_inner ++ any) same_later

-- The placed scopes of a region lie in it: all of them are before a place behind it, and none is before a place in front of it.
pub all_before : (form : Form) (bytes : List ℕ) (around : List Span) (begin end place : ℕ) (placed : List PlacedScope) → begin ≤ end
    → end ≤ length bytes → end ≤ place → Sees form bytes around begin end placed → before place placed ≡ placed
all_before form bytes around begin end place placed ordered bounded apart (no_scope none) = refl
all_before form bytes around begin end place placed ordered bounded apart
    (one_scope {found = found} {inner = inner} {later = later} sound of_inner of_later) =
    let at = found_places form bytes begin end found sound ordered bounded in
    let inner_is =
    all_before form bytes (around ++ (found.span ∷ [])) (begin + found.child_begin) (begin + found.child_end) place inner
    (omega (arith, at)) (omega (arith, at)) (omega (arith, at)) of_inner in
    let later_is = all_before form bytes around (begin + found.next_sibling) end place later (omega (arith, at)) bounded apart of_later in
    let first : PlacedScope = record { place = begin; scope = record { around = around; span = found.span } } in
    before-first place first inner later (omega (arith, at))
    ∙ ap (λ (any : List PlacedScope). first ∷ any)
    (both_equal (before place inner) inner (before place later) later inner_is later_is)

pub none_before : (form : Form) (bytes : List ℕ) (around : List Span) (begin end place : ℕ) (placed : List PlacedScope) → begin ≤ end
    → end ≤ length bytes → place ≤ begin → Sees form bytes around begin end placed → before place placed ≡ []
none_before form bytes around begin end place placed ordered bounded apart (no_scope none) = refl
none_before form bytes around begin end place placed ordered bounded apart
    (one_scope {found = found} {inner = inner} {later = later} sound of_inner of_later) =
    let at = found_places form bytes begin end found sound ordered bounded in
    let inner_is =
    none_before form bytes (around ++ (found.span ∷ [])) (begin + found.child_begin) (begin + found.child_end) place inner
    (omega (arith, at)) (omega (arith, at)) (omega (arith, at)) of_inner in
    let later_is =
    none_before form bytes around (begin + found.next_sibling) end place later (omega (arith, at)) bounded (omega (arith, at))
    of_later in
    let first : PlacedScope = record { place = begin; scope = record { around = around; span = found.span } } in
    before-not_first place first inner later apart ∙ both_equal (before place inner) [] (before place later) [] inner_is later_is
