-- In the spelling of a forest a walk meets its scopes, in their order.
use Rattle.std.proofs.Common.{◌≡◌, ℕ, ◌+◌, ◌≤◌, ◌<◌, ◌^◌, List, [], ◌∷◌, ◌++◌, length, refl, ap, subst, ◌∙◌, arith}
use Rattle.puffin_data.specs.declared.data.form.Form.{Form}
use Rattle.puffin_data.specs.Forest.{Span, Forest, empty, node, IsForest}
use Rattle.puffin_data.specs.Forest.Spelling.{spelling, Spells}
use Rattle.puffin_data.specs.Walk.Reading.{FoundScope}
use Rattle.puffin_data.specs.Walk.{region}
use Rattle.puffin_data.specs.Walk.PlacedScopes.{ScopeInContext, nested_in, PlacedScope, Sees, no_scope, one_scope, scopes_of}
use Rattle.puffin_data.proofs.Again.{found_at}
use Rattle.puffin_data.proofs.Regions.{whole_region, nothing_is_not_sound, one_sound}
use Rattle.puffin_data.proofs.lemmas.Unique.{parts_of}
use Rattle.puffin_data.proofs.WalkedOver.{same_scopes}

-- by induction over the forest: its first scope is read again, so it is the first that is seen
placed_of : (form : Form) (forest : Forest) (bytes : List ℕ) (around : List Span) (begin end : ℕ) (placed : List PlacedScope)
    → IsForest form forest → begin ≤ end → end ≤ length bytes → length bytes < 2 ^ 64 → region bytes begin end ≡ spelling form forest
    → Sees form bytes around begin end placed → scopes_of placed ≡ nested_in around forest
placed_of form empty bytes around begin end placed fits ordered bounded small is (no_scope none) = refl
placed_of form empty bytes around begin end placed fits ordered bounded small is
    (one_scope {found = found} sound sees_inner sees_later) =
    absurd (nothing_is_not_sound form (region bytes begin end) found is sound)
placed_of form (node span children others) bytes around begin end placed fits ordered bounded small is (no_scope none) =
    let parts = parts_of form span children others bytes begin end fits.0 ordered bounded small is in
    absurd (none (found_at form span (length (spelling form children))) parts.reads)
placed_of form (node span children others) bytes around begin end placed fits ordered bounded small is
    (one_scope {found = found} {inner = inner_placed} {later = later_placed} sound sees_inner sees_later) =
    let parts = parts_of form span children others bytes begin end fits.0 ordered bounded small is in
    let places = parts.places in
    let spelled = found_at form span (length (spelling form children)) in
    let same : found ≡ spelled = one_sound form (region bytes begin end) found spelled sound parts.reads in
    let of_inner =
    placed_of form children bytes (around ++ (span ∷ [])) (begin + spelled.child_begin) (begin + spelled.child_end) inner_placed
    fits.1 (omega arith) (omega (arith, places)) small parts.inner
    (subst (λ (any : FoundScope). Sees form bytes (around ++ (any.span ∷ [])) (begin + any.child_begin) (begin + any.child_end)
    inner_placed) same sees_inner) in
    let of_later =
    placed_of form others bytes around (begin + spelled.next_sibling) end later_placed fits.2 (omega (arith, places)) bounded
    small parts.later
    (subst (λ (any : FoundScope). Sees form bytes around (begin + any.next_sibling) end later_placed) same sees_later) in
    same_scopes (record { place = begin; scope = record { around = around; span = found.span } }) inner_placed later_placed _ _
    of_inner of_later
    ∙ ap (λ (any : FoundScope). let first : ScopeInContext = record { around = around; span = any.span } in first
    ∷ (nested_in (around ++ (span ∷ [])) children ++ nested_in around others)) same

pub scopes_of_spelling : (form : Form) (bytes : List ℕ) (forest : Forest) (placed : List PlacedScope) → length bytes < 2 ^ 64
    → Spells form bytes forest → Sees form bytes [] 0 (length bytes) placed → scopes_of placed ≡ nested_in [] forest
scopes_of_spelling form bytes forest placed small spelled sees =
    placed_of form forest bytes [] 0 (length bytes) placed spelled.fits (omega arith) (omega arith) small
    (whole_region bytes ∙ spelled.whole) sees
