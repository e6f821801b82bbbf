-- A place is reached with one end, so bytes have one first fault.
use Rattle.std.proofs.Common.{◌≡◌, ℕ, ◌+◌, ◌≤◌, List, length, refl, sym, subst, ◌∙◌, arith, None, Err, inl, inr}
use Rattle.puffin_data.specs.declared.data.form.Form.{Form}
use Rattle.puffin_data.specs.declared.error.Error.{Error}
use Rattle.puffin_data.specs.Walk.Reading.{FoundScope, IsFaultIn}
use Rattle.puffin_data.specs.Walk.{region, IsFaultAt, Reaches, here, child, sibling, IsFirstFault}
use Rattle.puffin_data.proofs.Resuming.{found_places}
use Rattle.puffin_data.proofs.Regions.{between, one_sound, ok_is_not_err, Answer}

-- a place is reached again from itself with its own end only: children and siblings begin behind it
only_here : (form : Form) (bytes : List ℕ) (place end to to_end : ℕ) → place ≤ end → end ≤ length bytes
    → Reaches form bytes place end to to_end → to ≡ place → end ≡ to_end
only_here form bytes place end to to_end ordered bounded here same = refl
only_here form bytes place end to to_end ordered bounded (child {found = found} sound reach) same =
    let at = found_places form bytes place end found sound ordered bounded in
    let inside =
    between form bytes (place + found.child_begin) (place + found.child_end) to to_end (omega (arith, at)) (omega (arith, at))
    reach in
    absurd (omega (arith, at, inside))
only_here form bytes place end to to_end ordered bounded (sibling {found = found} sound reach) same =
    let at = found_places form bytes place end found sound ordered bounded in
    let inside = between form bytes (place + found.next_sibling) end to to_end (omega (arith, at)) bounded reach in
    absurd (omega (arith, at, inside))

-- Two ways to one place have one end: both go to the children, or both to the next sibling, since these lie apart.
pub one_end : (form : Form) (bytes : List ℕ) (place end to to_end other_end : ℕ) → place ≤ end → end ≤ length bytes
    → Reaches form bytes place end to to_end → Reaches form bytes place end to other_end → to_end ≡ other_end
one_end form bytes place end to to_end other_end ordered bounded here other_reach =
    only_here form bytes place end place other_end ordered bounded other_reach refl
one_end form bytes place end to to_end other_end ordered bounded (child {found = found} sound reach) here =
    let at = found_places form bytes place end found sound ordered bounded in
    let inside =
    between form bytes (place + found.child_begin) (place + found.child_end) to to_end (omega (arith, at)) (omega (arith, at))
    reach in
    absurd (omega (arith, at, inside))
one_end form bytes place end to to_end other_end ordered bounded (sibling {found = found} sound reach) here =
    let at = found_places form bytes place end found sound ordered bounded in
    let inside = between form bytes (place + found.next_sibling) end to to_end (omega (arith, at)) bounded reach in
    absurd (omega (arith, at, inside))
one_end form bytes place end to to_end other_end ordered bounded (child {found = found} sound reach)
    (child {found = other_found} other_sound other_reach) =
    let at = found_places form bytes place end found sound ordered bounded in
    one_end form bytes (place + found.child_begin) (place + found.child_end) to to_end other_end (omega (arith, at))
    (omega (arith, at)) reach (subst
    (λ (any : FoundScope). Reaches form bytes (place + any.child_begin) (place + any.child_end) to other_end)
    (one_sound form (region bytes place end) other_found found other_sound sound) other_reach)
one_end form bytes place end to to_end other_end ordered bounded (sibling {found = found} sound reach)
    (sibling {found = other_found} other_sound other_reach) =
    let at = found_places form bytes place end found sound ordered bounded in
    one_end form bytes (place + found.next_sibling) end to to_end other_end (omega (arith, at)) bounded reach
    (subst (λ (any : FoundScope). Reaches form bytes (place + any.next_sibling) end to other_end)
    (one_sound form (region bytes place end) other_found found other_sound sound) other_reach)
one_end form bytes place end to to_end other_end ordered bounded (child {found = found} sound reach)
    (sibling {found = other_found} other_sound other_reach) =
    let at = found_places form bytes place end found sound ordered bounded in
    let again =
    subst (λ (any : FoundScope). Reaches form bytes (place + any.next_sibling) end to other_end)
    (one_sound form (region bytes place end) other_found found other_sound sound) other_reach in
    let first =
    between form bytes (place + found.child_begin) (place + found.child_end) to to_end (omega (arith, at)) (omega (arith, at))
    reach in
    let second = between form bytes (place + found.next_sibling) end to other_end (omega (arith, at)) bounded again in
    absurd (omega (arith, at, first, second))
one_end form bytes place end to to_end other_end ordered bounded (sibling {found = found} sound reach)
    (child {found = other_found} other_sound other_reach) =
    let at = found_places form bytes place end found sound ordered bounded in
    let again =
    subst (λ (any : FoundScope). Reaches form bytes (place + any.child_begin) (place + any.child_end) to other_end)
    (one_sound form (region bytes place end) other_found found other_sound sound) other_reach in
    let first =
    between form bytes (place + found.child_begin) (place + found.child_end) to other_end (omega (arith, at)) (omega (arith, at))
    again in
    let second = between form bytes (place + found.next_sibling) end to to_end (omega (arith, at)) bounded reach in
    absurd (omega (arith, at, first, second))

err_is : (fault other : Error) → ◌≡◌ {A = Answer} (Err fault) (Err other) → fault ≡ other
err_is fault other same = cc

one_fault_in : (form : Form) (part : List ℕ) (fault other : Error) → IsFaultIn form part fault → IsFaultIn form part other → fault ≡ other
one_fault_in form part fault other (inl at) (inl other_at) = err_is fault other (sym at ∙ other_at)
one_fault_in form part fault other (inl at) (inr other_at) = absurd (ok_is_not_err None fault (sym other_at.1 ∙ at))
one_fault_in form part fault other (inr at) (inl other_at) = absurd (ok_is_not_err None other (sym at.1 ∙ other_at))
one_fault_in form part fault other (inr at) (inr other_at) = at.2 ∙ sym other_at.2

-- two first faults are each at a place that is no greater than the other's
pub one_fault : (form : Form) (bytes : List ℕ) (place other_place : ℕ) (fault other : Error) → IsFirstFault form bytes place fault
    → IsFirstFault form bytes other_place other → (place ≡ other_place) × (fault ≡ other)
one_fault form bytes place other_place fault other first second =
    let low = first.least other_place second.end other second.reached second.stands in
    let high = second.least place first.end fault first.reached first.stands in
    let same : other_place ≡ place = omega (arith, low, high) in
    let reached = subst (λ (any : ℕ). Reaches form bytes 0 (length bytes) any second.end) same second.reached in
    let end : second.end ≡ first.end =
    one_end form bytes 0 (length bytes) place second.end first.end (omega arith) (omega arith) reached first.reached in
    let stands : IsFaultAt form bytes place first.end other =
    subst (λ (any : ℕ). IsFaultAt form bytes place any other) end
    (subst (λ (any : ℕ). IsFaultAt form bytes any second.end other) same second.stands) in
    (sym same, one_fault_in form (region bytes place first.end) fault other first.stands stands)
