-- Regions within regions, and what is reached in them.
use Rattle.std.proofs.Common.{◌≡◌, ℕ, ◌+◌, ◌-◌, ◌≤◌, List, [], length, take, drop, refl, sym, ap, ◌∙◌, arith, Option, Some, None, Result, Ok, Err, inl, inr}
use Rattle.std.proofs.lemmas.List.{length-take, length-drop, take-take, drop-take, drop-drop, take_all}
use Rattle.puffin_data.specs.declared.data.form.Form.{Form}
use Rattle.puffin_data.specs.declared.error.Error.{Error}
use Rattle.puffin_data.specs.Walk.Reading.{FoundScope, reading, IsFaultIn}
use Rattle.puffin_data.specs.Walk.{region, Reaches, here, child, sibling}
use Rattle.puffin_data.proofs.Resuming.{found_places}

pub length-region : (bytes : List ℕ) (place end : ℕ) → end ≤ length bytes → length (region bytes place end) ≡ end - place
length-region bytes place end bounded = simp (length-take, length-drop) (omega arith)

-- the front of what is left of a region
take_within : (from count size : ℕ) (xs : List ℕ) → from + count ≤ size → take count (drop from (take size xs)) ≡ take count (drop from xs)
take_within from count size xs fits =
    let n-is : size ≡ from + (size - from) = omega arith in
    ap (λ (any : ℕ). take count (drop from (take any xs))) n-is
    ∙ ap (take count) (drop-take from (size - from) xs)
    ∙ take-take count (size - from) (drop from xs) (omega arith)

-- a region within a region, and the rest of one
pub part_of_region : (bytes : List ℕ) (place end from to : ℕ) → from ≤ to → place + to ≤ end
    → region bytes (place + from) (place + to) ≡ take (to - from) (drop from (region bytes place end))
part_of_region bytes place end from to ordered fits =
    let size : (place + to) - (place + from) ≡ to - from = omega arith in
    ap (λ (any : ℕ). take any (drop (place + from) bytes)) size
    ∙ ap (take (to - from)) (sym (drop-drop from place bytes))
    ∙ sym (take_within from (to - from) (end - place) (drop place bytes) (omega arith))

pub rest_of_region : (bytes : List ℕ) (place end from : ℕ) → place + from ≤ end
    → region bytes (place + from) end ≡ drop from (region bytes place end)
rest_of_region bytes place end from fits =
    let size : end - place ≡ from + (end - (place + from)) = omega arith in
    ap (take (end - (place + from))) (sym (drop-drop from place bytes))
    ∙ sym (drop-take from (end - (place + from)) (drop place bytes))
    ∙ ap (λ (any : ℕ). drop from (take any (drop place bytes))) (sym size)

pub empty_region : (bytes : List ℕ) (place : ℕ) → region bytes place place ≡ []
empty_region bytes place = let none : place - place ≡ 0 = omega arith in ap (λ (any : ℕ). take any (drop place bytes)) none

pub whole_region : (bytes : List ℕ) → region bytes 0 (length bytes) ≡ bytes
whole_region bytes = take_all (length bytes - 0) bytes (omega arith)

-- ---- what is read at a place is one of three: nothing, a fault, a sound scope

abbrev pub Answer : Type 0
Answer = Result (Option FoundScope) Error

reading_nothing : (form : Form) → reading form [] ≡ Ok None
unfolding reading
reading_nothing form = refl

pub ok_is_not_err : (found : Option FoundScope) (fault : Error) → ◌≡◌ {A = Answer} (Ok found) (Err fault) → ⊥
ok_is_not_err found fault same = cc

pub none_is_not_some : (found : FoundScope) → ◌≡◌ {A = Answer} (Ok None) (Ok (Some found)) → ⊥
none_is_not_some found same = cc

some_is : (one other : FoundScope) → ◌≡◌ {A = Answer} (Ok (Some one)) (Ok (Some other)) → one ≡ other
some_is one other same = cc

pub sound_is_no_fault : (form : Form) (part : List ℕ) (found : FoundScope) (fault : Error) → reading form part ≡ Ok (Some found)
    → IsFaultIn form part fault → ⊥
sound_is_no_fault form part found fault read (inl at) = ok_is_not_err (Some found) fault (sym read ∙ at)
sound_is_no_fault form part found fault read (inr at) = none_is_not_some found (sym at.1 ∙ read)

pub nothing_is_no_fault : (form : Form) (part : List ℕ) (fault : Error) → part ≡ [] → IsFaultIn form part fault → ⊥
nothing_is_no_fault form part fault none (inl at) = ok_is_not_err None fault (sym (ap (reading form) none ∙ reading_nothing form) ∙ at)
nothing_is_no_fault form part fault none (inr at) = let size : length part ≡ 0 = ap length none in absurd (omega (arith, at.0))

pub nothing_is_not_sound : (form : Form) (part : List ℕ) (found : FoundScope) → part ≡ [] → reading form part ≡ Ok (Some found) → ⊥
nothing_is_not_sound form part found none read = none_is_not_some found (sym (ap (reading form) none ∙ reading_nothing form) ∙ read)

pub one_sound : (form : Form) (part : List ℕ) (one other : FoundScope) → reading form part ≡ Ok (Some one)
    → reading form part ≡ Ok (Some other) → one ≡ other
one_sound form part one other read again = some_is one other (sym read ∙ again)

-- ---- what is reached lies within

-- a place that is reached, and the end of its region, are within the region that the walk began in
pub record Between (place end to to_end : ℕ) : Type 0 where
  pub low : place ≤ to
  pub middle : to ≤ to_end
  pub high : to_end ≤ end

pub between : (form : Form) (bytes : List ℕ) (place end to to_end : ℕ) → place ≤ end → end ≤ length bytes
    → Reaches form bytes place end to to_end → Between place end to to_end
between form bytes place end to to_end ordered bounded here = record { low = omega arith; middle = ordered; high = omega arith }
between form bytes place end to to_end ordered bounded (child {found = found} sound reach) =
    let at = found_places form bytes place end found sound ordered bounded in
    let inner =
    between form bytes (place + found.child_begin) (place + found.child_end) to to_end (omega (arith, at)) (omega (arith, at))
    reach in
    record { low = omega (arith, at, inner); middle = inner.middle; high = omega (arith, at, inner) }
between form bytes place end to to_end ordered bounded (sibling {found = found} sound reach) =
    let at = found_places form bytes place end found sound ordered bounded in
    let inner = between form bytes (place + found.next_sibling) end to to_end (omega (arith, at)) bounded reach in
    record { low = omega (arith, at, inner); middle = inner.middle; high = inner.high }
