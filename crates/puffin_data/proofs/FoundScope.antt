-- What a sound scope that was read says of the region.
use Rattle.std.proofs.Common.{◌≡◌, ℕ, ◌+◌, ◌^◌, ◌<◌, ◌≤◌, Bool, true, false, cond, not, ℤ, pos, ◌-ℤ◌, ◌≤ℤ◌, FitsSigned, w64, List, length, get_or, drop, Option, Some, None, Result, Ok, Err, refl, subst, arith, eqb, leb, ◌||◌}
use Rattle.std.specs.Prelude.{int_lt}
use Rattle.std.proofs.lemmas.Int.{ints}
use Rattle.std.proofs.lemmas.Bool.{eqb-true, ltb-false}
use Rattle.puffin_data.specs.declared.data.form.Form.{Form}
use Rattle.puffin_data.specs.declared.error.Error.{Error}
use Rattle.puffin_data.specs.declared.error.Error.TheVariants.{PrematureEnd, InvalidStream, ScopeNeverEnded}
use Rattle.puffin_data.specs.Text.Lengths.{length_or_none}
use Rattle.puffin_data.specs.Walk.Reading.{FoundScope, reading, sized_reading, unless_fault, text_length_in, found_in, id_in, time_in, child_begin_in, child_end_in}
use Rattle.puffin_data.proofs.lemmas.Lengths.{used_least}

-- a test that was not taken
not_taken : {A : Type 0} (test : Bool) (one other value : A) → cond test one other ≡ value → (one ≡ value → ⊥)
    → (test ≡ false) × (other ≡ value)
not_taken true one other value is not_one = absurd (not_one is)
not_taken false one other value is not_one = (refl, is)

abbrev Answer : Type 0
Answer = Result (Option FoundScope) Error

err_is_not : (fault : Error) (found : FoundScope) → ◌≡◌ {A = Answer} (Err fault) (Ok (Some found)) → ⊥
err_is_not fault found same = cc

none_is_not : (found : FoundScope) → ◌≡◌ {A = Answer} (Ok None) (Ok (Some found)) → ⊥
none_is_not found same = cc

not_false : (test : Bool) → not test ≡ false → test ≡ true
not_false true is = refl
not_false false is = absurd cc

or_false : (first second : Bool) → (first || second) ≡ false → (first ≡ false) × (second ≡ false)
or_false true second is = absurd cc
or_false false second is = (refl, is)

le_from_test : (a b : ℤ) → int_lt a b ≡ false → b ≤ℤ a
le_from_test a b test = grind (arith, ints)

positive : (n : ℕ) → eqb n 0 ≡ false → 0 < n
positive n test = grind arith

below : (m n : ℕ) → leb m n ≡ false → n < m
below m n test = grind arith

duration_fits : (start stop : ℤ) → int_lt stop start ≡ false → int_lt (stop -ℤ start) (pos (2 ^ 63)) ≡ true → FitsSigned w64 (stop -ℤ start)
duration_fits start stop ordered short = grind (arith, ints)

unless_ok : {A B : Type 0} (first : Result A Error) (after : Result B Error) (value : B) → unless_fault first after ≡ Ok value
    → after ≡ Ok value
unless_ok (Ok read) after value is = is
unless_ok (Err fault) after value is = absurd cc

read_length : {B : Type 0} (first : Result (ℕ × ℕ) Error) (after : Result B Error) (value : B) → unless_fault first after ≡ Ok value
    → first ≡ Ok (length_or_none first)
read_length (Ok read) after value is = refl
read_length (Err fault) after value is = absurd cc

-- what holds of a region at whose front a sound scope was read, one fact for each test
pub record Passes (form : Form) (region : List ℕ) (found : FoundScope) : Type 0 where
  pub begins : get_or region 0 0 ≡ 40
  pub text : text_length_in form region ≡ Ok (length_or_none (text_length_in form region))
  pub head : child_begin_in form region ≤ length region
  pub id : 0 < id_in region
  pub inside : child_end_in form region < length region
  pub closes : get_or region (child_end_in form region) 0 ≡ 41
  pub whole : child_end_in form region + 9 ≤ length region
  pub ordered : time_in region 5 ≤ℤ time_in region (child_end_in form region + 1)
  pub fits : FitsSigned w64 (time_in region (child_end_in form region + 1) -ℤ time_in region 5)
  pub is : found_in form region ≡ found

some_is : (one other : FoundScope) → ◌≡◌ {A = Answer} (Ok (Some one)) (Ok (Some other)) → one ≡ other
some_is one other same = cc

-- Each test of the reading wasn't taken, in turn, since its outcome would be a fault or no scope.
pub passes : (form : Form) (region : List ℕ) (found : FoundScope) → reading form region ≡ Ok (Some found) → Passes form region found
unfolding reading sized_reading
passes form region found read =
    let begins = not_taken _ _ _ _ read (none_is_not found) in
    let has_front = not_taken _ _ _ _ begins.1 (err_is_not PrematureEnd found) in
    let after = unless_ok (text_length_in form region) (sized_reading form region) (Some found) has_front.1 in
    let has_head = not_taken _ _ _ _ after (err_is_not PrematureEnd found) in
    let is_ended = not_taken _ _ _ _ has_head.1 (err_is_not ScopeNeverEnded found) in
    let has_children = not_taken _ _ _ _ is_ended.1 (err_is_not PrematureEnd found) in
    let closes = not_taken _ _ _ _ has_children.1 (err_is_not InvalidStream found) in
    let has_end = not_taken _ _ _ _ closes.1 (err_is_not PrematureEnd found) in
    let is_ordered = not_taken _ _ _ _ has_end.1 (err_is_not InvalidStream found) in
    let is_short = not_taken _ _ _ _ is_ordered.1 (err_is_not InvalidStream found) in
    let has_id = or_false _ _ has_front.0 in
    let start : ℤ = time_in region 5 in
    let stop : ℤ = time_in region (child_end_in form region + 1) in
    record {
      begins = eqb-true _ _ (not_false _ begins.0);
      text = read_length (text_length_in form region) (sized_reading form region) (Some found) has_front.1;
      head = ltb-false _ _ has_head.0;
      id = positive _ has_id.1;
      inside = below _ _ has_children.0;
      closes = eqb-true _ _ (not_false _ closes.0);
      whole = ltb-false _ _ has_end.0;
      ordered = le_from_test stop start is_ordered.0;
      fits = duration_fits start stop is_ordered.0 (not_false _ is_short.0);
      is = some_is _ _ is_short.1;
    }

-- how the places of a sound scope lie
pub record Places (size : ℕ) (found : FoundScope) : Type 0 where
  pub head : 22 ≤ found.child_begin
  pub inside : found.child_begin ≤ found.child_end
  pub next : found.child_end + 9 ≡ found.next_sibling
  pub fits : found.next_sibling ≤ size

pub places : (form : Form) (region : List ℕ) (found : FoundScope) → reading form region ≡ Ok (Some found) → Places (length region) found
unfolding found_in
places form region found read =
    let passed = passes form region found read in
    subst (λ (any : FoundScope). Places (length region) any) passed.is
    (record { head = omega (arith, used_least form (drop 13 region)); inside = omega arith; next = refl; fits = passed.whole })
