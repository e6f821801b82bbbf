-- What may be wrong where a scope is read.
use Rattle.std.specs.Prelude.{◌≡◌, ℕ, ◌+◌, ◌-◌, ◌*◌, ◌^◌, ◌⊎◌, pos, ◌-ℤ◌, int_lt, List, [], ◌∷◌, length, drop, slice_index, nat_lt, nat_le, ◌==◌, not, ◌||◌, if◌then◌else◌, Bool, Some, None, Result, Ok, Err}
use Rattle.std.proofs.Common.{true, false, inl, inr}
use Rattle.puffin_data.specs.declared.data.form.Form.{Form}
use Rattle.puffin_data.specs.declared.error.Error.{Error}
use Rattle.puffin_data.specs.declared.error.Error.TheVariants.{PrematureEnd, InvalidStream, ScopeNeverEnded}
use Rattle.puffin_data.specs.declared.data.form.Form.TheVariants.{Short, Long}
use Rattle.puffin_data.specs.Text.Lengths.{length_at, with_second_group}
use Rattle.puffin_data.specs.Walk.Reading.{reading, sized_reading, unless_fault, text_length_in, found_in, id_in, time_in, size_in, child_begin_in, child_end_in}
use Rattle.puffin_data.specs.Walk.{region, IsFault}

-- ---- results that fail only with one of three faults

abbrev IsCause : Error → Type 0
IsCause fault = (fault ≡ PrematureEnd) ⊎ (fault ≡ InvalidStream) ⊎ (fault ≡ ScopeNeverEnded)

abbrev HasCause : {A : Type 0} → Result A Error → Type 0
HasCause result = (fault : Error) → result ≡ Err fault → IsCause fault

either : {A : Type 0} (test : Bool) (one other : Result A Error) → HasCause one → HasCause other → HasCause (if test then one else other)
either true one other of_one of_other = of_one
either false one other of_one of_other = of_other

fine : {A : Type 0} (value : A) → HasCause (Ok value)
fine value fault is = absurd (cc)

premature : {A : Type 0} → HasCause {A = A} (Err PrematureEnd)
premature fault is = inl (cc)

invalid : {A : Type 0} → HasCause {A = A} (Err InvalidStream)
invalid fault is = inr (inl (cc))

unended : {A : Type 0} → HasCause {A = A} (Err ScopeNeverEnded)
unended fault is = inr (inr (cc))

unless : {A B : Type 0} (result : Result A Error) (after : Result B Error) → HasCause result → HasCause after
    → HasCause (unless_fault result after)
unless (Ok value) after of_result of_after = of_after
unless (Err fault) after of_result of_after = λ other is. of_result other (cc)

-- ---- the readings, test by test

second_causes : (low : ℕ) (rest : List ℕ) → HasCause (with_second_group low rest)
second_causes low [] = premature
second_causes low (high ∷ rest) = either ((high == 0) || nat_le 128 high) _ _ invalid (fine (low + 128 * high, 2))

length_causes : (form : Form) (bytes : List ℕ) → HasCause (length_at form bytes)
unfolding length_at
length_causes form [] = premature
length_causes Short (low ∷ rest) = fine (low, 1)
length_causes Long (low ∷ rest) = either (nat_lt low 128) _ _ (fine (low, 1)) (second_causes (low - 128) rest)

sized_causes : (form : Form) (part : List ℕ) → HasCause (sized_reading form part)
unfolding sized_reading
sized_causes form part =
    either (nat_lt (length part) (child_begin_in form part)) _ _ premature
    (either (size_in form part == 2 ^ 64 - 1) _ _ unended
    (either (nat_le (length part) (child_end_in form part)) _ _ premature
    (either (not (slice_index part (child_end_in form part) == 41)) _ _ invalid
    (either (nat_lt (length part) (child_end_in form part + 9)) _ _ premature
    (either (int_lt (time_in part (child_end_in form part + 1)) (time_in part 5)) _ _ invalid
    (either (not (int_lt (time_in part (child_end_in form part + 1) -ℤ time_in part 5) (pos (2 ^ 63)))) _ _ invalid
    (fine (Some (found_in form part)))))))))

causes : (form : Form) (part : List ℕ) → HasCause (reading form part)
unfolding reading
causes form part =
    either (not (slice_index part 0 == 40)) _ _ (fine None)
    (either (nat_lt (length part) 14 || (id_in part == 0)) _ _ premature
    (unless (text_length_in form part) (sized_reading form part) (length_causes form (drop 13 part)) (sized_causes form part)))

pub three_faults : (form : Form) (bytes : List ℕ) (fault : Error) → IsFault form bytes fault → IsCause fault
three_faults form bytes fault (place, first) =
    elim first.stands [
      | inl is ↦ causes form (region bytes place first.end) fault is
      | inr none ↦ inr (inl none.2)
    ]
