-- Lengths of texts: a layout is read again, what is read is a layout, and no layout begins another.
use Rattle.std.proofs.Common.{◌≡◌, ℕ, ◌+◌, ◌-◌, ◌*◌, ◌/◌, ◌%◌, ◌<◌, ◌≤◌, Bool, true, false, cond, List, [], ◌∷◌, ◌++◌, length, drop, refl, sym, ap, ◌∙◌, arith, Result, Ok, Err, eqb, ltb, leb, ◌||◌}
use Rattle.std.proofs.lemmas.List.{append_cancel_left}
use Rattle.std.specs.Prelude.{nat_le, ◌==◌}
use Rattle.puffin_data.specs.declared.error.Error.{Error}
use Rattle.puffin_data.specs.declared.error.Error.TheVariants.{PrematureEnd, InvalidStream}
use Rattle.puffin_data.specs.declared.data.form.Form.{Form}
use Rattle.puffin_data.specs.declared.data.form.Form.TheVariants.{Short, Long}
use Rattle.puffin_data.specs.Text.Lengths.{stored_limit, text_limit, length_layout, text_room, length_at, length_or_none, with_second_group}
use Rattle.puffin_data.proofs.lemmas.Numbers.{IsBytes}

-- what reading a length gives: it and the number of its bytes, or a fault
abbrev Length : Type 0
Length = Result (ℕ × ℕ) Error

-- the bytes of a length in the long form; `is_one` says whether it is one byte
abbrev groups : ℕ → Bool → List ℕ
groups size is_one = cond is_one (size ∷ []) ((128 + size % 128) ∷ (size / 128) ∷ [])

-- what a text is cut to can be stored
pub limit_stored : (form : Form) (text : List ℕ) → length text ≤ text_limit form → length text ≤ stored_limit form
limit_stored Short text short = omega arith
limit_stored Long text short = short

-- ---- a layout is read again

-- in the long form: of one byte, or of two groups of seven bits, the lower one first
groups_again : (size : ℕ) (rest : List ℕ) (is_one : Bool) → ltb size 128 ≡ is_one → size ≤ 16383
    → length_at Long (groups size is_one ++ rest) ≡ Ok (size, length (groups size is_one))
unfolding length_at
groups_again size rest true lt fits = rw lt refl
groups_again size rest false lt fits =
    let two : ltb (128 + size % 128) 128 ≡ false = grind arith in
    let some : eqb (size / 128) 0 ≡ false = grind arith in
    let last : leb 128 (size / 128) ≡ false = grind arith in
    let sum : 128 + size % 128 - 128 + 128 * (size / 128) ≡ size = omega arith in
    rw (two, some, last, sum) refl

-- a length that can be stored is read from its layout, whatever comes behind
pub length_again : (form : Form) (size : ℕ) (rest : List ℕ) → size ≤ stored_limit form
    → length_at form (length_layout form size ++ rest) ≡ Ok (size, length (length_layout form size))
unfolding length_at length_layout
length_again Short size rest fits = refl
length_again Long size rest fits = groups_again size rest (ltb size 128) refl fits

-- ---- how many bytes a layout has

-- one byte or two
pub record Sizes (size : ℕ) : Type 0 where
  pub least : 1 ≤ size
  pub most : size ≤ 2

groups_size : (size : ℕ) (is_one : Bool) → Sizes (length (groups size is_one))
groups_size size true = record { least = omega arith; most = omega arith }
groups_size size false = record { least = omega arith; most = omega arith }

pub layout_size : (form : Form) (size : ℕ) → Sizes (length (length_layout form size))
unfolding length_layout
layout_size Short size = record { least = omega arith; most = omega arith }
layout_size Long size = groups_size size (ltb size 128)

-- up to 127 one byte in both forms
pub one_group : (form : Form) (size : ℕ) → size ≤ 127 → length_layout form size ≡ size ∷ []
unfolding length_layout
one_group Short size small = refl
one_group Long size small =
    let test : ltb size 128 ≡ true = grind arith in
    rw test refl

-- how much room a text takes with its length, at least
pub room_least : (form : Form) (text : List ℕ) → 1 + length text ≤ text_room form text
room_least form text = omega (arith, (layout_size form (length text)).least)

-- in the short form a text takes one byte more than it has
pub short_room : (text : List ℕ) → text_room Short text ≡ 1 + length text
unfolding length_layout
short_room text = refl

-- and in the long form at most two
pub long_room : (text : List ℕ) → text_room Long text ≤ 2 + length text
long_room text = omega (arith, (layout_size Long (length text)).most)

-- what reading a length says it took, also in place of a fault, is a byte at least: with a second byte
second_least : (low : ℕ) (rest : List ℕ) → 1 ≤ (length_or_none (with_second_group low rest)).1
second_least low [] = omega arith
second_least low (high ∷ rest) = wrong_or_two ((high == 0) || nat_le 128 high) (low + 128 * high)
  where
    wrong_or_two : (test : Bool) (size : ℕ) → 1 ≤ (length_or_none (cond test (Err InvalidStream) (Ok (size, 2)))).1
    wrong_or_two true size = omega arith
    wrong_or_two false size = omega arith

-- by the first byte
first_least : (is_one : Bool) (low : ℕ) (rest : List ℕ)
    → 1 ≤ (length_or_none (cond is_one (Ok (low, 1)) (with_second_group (low - 128) rest))).1
first_least true low rest = omega arith
first_least false low rest = second_least (low - 128) rest

-- in both forms
pub used_least : (form : Form) (bytes : List ℕ) → 1 ≤ (length_or_none (length_at form bytes)).1
unfolding length_at
used_least form [] = omega arith
used_least Short (low ∷ rest) = omega arith
used_least Long (low ∷ rest) = first_least (ltb low 128) low rest

-- ---- what is read is a layout

-- these bytes begin with the layout of a length that can be stored, of which so many bytes were read
pub record IsLength (form : Form) (bytes : List ℕ) (len used : ℕ) : Type 0 where
  pub spelled : bytes ≡ length_layout form len ++ drop used bytes
  pub fits : len ≤ stored_limit form
  pub used_is : used ≡ length (length_layout form len)

-- a fault is no length, and equal answers have equal parts
err_is_not : (fault : Error) (size used : ℕ) → ◌≡◌ {A = Length} (Err fault) (Ok (size, used)) → ⊥
err_is_not fault size used same = cc

same_number : (size other used other_used : ℕ) → ◌≡◌ {A = Length} (Ok (size, used)) (Ok (other, other_used)) → size ≡ other
same_number size other used other_used same = ap (λ (any : Length). (length_or_none any).0) same

same_used : (size other used other_used : ℕ) → ◌≡◌ {A = Length} (Ok (size, used)) (Ok (other, other_used)) → used ≡ other_used
same_used size other used other_used same = ap (λ (any : Length). (length_or_none any).1) same

-- the short form: one byte
one_byte : (low size used : ℕ) (rest : List ℕ) → low < 256 → ◌≡◌ {A = Length} (Ok (low, 1)) (Ok (size, used))
    → IsLength Short (low ∷ rest) size used
unfolding length_layout
one_byte low size used rest fits is =
    let size_is = same_number low size 1 used is in
    let used_is = same_used low size 1 used is in
    record {
      spelled = ap (λ (any : ℕ). any ∷ rest) size_is ∙ ap (λ (any : ℕ). size ∷ drop any (low ∷ rest)) used_is;
      fits = omega (arith, size_is);
      used_is = sym used_is;
    }

-- the long form: one byte below 128
one_group_read : (low size used : ℕ) (rest : List ℕ) → ltb low 128 ≡ true → ◌≡◌ {A = Length} (Ok (low, 1)) (Ok (size, used))
    → IsLength Long (low ∷ rest) size used
unfolding length_layout
one_group_read low size used rest fits_one is =
    let size_is = same_number low size 1 used is in
    let used_is = same_used low size 1 used is in
    let small : ltb size 128 ≡ true = ap (λ (any : ℕ). ltb any 128) (sym size_is) ∙ fits_one in
    record {
      spelled = rw small (ap (λ (any : ℕ). any ∷ rest) size_is ∙ ap (λ (any : ℕ). size ∷ drop any (low ∷ rest)) used_is);
      fits = grind arith;
      used_is = rw small (sym used_is);
    }

-- the long form: the lower seven bits in a byte from 128 on, and the others in one below 128 that isn't 0
two_groups : (low high size used : ℕ) (rest : List ℕ) → low < 256 → ltb low 128 ≡ false → eqb high 0 ≡ false → leb 128 high ≡ false
    → ◌≡◌ {A = Length} (Ok (low - 128 + 128 * high, 2)) (Ok (size, used)) → IsLength Long (low ∷ high ∷ rest) size used
unfolding length_layout
two_groups low high size used rest fits not_one not_zero is_last is =
    let size_is = same_number (low - 128 + 128 * high) size 2 used is in
    let used_is = same_used (low - 128 + 128 * high) size 2 used is in
    let great : ltb size 128 ≡ false = grind arith in
    let low_is : low ≡ 128 + size % 128 = grind arith in
    let high_is : high ≡ size / 128 = grind arith in
    record {
      spelled =
          rw great (ap (λ (any : ℕ). any ∷ high ∷ rest) low_is ∙ ap (λ (any : ℕ). (128 + size % 128) ∷ any ∷ rest) high_is
          ∙ ap (λ (any : ℕ). (128 + size % 128) ∷ (size / 128) ∷ drop any (low ∷ high ∷ rest)) used_is);
      fits = grind arith;
      used_is = rw great (sym used_is);
    }

-- by the two tests of the second byte
second_read : (low high size used : ℕ) (rest : List ℕ) (none more : Bool) → eqb high 0 ≡ none → leb 128 high ≡ more → low < 256
    → ltb low 128 ≡ false
    → ◌≡◌ {A = Length} (cond (none || more) (Err InvalidStream) (Ok (low - 128 + 128 * high, 2))) (Ok (size, used))
    → IsLength Long (low ∷ high ∷ rest) size used
second_read low high size used rest true more zero_test last_test fits not_one is = absurd (err_is_not InvalidStream size used is)
second_read low high size used rest false true zero_test last_test fits not_one is = absurd (err_is_not InvalidStream size used is)
second_read low high size used rest false false zero_test last_test fits not_one is =
    two_groups low high size used rest fits not_one zero_test last_test is

-- by whether there is a second byte
after_first : (low size used : ℕ) (rest : List ℕ) → IsBytes (low ∷ rest) → ltb low 128 ≡ false
    → with_second_group (low - 128) rest ≡ Ok (size, used) → IsLength Long (low ∷ rest) size used
after_first low size used [] are_bytes not_one is = absurd (err_is_not PrematureEnd size used is)
after_first low size used (high ∷ rest) are_bytes not_one is =
    second_read low high size used rest (eqb high 0) (leb 128 high) refl refl (are_bytes 0) not_one is

-- by whether the first byte is the only one
first_read : (low size used : ℕ) (rest : List ℕ) (is_one : Bool) → ltb low 128 ≡ is_one → IsBytes (low ∷ rest)
    → cond is_one (Ok (low, 1)) (with_second_group (low - 128) rest) ≡ Ok (size, used) → IsLength Long (low ∷ rest) size used
first_read low size used rest true one_test are_bytes is = one_group_read low size used rest one_test is
first_read low size used rest false one_test are_bytes is = after_first low size used rest are_bytes one_test is

-- a length that was read: its bytes are its layout
pub length_read : (form : Form) (bytes : List ℕ) (size used : ℕ) → IsBytes bytes → length_at form bytes ≡ Ok (size, used)
    → IsLength form bytes size used
unfolding length_at
length_read form [] size used are_bytes is = absurd (err_is_not PrematureEnd size used is)
length_read Short (low ∷ rest) size used are_bytes is = one_byte low size used rest (are_bytes 0) is
length_read Long (low ∷ rest) size used are_bytes is = first_read low size used rest (ltb low 128) refl are_bytes is

-- ---- no layout begins another

-- equal bytes begin with the same length, since reading them gives one
pub no_length_begins_another : (form : Form) (size other : ℕ) (rest other_rest : List ℕ) → size ≤ stored_limit form
    → other ≤ stored_limit form → length_layout form size ++ rest ≡ length_layout form other ++ other_rest
    → (size ≡ other) × (rest ≡ other_rest)
no_length_begins_another form size other rest other_rest fits other_fits same_bytes =
    let same_length =
    sym (length_again form size rest fits) ∙ (ap (length_at form) same_bytes ∙ length_again form other other_rest other_fits) in
    let same : size ≡ other = same_number size other _ _ same_length in (
      same,
      append_cancel_left (length_layout form size) rest other_rest
          (same_bytes ∙ ap (λ (any : ℕ). length_layout form any ++ other_rest) (sym same)),
    )

-- ---- worked values

pub row_127 : length_layout Long 127 ≡ 0x7f ∷ []
unfolding length_layout
row_127 = refl

pub row_128 : length_layout Long 128 ≡ 0x80 ∷ 0x01 ∷ []
unfolding length_layout
row_128 = refl

pub row_16383 : length_layout Long 16383 ≡ 0xff ∷ 0x7f ∷ []
unfolding length_layout
row_16383 = refl

pub row_short : length_layout Short 127 ≡ 0x7f ∷ []
unfolding length_layout
row_short = refl

pub row_second_none : length_at Long (0x80 ∷ 0x00 ∷ []) ≡ Err InvalidStream
unfolding length_at
row_second_none = refl

pub row_third : length_at Long (0xff ∷ 0x80 ∷ []) ≡ Err InvalidStream
unfolding length_at
row_third = refl

pub row_cut : length_at Long (0x80 ∷ []) ≡ Err PrematureEnd
unfolding length_at
row_cut = refl

pub row_128_read : length_at Long (0x80 ∷ 0x01 ∷ []) ≡ Ok (128, 2)
unfolding length_at
row_128_read = refl
