-- Numbers, times, texts and flags are read back, and nothing else is read.
use Rattle.std.proofs.Common.{◌≡◌, ℕ, zero, suc, ◌+◌, ◌*◌, ◌/◌, ◌%◌, ◌^◌, ◌<◌, ◌≤◌, Bool, true, false, cond, ltb, eqb, List, [], ◌∷◌, ◌++◌, length, take, drop, Option, Some, None, refl, sym, ap, subst, ◌∙◌, append_assoc, arith, inl, inr, ◌⊎◌, ℤ, pos, negsuc}
use Rattle.std.specs.Int.{w16, from_le_bytes}
use Rattle.std.specs.Str.{is_utf8}
use Rattle.std.proofs.lemmas.Bool.{cases_lt, ltb-false, le-ltb, lt-ltb, ltb-true, eqb-true}
use Rattle.std.proofs.lemmas.List.{take_at, drop_at, take-append-drop, length-append, length-take}
use Rattle.std.proofs.lemmas.Nat.{le_bytes_2}
use Rattle.std.proofs.lemmas.Option.{same_Some, some_pair_parts}
use Rattle.byteorder.specs.Endian.{little_bytes, little_number}
use Rattle.byteorder.specs.Numbers.{little_from-lt, little_from-take, length-bytes_low_first, little_number-reads_back}
use Rattle.puffin_data.specs.Value.Layout.{IsBytes, byte, number, signed, zigzag, flag, block, IsByte, IsU32, IsLong, IsSigned, IsBlock, IsText, IsAny}
use Rattle.puffin_data.specs.Value.Decoding.{byte_at, wide_at, number_after, number_at, u32_at, unzigzag, signed_at, flag_at, split_after, bytes_at, text_at}
use Rattle.puffin_data.proofs.lemmas.Numbers.{IsBytes-take, bytes_4, bytes_8}
use Rattle.puffin_data.proofs.lemmas.Readers.{IsReader, IsBytes-rest, IsBytes-after, bind_some, checked_reader, form_reader}

-- ---- bytes of a number

abbrev AreBack : ℕ → Type 0
AreBack width = (bytes : List ℕ) → width ≤ length bytes → IsBytes bytes → little_bytes width (little_number width bytes) ≡ take width bytes

le_number_2 : (bytes : List ℕ) → little_number 2 bytes ≡ from_le_bytes w16 bytes
le_number_2 bytes = omega arith

bytes_2 : AreBack 2
bytes_2 bytes long are_bytes =
    le_bytes_2 (take 2 bytes) (little_number 2 bytes) (omega (arith, length-take 2 bytes)) (IsBytes-take 2 bytes are_bytes)
    (sym (little_from-take 0 2 2 bytes (omega arith)) ∙ le_number_2 (take 2 bytes))

-- ---- a number of some bytes

wide_again : (width least value : ℕ) (rest : List ℕ) → least ≤ value → value < 256 ^ width
    → wide_at width least (little_bytes width value ++ rest) ≡ Some (value, rest)
unfolding wide_at
wide_again width least value rest least_fits most_fits =
    let len : length (little_bytes width value) ≡ width = length-bytes_low_first 0 width value in
    let long : ltb (length (little_bytes width value ++ rest)) width ≡ false =
    le-ltb _ _ (omega (arith, length-append (little_bytes width value) rest, len)) in
    let back : little_number width (little_bytes width value ++ rest) ≡ value = little_number-reads_back width value rest most_fits in
    rw (long, back, le-ltb value least least_fits, drop_at (little_bytes width value) rest width len) refl

guarded : {A : Type 0} (test : Bool) (option : Option A) (value : A) → cond test None option ≡ Some value
    → (test ≡ false) × (option ≡ Some value)
guarded true option value is = absurd cc
guarded false option value is = (refl, is)

record Wide (width least : ℕ) (bytes : List ℕ) (value : ℕ) (rest : List ℕ) : Type 0 where
  low : least ≤ value
  high : value < 256 ^ width
  text : bytes ≡ little_bytes width value ++ rest

-- what is read as a number of some bytes was laid out so, and needs as many
wide_taken : (width least : ℕ) → AreBack width → (bytes : List ℕ) (value : ℕ) (rest : List ℕ) → IsBytes bytes
    → wide_at width least bytes ≡ Some (value, rest) → Wide width least bytes value rest
unfolding wide_at
wide_taken width least back bytes value rest are_bytes read_is =
    let long_enough =
    guarded (ltb (length bytes) width)
    (cond (ltb (little_number width bytes) least) None (Some (little_number width bytes, drop width bytes))) (value, rest) read_is in
    let great_enough =
    guarded (ltb (little_number width bytes) least) (Some (little_number width bytes, drop width bytes)) (value, rest)
    long_enough.1 in
    let parts = some_pair_parts (little_number width bytes) value (drop width bytes) rest great_enough.1 in
    let long : width ≤ length bytes = ltb-false _ _ long_enough.0 in
    let front : little_bytes width value ≡ take width bytes = ap (little_bytes width) (sym parts.0) ∙ back bytes long are_bytes in
    record {
      low = rw (← parts.0) (ltb-false _ _ great_enough.0);
      high = rw (← parts.0) (little_from-lt 0 width bytes are_bytes);
      text = rw (front, ← parts.1) (sym (take-append-drop width bytes));
    }

-- ---- the shortest spelling

short_is : (value : ℕ) → value < 251 → number value ≡ value ∷ []
unfolding number
short_is value small = rw (lt-ltb value 251 small) refl

two_is : (value : ℕ) → 251 ≤ value → value < 2 ^ 16 → number value ≡ 251 ∷ little_bytes 2 value
unfolding number
two_is value least_fits most_fits = rw (le-ltb value 251 least_fits, lt-ltb value (2 ^ 16) most_fits) refl

four_is : (value : ℕ) → 2 ^ 16 ≤ value → value < 2 ^ 32 → number value ≡ 252 ∷ little_bytes 4 value
unfolding number
four_is value least_fits most_fits =
    rw (le-ltb value 251 (omega arith), le-ltb value (2 ^ 16) least_fits, lt-ltb value (2 ^ 32) most_fits) refl

eight_is : (value : ℕ) → 2 ^ 32 ≤ value → number value ≡ 253 ∷ little_bytes 8 value
unfolding number
eight_is value least_fits = rw (le-ltb value 251 (omega arith), le-ltb value (2 ^ 16) (omega arith), le-ltb value (2 ^ 32) least_fits) refl

after_short : (first : ℕ) (rest : List ℕ) → first < 251 → number_after first rest ≡ Some (first, rest)
unfolding number_after
after_short first rest small = rw (lt-ltb first 251 small) refl

after_251 : (rest : List ℕ) → number_after 251 rest ≡ wide_at 2 251 rest
unfolding number_after
after_251 rest = refl

after_252 : (rest : List ℕ) → number_after 252 rest ≡ wide_at 4 (2 ^ 16) rest
unfolding number_after
after_252 rest = refl

after_253 : (rest : List ℕ) → number_after 253 rest ≡ wide_at 8 (2 ^ 32) rest
unfolding number_after
after_253 rest = refl

-- a number is read back, by the size of its layout
pub number-again : (value : ℕ) (rest : List ℕ) → IsLong value → number_at (number value ++ rest) ≡ Some (value, rest)
number-again value rest is_long =
    elim (cases_lt value 251) [
      | inl short ↦ ap (λ (any : List ℕ). number_at (any ++ rest)) (short_is value short) ∙ after_short value rest short
      | inr from251 ↦ elim (cases_lt value (2 ^ 16)) [
        | inl two ↦ ap (λ (any : List ℕ). number_at (any ++ rest)) (two_is value from251 two)
            ∙ (after_251 (little_bytes 2 value ++ rest) ∙ wide_again 2 251 value rest from251 (omega arith))
        | inr from16 ↦ elim (cases_lt value (2 ^ 32)) [
          | inl four ↦ ap (λ (any : List ℕ). number_at (any ++ rest)) (four_is value from16 four)
              ∙ (after_252 (little_bytes 4 value ++ rest) ∙ wide_again 4 (2 ^ 16) value rest from16 (omega arith))
          | inr from32 ↦ ap (λ (any : List ℕ). number_at (any ++ rest)) (eight_is value from32)
              ∙ (after_253 (little_bytes 8 value ++ rest) ∙ wide_again 8 (2 ^ 32) value rest from32 (omega arith))
        ]
      ]
    ]

chosen : {A : Type 0} (test : Bool) (one other value : A) → cond test one other ≡ value
    → ((test ≡ true) × (one ≡ value)) ⊎ ((test ≡ false) × (other ≡ value))
chosen true one other value is = inl (refl, is)
chosen false one other value is = inr (refl, is)

not_any : {A : Type 0} (value : A) → None ≡ Some value → ⊥
not_any value same = absurd cc

-- the number was laid out so
IsLaidOut : ℕ → List ℕ → ℕ → List ℕ → Type 0
IsLaidOut first tail value rest = (value < 2 ^ 64) × (first ∷ tail ≡ number value ++ rest)

taken_two : (first : ℕ) (tail : List ℕ) (value : ℕ) (rest : List ℕ) → first ≡ 251 → Wide 2 251 tail value rest
    → IsLaidOut first tail value rest
unfolding IsLaidOut
taken_two first tail value rest first_is wide =
    let fits : value < 2 ^ 16 = let most = wide.high in omega arith in
    (omega arith, rw (first_is, two_is value wide.low fits) (ap (λ (any : List ℕ). 251 ∷ any) wide.text))

taken_four : (first : ℕ) (tail : List ℕ) (value : ℕ) (rest : List ℕ) → first ≡ 252 → Wide 4 (2 ^ 16) tail value rest
    → IsLaidOut first tail value rest
unfolding IsLaidOut
taken_four first tail value rest first_is wide =
    let fits : value < 2 ^ 32 = let most = wide.high in omega arith in
    (omega arith, rw (first_is, four_is value wide.low fits) (ap (λ (any : List ℕ). 252 ∷ any) wide.text))

taken_eight : (first : ℕ) (tail : List ℕ) (value : ℕ) (rest : List ℕ) → first ≡ 253 → Wide 8 (2 ^ 32) tail value rest
    → IsLaidOut first tail value rest
unfolding IsLaidOut
taken_eight first tail value rest first_is wide =
    let fits : value < 2 ^ 64 = let most = wide.high in omega arith in
    (fits, rw (first_is, eight_is value wide.low) (ap (λ (any : List ℕ). 253 ∷ any) wide.text))

taken_short : (first : ℕ) (tail : List ℕ) (value : ℕ) (rest : List ℕ) → first < 251 → (first ≡ value) × (tail ≡ rest)
    → IsLaidOut first tail value rest
unfolding IsLaidOut
taken_short first tail value rest small same =
    (omega (arith, same.0), rw (← same.0, ← same.1, short_is first small) refl)

-- what is read is a number's layout, by its first byte
number_taken : (first : ℕ) (tail : List ℕ) (value : ℕ) (rest : List ℕ) → IsBytes tail → number_after first tail ≡ Some (value, rest)
    → IsLaidOut first tail value rest
unfolding number_after
number_taken first tail value rest are_bytes read_is =
    let none : Option (ℕ × List ℕ) = None in
    let from_253 : Option (ℕ × List ℕ) = cond (eqb first 253) (wide_at 8 (2 ^ 32) tail) none in
    let from_252 : Option (ℕ × List ℕ) = cond (eqb first 252) (wide_at 4 (2 ^ 16) tail) from_253 in
    let from_251 : Option (ℕ × List ℕ) = cond (eqb first 251) (wide_at 2 251 tail) from_252 in
    let out : Option (ℕ × List ℕ) = Some (value, rest) in
    elim (chosen (ltb first 251) (Some (first, tail)) from_251 out read_is) [
      | inl short ↦ taken_short first tail value rest (ltb-true _ _ short.0) (some_pair_parts first value tail rest short.1)
      | inr short ↦ elim (chosen (eqb first 251) (wide_at 2 251 tail) from_252 out short.1) [
        | inl two ↦ taken_two first tail value rest (eqb-true _ _ two.0) (wide_taken 2 251 bytes_2 tail value rest are_bytes two.1)
        | inr two ↦ elim (chosen (eqb first 252) (wide_at 4 (2 ^ 16) tail) from_253 out two.1) [
          | inl four ↦ taken_four first tail value rest (eqb-true _ _ four.0)
              (wide_taken 4 (2 ^ 16) bytes_4 tail value rest are_bytes four.1)
          | inr four ↦ elim (chosen (eqb first 253) (wide_at 8 (2 ^ 32) tail) none out four.1) [
            | inl eight ↦ taken_eight first tail value rest (eqb-true _ _ eight.0)
                (wide_taken 8 (2 ^ 32) bytes_8 tail value rest are_bytes eight.1)
            | inr eight ↦ absurd (not_any (value, rest) eight.1)
          ]
        ]
      ]
    ]

pub number-taken : (bytes : List ℕ) (value : ℕ) (rest : List ℕ) → IsBytes bytes → number_at bytes ≡ Some (value, rest)
    → IsLong value × (bytes ≡ number value ++ rest)
unfolding IsLaidOut
number-taken [] value rest are_bytes read_is = absurd cc
number-taken (first ∷ tail) value rest are_bytes read_is = number_taken first tail value rest (IsBytes-rest first tail are_bytes) read_is

pub number_reader : IsReader IsLong number number_at
number_reader = record { again = number-again; taken = number-taken }

-- ---- numbers of 32 bits

pub word_reader : IsReader IsU32 number u32_at
word_reader =
    let reader = checked_reader IsLong number number_at (λ value. ltb value (2 ^ 32)) number_reader in
    record {
      again = λ value rest fits. reader.again value rest (omega arith, lt-ltb value (2 ^ 32) fits);
      taken =
          λ bytes value rest are_bytes read_is.
          let taken = reader.taken bytes value rest are_bytes read_is in (ltb-true _ _ taken.0.1, taken.1);
    }

-- ---- times

even_is : (folded : ℕ) → folded % 2 ≡ 0 → zigzag (unzigzag folded) ≡ folded
even_is folded rest = rw rest (omega arith)

odd_is : (folded : ℕ) → folded % 2 ≡ 1 → zigzag (unzigzag folded) ≡ folded
odd_is folded rest = rw rest (omega arith)

pub zigzag-back : (folded : ℕ) → zigzag (unzigzag folded) ≡ folded
zigzag-back folded =
    let small : folded % 2 < 2 = omega arith in
    elim (cases_lt (folded % 2) 1) [
      | inl zero_ ↦ even_is folded (omega arith)
      | inr one ↦ odd_is folded (omega arith)
    ]

pub zigzag-forth : (value : ℤ) → unzigzag (zigzag value) ≡ value
zigzag-forth (pos size) =
    let even : 2 * size % 2 ≡ 0 = omega arith in
    let half : 2 * size / 2 ≡ size = omega arith in
    rw (even, half) refl
zigzag-forth (negsuc size) =
    let odd : (2 * size + 1) % 2 ≡ 1 = omega arith in
    let half : (2 * size + 1) / 2 ≡ size = omega arith in
    rw (odd, half) refl

-- ---- bytes

pub byte-again : (value : ℕ) (rest : List ℕ) → IsByte value → byte_at (byte value ++ rest) ≡ Some (value, rest)
byte-again value rest fits = refl

pub byte-taken : (bytes : List ℕ) (value : ℕ) (rest : List ℕ) → IsBytes bytes → byte_at bytes ≡ Some (value, rest)
    → IsByte value × (bytes ≡ byte value ++ rest)
byte-taken [] value rest are_bytes read_is = absurd cc
byte-taken (first ∷ tail) value rest are_bytes read_is =
    let parts = some_pair_parts first value tail rest read_is in
    let small : first < 256 = are_bytes 0 in
    (rw (← parts.0) small, rw (← parts.0, ← parts.1) refl)

pub byte_reader : IsReader IsByte byte byte_at
byte_reader = record { again = byte-again; taken = byte-taken }

time_is_long : (value : ℤ) → IsSigned value → IsLong (zigzag value)
time_is_long (pos size) fits = omega (arith, fits)
time_is_long (negsuc size) fits = omega (arith, fits)

long_is_time : (value : ℤ) → IsLong (zigzag value) → IsSigned value
long_is_time (pos size) fits = omega (arith, fits)
long_is_time (negsuc size) fits = omega (arith, fits)

pub signed_reader : IsReader IsSigned signed signed_at
signed_reader =
    let reader = form_reader IsLong number number_at unzigzag zigzag zigzag-back zigzag-forth number_reader in
    record {
      again = λ value rest fits. reader.again value rest (time_is_long value fits);
      taken =
          λ bytes value rest are_bytes read_is.
          let taken = reader.taken bytes value rest are_bytes read_is in (long_is_time value taken.0, taken.1);
    }

-- ---- flags

flag-again : (flag_value : Bool) (rest : List ℕ) → IsAny flag_value → flag_at (flag flag_value ++ rest) ≡ Some (flag_value, rest)
flag-again true rest fits = refl
flag-again false rest fits = refl

flag-taken : (bytes : List ℕ) (flag_value : Bool) (rest : List ℕ) → IsBytes bytes → flag_at bytes ≡ Some (flag_value, rest)
    → IsAny flag_value × (bytes ≡ flag flag_value ++ rest)
flag-taken [] flag_value rest are_bytes read_is = absurd cc
flag-taken (zero ∷ tail) flag_value rest are_bytes read_is =
    let parts = some_pair_parts false flag_value tail rest read_is in (tt, rw (← parts.0, ← parts.1) refl)
flag-taken (suc zero ∷ tail) flag_value rest are_bytes read_is =
    let parts = some_pair_parts true flag_value tail rest read_is in (tt, rw (← parts.0, ← parts.1) refl)
flag-taken (suc (suc more) ∷ tail) flag_value rest are_bytes read_is = absurd cc

pub flag_reader : IsReader IsAny flag flag_at
flag_reader = record { again = flag-again; taken = flag-taken }

-- ---- bytes and texts

pub split-again : (text rest : List ℕ) → split_after (length text) (text ++ rest) ≡ Some (text, rest)
split-again text rest =
    let long : ltb (length (text ++ rest)) (length text) ≡ false = le-ltb _ _ (omega (arith, length-append text rest)) in
    rw (long, take_at text rest (length text) refl, drop_at text rest (length text) refl) refl

pub bytes_reader : IsReader IsBlock block bytes_at
bytes_reader = record {
  again = λ text rest fits.
      ap bytes_at (append_assoc (number (length text)) text rest)
      ∙ rw (number-again (length text) (text ++ rest) fits.0) (split-again text rest);
  taken = λ bytes text rest are_bytes read_is.
      let counted = bind_some (number_at bytes) (λ count. split_after count.0 count.1) (text, rest) read_is in
      let count = counted.got.0 in
      let left = counted.got.1 in
      let front = take count left in
      let behind = drop count left in
      let count_taken = number-taken bytes count left are_bytes counted.got_is in
      let left_bytes : IsBytes left = IsBytes-after bytes (number count) left count_taken.1 are_bytes in
      let tested = guarded (ltb (length left) count) (Some (front, behind)) (text, rest) counted.next_is in
      let made : (List ℕ × List ℕ) = (front, behind) in
      let long : count ≤ length left = ltb-false _ _ tested.0 in
      let size : length front ≡ count = omega (arith, length-take count left) in
      let short : length front < 2 ^ 64 = rw size count_taken.0 in
      let body : bytes ≡ block front ++ behind =
      count_taken.1
      ∙ (ap (λ (any : List ℕ). number count ++ any) (sym (take-append-drop count left))
      ∙ (sym (append_assoc (number count) front behind)
      ∙ ap (λ (any : ℕ). (number any ++ front) ++ behind) (sym size))) in
      subst (λ (any : List ℕ × List ℕ). IsBlock any.0 × (bytes ≡ block any.0 ++ any.1)) (same_Some made (text, rest) tested.1)
      ((short, IsBytes-take count left left_bytes), body);
}

pub text_reader : IsReader IsText block text_at
text_reader = checked_reader IsBlock block bytes_at is_utf8 bytes_reader
