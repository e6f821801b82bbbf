-- What is written of numbers are numbers of JSON.
--
-- JSON's `after_number` takes a text part by part: a minus, the whole part, the fraction behind the point, and the exponent. A decimal
-- number begins with no needless zero, so `after_whole` takes exactly its digits. The digits behind the point are the last bytes of
-- the text, so nothing is left.
use Rattle.std.proofs.Common.{◌≡◌, ℕ, zero, suc, ◌+◌, ◌/◌, ◌%◌, ℤ, pos, negsuc, Bool, subst, ◌^◌, ◌<◌, ◌≤◌, true, false, cond, ◌==◌, List, [], ◌∷◌, ◌++◌, length, drop, get_or, Some, option_and_then, None, decimal, refl, ap, ap₂, sym, ◌∙◌, arith}
use Rattle.std.proofs.lemmas.Bool.{ne_eqb, le-leb, and_from}
use Rattle.std.proofs.lemmas.Fmt.{decimal_is_IsNumeral, decimal_digit, first_decimal}
use Rattle.std.proofs.lemmas.Str.Parse.{digit_at}
use Rattle.std.specs.List.{prefix_len}
use Rattle.std.specs.Char.{is_ascii_digit}
use Rattle.json.specs.Ascii as ascii
use Rattle.json.specs.Word.{head, after_digits, after_whole, after_fraction, after_exponent, after_number}
use Rattle.json.specs.Print.{IsNumber}
use Rattle.puffin_look.specs.Objects.{minus, tenths, hundredths}
use Rattle.json.proofs.Printed.Decimals.{IsNumber-decimal, IsNumber-signed_decimal}
use Rattle.std.specs.Prelude.{unsigned_abs}
use Rattle.std.specs.Fmt.{signed_decimal}

-- the byte of the digit 9, the last one
abbrev nine : ℕ
nine = 57

-- a byte from `0` to `9` is a digit
is_digit : (byte : ℕ) → ascii.zero ≤ byte → byte ≤ nine → is_ascii_digit byte ≡ true
is_digit byte from to = and_from _ _ (le-leb ascii.zero byte from) (le-leb byte nine to)

-- digits are all that a text begins with, if what follows them begins with no digit
digits_before : (digits rest : List ℕ)
    → ((i : ℕ) → i < length digits → (ascii.zero ≤ get_or digits i 0) × (get_or digits i 0 ≤ nine))
    → prefix_len is_ascii_digit rest ≡ 0 → prefix_len is_ascii_digit (digits ++ rest) ≡ length digits
digits_before [] rest bounds none = none
digits_before (first ∷ digits) rest bounds none =
    let (from, to) = bounds 0 (omega arith) in
    let more = digits_before digits rest (λ i within. bounds (suc i) (omega arith)) none in
    ap (λ is. cond is (1 + prefix_len is_ascii_digit (digits ++ rest)) 0) (is_digit first from to) ∙ omega arith

-- what is behind digits is left when as many bytes are dropped
drop_front : (digits rest : List ℕ) → drop (length digits) (digits ++ rest) ≡ rest
drop_front [] rest = refl
drop_front (first ∷ digits) rest = drop_front digits rest

-- digits without a zero in front are a whole part
whole_before : (digits rest : List ℕ) → ascii.zero < get_or digits 0 0
    → prefix_len is_ascii_digit (digits ++ rest) ≡ length digits → after_whole (digits ++ rest) ≡ Some rest
whole_before [] rest above all = absurd (omega arith)
whole_before (first ∷ digits) rest above all =
    rw (ne_eqb first ascii.zero (λ e. omega arith), all, ne_eqb (suc (length digits)) 0 (λ e. omega arith))
    (ap Some (drop_front digits rest))

-- digits don't begin with a minus
no_minus_before : (digits rest : List ℕ) → ascii.zero < get_or digits 0 0 → (head (digits ++ rest) == ascii.minus) ≡ false
no_minus_before [] rest above = absurd (omega arith)
no_minus_before (first ∷ digits) rest above = ne_eqb first ascii.minus (λ e. omega arith)

-- a decimal number is a whole part
decimal_whole : (n : ℕ) (rest : List ℕ) → n < 2 ^ 64 → prefix_len is_ascii_digit rest ≡ 0
    → after_whole (decimal n ++ rest) ≡ Some rest
decimal_whole zero rest small none = ap (λ digits. after_whole (digits ++ rest)) (decimal_digit 0 (omega arith))
decimal_whole (suc n) rest small none =
    let ((not_empty, are_digits), value) = decimal_is_IsNumeral (suc n) small in
    whole_before (decimal (suc n)) rest (first_decimal (suc n) (omega arith) small)
    (digits_before _ rest (λ i within. digit_at _ i are_digits within) none)

-- a decimal number begins with no minus
decimal_no_minus : (n : ℕ) (rest : List ℕ) → n < 2 ^ 64 → (head (decimal n ++ rest) == ascii.minus) ≡ false
decimal_no_minus zero rest small = ap (λ digits. head (digits ++ rest) == ascii.minus) (decimal_digit 0 (omega arith))
decimal_no_minus (suc n) rest small = no_minus_before (decimal (suc n)) rest (first_decimal (suc n) (omega arith) small)

-- a byte of a digit
abbrev digit : ℕ → ℕ
digit n = ascii.zero + n

-- it is found to be one
digit_is : (n : ℕ) → n < 10 → is_ascii_digit (digit n) ≡ true
digit_is n small = is_digit (digit n) (omega arith) (omega arith)

-- one digit at the end of a text leaves nothing
after_one : (byte : ℕ) → is_ascii_digit byte ≡ true → after_digits (byte ∷ []) ≡ Some []
after_one byte byte_is = ap (λ b. cond (cond b (1 + 0) 0 == 0) None (Some (drop (cond b (1 + 0) 0) (byte ∷ [])))) byte_is

-- nor do two
after_two : (first second : ℕ) → is_ascii_digit first ≡ true → is_ascii_digit second ≡ true
    → after_digits (first ∷ second ∷ []) ≡ Some []
after_two first second first_is second_is =
    ap₂ (λ b c. cond (cond b (1 + cond c (1 + 0) 0) 0 == 0) None
    (Some (drop (cond b (1 + cond c (1 + 0) 0) 0) (first ∷ second ∷ [])))) first_is second_is

-- a decimal number, a point and digits are a number
fraction_number : (n : ℕ) (digits : List ℕ) → n < 2 ^ 64 → after_digits digits ≡ Some []
    → IsNumber (decimal n ++ ascii.dot ∷ digits)
unfolding after_number
fraction_number n digits small last =
    let text : List ℕ = decimal n ++ ascii.dot ∷ digits in
    ap (λ left. option_and_then after_exponent (option_and_then after_fraction left))
    (ap (λ is_minus. after_whole (cond is_minus (drop 1 text) text)) (decimal_no_minus n (ascii.dot ∷ digits) small)
    ∙ decimal_whole n (ascii.dot ∷ digits) small refl)
    ∙ ap (option_and_then after_exponent) last

-- and so they are behind a minus
negative_number : (n : ℕ) (digits : List ℕ) → n < 2 ^ 64 → after_digits digits ≡ Some []
    → IsNumber (ascii.minus ∷ (decimal n ++ ascii.dot ∷ digits))
unfolding after_number
negative_number n digits small last =
    ap (λ left. option_and_then after_exponent (option_and_then after_fraction left))
    (decimal_whole n (ascii.dot ∷ digits) small refl)
    ∙ ap (option_and_then after_exponent) last

-- ---- what is written

-- tenths, with or without a minus
pub tenths_number : (negative : Bool) (n : ℕ) → n / 10 ≤ 2 ^ 53 → IsNumber (minus negative ++ tenths n)
tenths_number negative n exact =
    let small : n % 10 < 10 = omega arith in
    let last = decimal_digit (n % 10) small in
    let none_left = after_one (digit (n % 10)) (digit_is (n % 10) small) in
    subst (λ (digits : List ℕ). IsNumber (minus negative ++ (decimal (n / 10) ++ ascii.dot ∷ digits))) (sym last)
    (elim negative as (λ b. IsNumber (minus b ++ (decimal (n / 10) ++ ascii.dot ∷ digit (n % 10) ∷ []))) [
      | true ↦ negative_number (n / 10) (digit (n % 10) ∷ []) (omega arith) none_left
      | false ↦ fraction_number (n / 10) (digit (n % 10) ∷ []) (omega arith) none_left
    ])

-- hundredths
pub hundredths_number : (n : ℕ) → n / 100 ≤ 2 ^ 53 → IsNumber (hundredths n)
hundredths_number n exact =
    let first_small : n / 10 % 10 < 10 = omega arith in
    let last_small : n % 10 < 10 = omega arith in
    let none_left = after_two (digit (n / 10 % 10)) (digit (n % 10))
    (digit_is (n / 10 % 10) first_small) (digit_is (n % 10) last_small) in
    subst (λ (digits : List ℕ). IsNumber (decimal (n / 100) ++ ascii.dot ∷ digits))
    (sym (λ i. decimal_digit (n / 10 % 10) first_small i ++ decimal_digit (n % 10) last_small i))
    (fraction_number (n / 100) (digit (n / 10 % 10) ∷ digit (n % 10) ∷ []) (omega arith) none_left)

-- integers
pub integer_number : (z : ℤ) → unsigned_abs z ≤ 2 ^ 53 → IsNumber (signed_decimal z)
integer_number (pos n) exact = IsNumber-decimal n (omega arith)
integer_number (negsuc n) exact = IsNumber-signed_decimal (negsuc n) (omega arith)
