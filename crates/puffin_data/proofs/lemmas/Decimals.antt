-- Decimal numbers: the parser of std gives what `number_below` does, except that it takes a `+` in front (byte 43).
use Rattle.std.proofs.Common.{◌≡◌, ◌≢◌, ◌==◌, ℕ, ◌^◌, ◌<◌, ◌≤◌, List, [], ◌∷◌, get_or, Bool, true, false, Some, None, Result, Ok, Err, refl, arith, if◌then◌else◌}
use Rattle.std.specs.Option.{option_and_then}
use Rattle.std.specs.Result.{result_ok}
use Rattle.std.specs.Str.{all_ascii_digits}
use Rattle.std.specs.Str.Parse.{ParsesUnsigned, digits_value}
use Rattle.std.proofs.lemmas.Str.Parse.{IsNumeralModel, numerals_by_value, tells_all_ascii_digits, parse_plain}
use Rattle.std.proofs.lemmas.Bool.Decides.{nat_tests}
use Rattle.puffin_data.specs.Number.{if_below, number_below}

pub own : IsNumeralModel (λ digits. all_ascii_digits digits ≡ true) (digits_value 10)
own = numerals_by_value _ tells_all_ascii_digits

-- digits whose value is below the limit
pub number_given : (digits : Bool) (value limit number : ℕ) → digits ≡ true → value < limit → number ≡ value
    → Some number ≡ option_and_then (if_below limit) (if digits then Some value else None)
number_given digits value limit number are_digits small same = grind (arith, nat_tests)

-- no digits, or a greater value
pub number_refused : (digits : Bool) (value limit : ℕ) → ¬ ((digits ≡ true) × (value < limit))
    → None ≡ option_and_then (if_below limit) (if digits then Some value else None)
number_refused true value limit not_both =
    let big : limit ≤ value = omega (arith, λ (small : value < limit). not_both (refl, small)) in grind (arith, nat_tests)
number_refused false value limit not_both = refl

-- a word that doesn't begin with a `+`
pub number_read : {E : Type 0} (bits : ℕ) (word : List ℕ) (parsed : Result ℕ E) → ParsesUnsigned bits 10 word parsed
    → get_or word 0 0 ≢ 43 → result_ok parsed ≡ number_below (2 ^ bits) word
number_read {E} bits [] (Ok number) parses plain =
    absurd (let read = parse_plain own {E = E} bits [] (Ok number) parses plain in omega arith)
number_read {E} bits [] (Err e) parses plain = refl
number_read {E} bits (byte ∷ bytes) (Ok number) parses plain =
    let ((digits, some, small), is) = parse_plain own {E = E} bits (byte ∷ bytes) (Ok number) parses plain in
    number_given (all_ascii_digits (byte ∷ bytes)) _ _ number digits small is
number_read {E} bits (byte ∷ bytes) (Err e) parses plain =
    number_refused (all_ascii_digits (byte ∷ bytes)) _ _
    (λ (digits, small). parse_plain own {E = E} bits (byte ∷ bytes) (Err e) parses plain (digits, omega arith, small))

pub is_not_plus : (byte : ℕ) → false ≡ (byte == 43) → byte ≢ 43
is_not_plus byte no_plus = grind (arith, nat_tests)
