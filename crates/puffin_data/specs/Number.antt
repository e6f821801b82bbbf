-- Decimal numbers in texts.
use Rattle.std.specs.Prelude.{ℕ, List, [], ◌∷◌, Option, Some, None, nat_lt, if◌then◌else◌}
use Rattle.std.specs.Option.{option_and_then}
use Rattle.std.specs.Str.{all_ascii_digits}
use Rattle.std.specs.Str.Parse.{digits_value}

-- a decimal number without a sign
abbrev pub number_in : List ℕ → Option ℕ
number_in [] = None
number_in (byte ∷ bytes) =
    if all_ascii_digits (byte ∷ bytes) then Some (digits_value 10 (byte ∷ bytes)) else None

-- the number, if it is below a limit
abbrev pub if_below : ℕ → ℕ → Option ℕ
if_below limit number = if nat_lt number limit then Some number else None

-- a decimal number without a sign, below a limit
abbrev pub number_below : ℕ → List ℕ → Option ℕ
number_below limit word = option_and_then (if_below limit) (number_in word)
