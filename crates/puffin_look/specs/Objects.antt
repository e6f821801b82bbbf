-- The rows of lists as objects in JSON.
use Rattle.std.specs.Prelude.{ℕ, ◌*◌, ◌/◌, ◌%◌, ◌^◌, zero, suc, ℤ, pos, ◌-ℤ◌, unsigned_abs, Bool, true, false, nat_lt, List, [], ◌∷◌, ◌++◌, codes, Option, Some, None, if◌then◌else◌}
use Rattle.std.specs.Fmt.{decimal, signed_decimal}
use Rattle.std.specs.List.{flat_map}
use Rattle.std.specs.Str.{encode_utf8_all}
use Rattle.bstr.specs.Utf8.{lossy_chars}
use Rattle.json.specs.Token.{Token, begin_object, end_object, key, string, number, null}
use Rattle.json.specs.Print.{print}
use Rattle.puffin_look.specs.Cells.{Cell, Name, distance, row_line}
use Rattle.puffin_look.specs.declared.lines.Form.{Form}
use Rattle.puffin_look.specs.declared.lines.Form.TheVariants.{Table, Json}
use Rattle.puffin_look.specs.declared.rows.Value.{Value}
use Rattle.puffin_look.specs.declared.rows.Value.TheVariants.{Number, Moment, Offset, Hundredths, Time, Share, Change, Growth}

-- a number, or a string of its digits if it is too great for the doubles that most readers have
abbrev pub exact_token : ℕ → List ℕ → Token
exact_token size digits = if nat_lt (2 ^ 53) size then string digits else number digits

abbrev pub integer_token : ℤ → Token
integer_token integer = exact_token (unsigned_abs integer) (signed_decimal integer)

abbrev pub minus : Bool → List ℕ
minus true = codes "-"
minus false = []

-- with one digit behind the point
abbrev pub tenths : ℕ → List ℕ
tenths count = decimal (count / 10) ++ (codes "." ++ decimal (count % 10))

abbrev pub tenths_token : Bool → ℕ → Token
tenths_token is_negative count = exact_token (count / 10) (minus is_negative ++ tenths count)

-- with two
abbrev pub hundredths : ℕ → List ℕ
hundredths count =
    decimal (count / 100) ++ (codes "." ++ (decimal (count / 10 % 10) ++ decimal (count % 10)))

abbrev pub hundredths_token : ℕ → Token
hundredths_token count = exact_token (count / 100) (hundredths count)

-- in percent; of nothing there is no share
abbrev pub share_token : ℕ → ℕ → Token
share_token part zero = null
share_token part (suc whole) = tenths_token false (part * 1000 / suc whole)

abbrev pub growth_token : ℕ → ℕ → Token
growth_token zero new = null
growth_token (suc old) new =
    tenths_token (nat_lt new (suc old)) (distance (suc old) new * 1000 / suc old)

abbrev pub value_token : Value → Token
value_token (Number count) = integer_token (pos count)
value_token (Moment time) = integer_token time
value_token (Offset from to) = integer_token (to -ℤ from)
value_token (Hundredths (Some count)) = hundredths_token count
value_token (Hundredths None) = null
value_token (Time (Some time)) = integer_token (pos time)
value_token (Time None) = null
value_token (Share part whole) = share_token part whole
value_token (Change old new) = integer_token (pos new -ℤ pos old)
value_token (Growth old new) = growth_token old new

-- ---- an object

abbrev pub member_tokens : Cell → List Token
member_tokens cell = key cell.0 ∷ value_token cell.1 ∷ []

-- bytes as text, with U+FFFD for those that are no UTF-8
abbrev pub lossy : List ℕ → List ℕ
lossy bytes = encode_utf8_all (lossy_chars bytes)

abbrev pub name_tokens : Option Name → List Token
name_tokens None = []
name_tokens (Some name) = key name.0 ∷ string (lossy name.1) ∷ []

abbrev pub row_tokens : List Cell → Option Name → List Token
row_tokens cells name =
    begin_object ∷ (flat_map member_tokens cells ++ (name_tokens name ++ end_object ∷ []))

abbrev pub row_object : List Cell → Option Name → List ℕ
row_object cells name = print (row_tokens cells name)

-- ---- a row in one of two forms

abbrev pub row_text : Form → List Cell → Option Name → List ℕ
row_text Table cells name = row_line cells name
row_text Json cells name = row_object cells name
