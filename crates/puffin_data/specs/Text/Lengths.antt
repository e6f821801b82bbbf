-- The length of a text in each form: its layout, its limits, and how it is read.
use Rattle.std.specs.Prelude.{ℕ, ◌+◌, ◌-◌, ◌*◌, ◌/◌, ◌%◌, List, [], ◌∷◌, ◌++◌, length, nat_lt, nat_le, ◌==◌, ◌||◌, if◌then◌else◌, Result, Ok, Err}
use Rattle.puffin_data.specs.declared.error.Error.{Error}
use Rattle.puffin_data.specs.declared.error.Error.TheVariants.{PrematureEnd, InvalidStream}
use Rattle.puffin_data.specs.declared.data.form.Form.{Form}
use Rattle.puffin_data.specs.declared.data.form.Form.TheVariants.{Short, Long}

-- the greatest length that one group of 7 bits encodes
abbrev pub one_group_limit : ℕ
one_group_limit = 127

-- the greatest length that two groups encode
abbrev pub two_groups_limit : ℕ
two_groups_limit = 16383

-- the maximum number of bytes of a stored text that is read
abbrev pub stored_limit : Form → ℕ
stored_limit Short = 255
stored_limit Long = two_groups_limit

-- the maximum number of bytes of a text that is written
abbrev pub text_limit : Form → ℕ
text_limit Short = one_group_limit
text_limit Long = two_groups_limit

-- The length of a text as bytes: one byte; or 7 bits in each byte, the lowest first, with 128 added to a byte that is followed by
-- another.
unfoldable pub length_layout : Form → (size : ℕ) → List ℕ
length_layout Short size = size ∷ []
length_layout Long size =
    if nat_lt size 128 then size ∷ [] else (128 + size % 128) ∷ (size / 128) ∷ []

-- a text's length, and the text
abbrev pub text_layout : Form → List ℕ → List ℕ
text_layout form text = length_layout form (length text) ++ text

-- A length whose first byte holds the 7 bits `low`, and whose second is first in these bytes. The second must not be 0 or indicate
-- that a third follows.
abbrev pub with_second_group : (low : ℕ) → List ℕ → Result (ℕ × ℕ) Error
with_second_group low [] = Err PrematureEnd
with_second_group low (high ∷ rest) =
    if (high == 0) || nat_le 128 high then Err InvalidStream else Ok (low + 128 * high, 2)

-- the length at the front of a region, with the number of bytes that it takes; or the fault
unfoldable pub length_at : Form → List ℕ → Result (ℕ × ℕ) Error
length_at form [] = Err PrematureEnd
length_at Short (low ∷ rest) = Ok (low, 1)
length_at Long (low ∷ rest) =
    if nat_lt low 128 then Ok (low, 1) else with_second_group (low - 128) rest

-- the length and the number of bytes that it takes, or (0, 1) for a fault
abbrev pub length_or_none : Result (ℕ × ℕ) Error → ℕ × ℕ
length_or_none (Ok read) = read
length_or_none (Err fault) = (0, 1)

-- the number of bytes that a text takes with its length
abbrev pub text_room : Form → List ℕ → ℕ
text_room form text = length (length_layout form (length text)) + length text
