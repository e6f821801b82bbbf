-- The layouts of values: numbers, flags, options, texts, lists. Numbers are little-endian.
use Rattle.std.specs.Prelude.{◌≡◌, ℕ, ◌+◌, ◌*◌, ◌<◌, ◌^◌, ◌↔◌, ℤ, pos, negsuc, FitsSigned, Bool, true, List, [], ◌∷◌, ◌++◌, length, get_or, Option, Some, None, nat_lt, if◌then◌else◌}
use Rattle.std.specs.List.{flat_map, AllByRecursion}
use Rattle.std.specs.Int.{w64}
use Rattle.std.specs.Str.{is_utf8}
use Rattle.byteorder.specs.Endian.{little_bytes}

-- each number of the list is a byte
abbrev pub IsBytes : List ℕ → Type 0
IsBytes bytes = (index : ℕ) → get_or bytes index 0 < 256

-- ---- numbers, texts and lists

-- a number less than 256
abbrev pub byte : ℕ → List ℕ
byte value = value ∷ []

-- the byte before a number of two bytes; a number less than this is itself stored as one byte
abbrev pub two_bytes_mark : ℕ
two_bytes_mark = 251

-- the byte before a number of four bytes
abbrev pub four_bytes_mark : ℕ
four_bytes_mark = 252

-- the byte before a number of eight bytes
abbrev pub eight_bytes_mark : ℕ
eight_bytes_mark = 253

-- a number of up to 64 bits, in its shortest layout
unfoldable pub number : ℕ → List ℕ
number value =
    if nat_lt value two_bytes_mark then value ∷ []
    else if nat_lt value (2 ^ 16) then two_bytes_mark ∷ little_bytes 2 value
    else if nat_lt value (2 ^ 32) then four_bytes_mark ∷ little_bytes 4 value
    else eight_bytes_mark ∷ little_bytes 8 value

-- a signed number, folded: 0, -1, 1, -2 as 0, 1, 2, 3
abbrev pub zigzag : ℤ → ℕ
zigzag (pos value) = 2 * value
zigzag (negsuc value) = 2 * value + 1

-- a signed number
abbrev pub signed : ℤ → List ℕ
signed value = number (zigzag value)

-- whether a value follows
abbrev pub flag : Bool → List ℕ
flag follows = (if follows then 1 else 0) ∷ []

-- a value that may be absent: a flag, and the value if there is one
abbrev pub optional : {A : Type 0} → (layout : A → List ℕ) → Option A → List ℕ
optional layout None = 0 ∷ []
optional layout (Some value) = 1 ∷ layout value

-- the length of some bytes or of a text, followed by them
abbrev pub block : List ℕ → List ℕ
block bytes = number (length bytes) ++ bytes

-- one value after the other
abbrev pub pair : {A B : Type 0} → (first : A → List ℕ) → (second : B → List ℕ) → A × B → List ℕ
pair first second both = first both.0 ++ second both.1

-- The number of a list's items, and the items; a map is the list of its pairs.
abbrev pub items : {A : Type 0} → (layout : A → List ℕ) → List A → List ℕ
items layout values = number (length values) ++ flat_map layout values

-- ---- which values have a layout

-- a number of 8 bits
abbrev pub IsByte : ℕ → Type 0
IsByte value = value < 256

-- a number of 32 bits
abbrev pub IsU32 : ℕ → Type 0
IsU32 value = value < 2 ^ 32

-- a number of 64 bits
abbrev pub IsLong : ℕ → Type 0
IsLong value = value < 2 ^ 64

-- a signed number of 64 bits
abbrev pub IsSigned : ℤ → Type 0
IsSigned value = FitsSigned w64 value

-- bytes whose number fits 64 bits
abbrev pub IsBlock : List ℕ → Type 0
IsBlock bytes = (length bytes < 2 ^ 64) × IsBytes bytes

-- such bytes that are UTF-8
abbrev pub IsText : List ℕ → Type 0
IsText bytes = IsBlock bytes × (is_utf8 bytes ≡ true)

-- no value, or one that has a layout
abbrev pub IfAny : {A : Type 0} → (fits : A → Type 0) → Option A → Type 0
IfAny fits None = Unit {0}
IfAny fits (Some value) = fits value

-- values that have a layout, and whose number fits 64 bits
abbrev pub AreItems : {A : Type 0} → (fits : A → Type 0) → List A → Type 0
AreItems fits values = (length values < 2 ^ 64) × AllByRecursion fits values

-- every value of the type
abbrev pub IsAny : {A : Type 0} → A → Type 0
IsAny value = Unit {0}

-- ---- what layouts and readings promise

-- if two different values have a layout, neither layout is a prefix of the other
abbrev pub NoneBeginsAnother : {A : Type 0} → (fits : A → Type 0) → (layout : A → List ℕ) → Type 0
NoneBeginsAnother {A = A} fits layout =
    (one other : A) (rest other_rest : List ℕ) → fits one → fits other →
    layout one ++ rest ≡ layout other ++ other_rest → (one ≡ other) × (rest ≡ other_rest)

-- A reading reads exactly the layouts: it gives a value and a rest if and only if the bytes are the value's layout followed by
-- that rest.
abbrev pub ReadsLayouts : {A : Type 0} → (fits : A → Type 0) → (layout : A → List ℕ) →
    (read : List ℕ → Option (A × List ℕ)) → Type 0
ReadsLayouts {A = A} fits layout read =
    (bytes : List ℕ) (value : A) (rest : List ℕ) → IsBytes bytes →
    (read bytes ≡ Some (value, rest)) ↔ (fits value × (bytes ≡ layout value ++ rest))
