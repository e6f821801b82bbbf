-- Reading a value at the front of bytes: the value and the bytes after it, or nothing.
use Rattle.std.specs.Prelude.{ℕ, zero, suc, ◌/◌, ◌%◌, ◌^◌, ℤ, pos, negsuc, Bool, true, false, List, [], ◌∷◌, length, take, drop, Option, Some, None, nat_lt, ◌==◌, if◌then◌else◌}
use Rattle.std.specs.Str.{is_utf8}
use Rattle.byteorder.specs.Endian.{little_number}
use Rattle.puffin_data.specs.Value.Layout.{two_bytes_mark, four_bytes_mark, eight_bytes_mark}

-- A reading gives a pair, the value (`.0`) and the bytes after it (`.1`), or nothing.

-- what the second reading gives on the first one's result, or nothing if the first gives nothing
infixl 10 ◌>>=◌
abbrev pub ◌>>=◌ : {A B : Type 0} → Option A → (A → Option B) → Option B
(Some value) >>= next = next value
None >>= next = None

-- what a reading gives if its value passes a test
abbrev pub with_test : {A : Type 0} → (A → Bool) → (List ℕ → Option (A × List ℕ)) → List ℕ →
    Option (A × List ℕ)
with_test test read bytes = do
  one ← read bytes
  if test one.0 then Some one else None

-- what a reading gives, with the value converted
abbrev pub seen_as : {A B : Type 0} → (A → B) → (List ℕ → Option (A × List ℕ)) → List ℕ →
    Option (B × List ℕ)
seen_as form read bytes = do
  one ← read bytes
  Some (form one.0, one.1)

-- ---- numbers, flags, bytes and texts

-- a byte
abbrev pub byte_at : List ℕ → Option (ℕ × List ℕ)
byte_at [] = None
byte_at (first ∷ rest) = Some (first, rest)

-- a number of `width` bytes that is at least `least`, so that it has no shorter layout
unfoldable pub wide_at : (width : ℕ) → (least : ℕ) → List ℕ → Option (ℕ × List ℕ)
wide_at width least bytes =
    if nat_lt (length bytes) width then None
    else if nat_lt (little_number width bytes) least then None
    else Some (little_number width bytes, drop width bytes)

-- the number whose first byte is `first`
unfoldable pub number_after : (first : ℕ) → (rest : List ℕ) → Option (ℕ × List ℕ)
number_after first rest =
    if nat_lt first two_bytes_mark then Some (first, rest)
    else if first == two_bytes_mark then wide_at 2 two_bytes_mark rest
    else if first == four_bytes_mark then wide_at 4 (2 ^ 16) rest
    else if first == eight_bytes_mark then wide_at 8 (2 ^ 32) rest
    else None

-- a number of 64 bits
abbrev pub number_at : List ℕ → Option (ℕ × List ℕ)
number_at [] = None
number_at (first ∷ rest) = number_after first rest

-- a number that fits 32 bits
abbrev pub u32_at : List ℕ → Option (ℕ × List ℕ)
u32_at = with_test (λ number. nat_lt number (2 ^ 32)) number_at

-- the signed number that is folded to this one: 0, 1, 2, 3 stand for 0, -1, 1, -2
abbrev pub unzigzag : (folded : ℕ) → ℤ
unzigzag folded = if folded % 2 == 0 then pos (folded / 2) else negsuc (folded / 2)

-- a signed number
abbrev pub signed_at : List ℕ → Option (ℤ × List ℕ)
signed_at = seen_as unzigzag number_at

-- a flag: a byte 0 or 1
abbrev pub flag_at : List ℕ → Option (Bool × List ℕ)
flag_at [] = None
flag_at (zero ∷ rest) = Some (false, rest)
flag_at (suc zero ∷ rest) = Some (true, rest)
flag_at (suc (suc more) ∷ rest) = None

-- the first `count` bytes
abbrev pub split_after : (count : ℕ) → List ℕ → Option (List ℕ × List ℕ)
split_after count bytes =
    if nat_lt (length bytes) count then None else Some (take count bytes, drop count bytes)

-- a number, and that many bytes
abbrev pub bytes_at : List ℕ → Option (List ℕ × List ℕ)
bytes_at bytes = do
  count ← number_at bytes
  split_after count.0 count.1

-- a number, and that many bytes, which must be UTF-8
abbrev pub text_at : List ℕ → Option (List ℕ × List ℕ)
text_at = with_test is_utf8 bytes_at

-- ---- options, pairs and lists, from readings of what they hold

-- the rest of an option after its flag, which shows whether a value follows
abbrev pub optional_after : {A : Type 0} → (List ℕ → Option (A × List ℕ)) → Bool → List ℕ →
    Option (Option A × List ℕ)
optional_after read false rest = Some (None, rest)
optional_after read true rest = do
  one ← read rest
  Some (Some one.0, one.1)

-- a flag, and a value if the flag is 1
abbrev pub optional_at : {A : Type 0} → (List ℕ → Option (A × List ℕ)) → List ℕ →
    Option (Option A × List ℕ)
optional_at read bytes = do
  flag ← flag_at bytes
  optional_after read flag.0 flag.1

-- one value after the other
abbrev pub pair_at : {A B : Type 0} → (List ℕ → Option (A × List ℕ)) →
    (List ℕ → Option (B × List ℕ)) → List ℕ → Option ((A × B) × List ℕ)
pair_at first second bytes = do
  one ← first bytes
  other ← second one.1
  Some ((one.0, other.0), other.1)

-- this many values, one after the other
abbrev pub times_at : {A : Type 0} → (List ℕ → Option (A × List ℕ)) → ℕ → List ℕ →
    Option (List A × List ℕ)
times_at read zero bytes = Some ([], bytes)
times_at read (suc count) bytes = do
  first ← read bytes
  others ← times_at read count first.1
  Some (first.0 ∷ others.0, others.1)

-- a number, and that many values
abbrev pub items_at : {A : Type 0} → (List ℕ → Option (A × List ℕ)) → List ℕ →
    Option (List A × List ℕ)
items_at read bytes = do
  count ← number_at bytes
  times_at read count.0 count.1

-- the value, if it takes all of the bytes
abbrev pub whole : {A : Type 0} → (List ℕ → Option (A × List ℕ)) → List ℕ → Option A
whole read bytes = do
  one ← read bytes
  if length one.1 == 0 then Some one.0 else None
