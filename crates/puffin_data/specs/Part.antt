-- Reading parts at the front of bytes that may end too early.
use Rattle.std.specs.Prelude.{ℕ, List, length, take, drop, slice_index, Result, Ok, Err, nat_lt, if◌then◌else◌}
use Rattle.byteorder.specs.Endian.{little_number}
use Rattle.puffin_data.specs.declared.file_error.FileError.{FileError}
use Rattle.puffin_data.specs.declared.file_error.FileError.TheVariants as file

-- A reading gives a pair, what it read (`.0`) and the bytes after it (`.1`), or a fault.

-- what the second reading gives on the first one's result, or the first one's fault
infixl 10 ◌>>=◌
abbrev pub ◌>>=◌ : {A B : Type 0} → Result A FileError → (A → Result B FileError) →
    Result B FileError
(Ok value) >>= next = next value
(Err fault) >>= next = Err fault

-- the first `count` bytes
abbrev pub part_of : (count : ℕ) → List ℕ → Result (List ℕ × List ℕ) FileError
part_of count bytes =
    if nat_lt (length bytes) count then Err file.Truncated
    else Ok (take count bytes, drop count bytes)

-- one byte
abbrev pub first_at : List ℕ → Result (ℕ × List ℕ) FileError
first_at bytes = do
  one ← part_of 1 bytes
  Ok (slice_index one.0 0, one.1)

-- four bytes, as a little-endian number
abbrev pub part_length_at : List ℕ → Result (ℕ × List ℕ) FileError
part_length_at bytes = do
  four ← part_of 4 bytes
  Ok (little_number 4 four.0, four.1)

-- a length, and that many bytes
abbrev pub counted_part_at : List ℕ → Result (List ℕ × List ℕ) FileError
counted_part_at bytes = do
  count ← part_length_at bytes
  part_of count.0 count.1
