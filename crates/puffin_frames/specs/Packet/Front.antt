-- Reading at the front of a reader's bytes: the next frame, the end, or a fault.
use Rattle.std.specs.Prelude.{◌≡◌, ℕ, Bool, ◌||◌, ◌⊎◌, List, [], length, take, drop, Option, None, Result, Ok, nat_lt, ◌==◌, if◌then◌else◌}
use Rattle.std.specs.Io.KnownBytes.{Consumes, IsAtEnd}
use Rattle.byteorder.specs.Endian.{little_number}
use Rattle.puffin_data.specs.declared.file_error.FileError.{FileError}
use Rattle.puffin_frames.specs.Packet.Stored.{Stored}
use Rattle.puffin_frames.specs.Packet.Versions.{stored_after}

-- whether bytes are read as the end: fewer than four bytes, or four zeros
abbrev pub is_end : List ℕ → Bool
is_end bytes = nat_lt (length bytes) 4 || (little_number 4 bytes == 0)

-- The next frame and the bytes after it; none at the end; or the first fault.
unfoldable pub next_at : List ℕ → Result (Option Stored × List ℕ) FileError
next_at bytes =
    if is_end bytes then Ok (None, drop 4 bytes)
    else stored_after (take 4 bytes) (drop 4 bytes)

-- The reader is at its end: it took four bytes that are read as the end, whatever follows, or the last bytes, fewer than four.
pub record AtEnd (old new : Option (List ℕ)) : Type 0 where
  pub taken : List ℕ
  pub consumed : Consumes old new taken
  pub none : next_at taken ≡ Ok (None, [])
  pub last : (length taken ≡ 4) ⊎ IsAtEnd new
