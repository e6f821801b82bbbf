-- Streams with scopes that are begun and not yet ended.
use Rattle.std.specs.Prelude.{ℕ, ◌+◌, ◌-◌, ◌^◌, ◌<◌, ◌≤◌, ℤ, FitsSigned, List, [], ◌∷◌, ◌++◌, length, take, drop}
use Rattle.byteorder.specs.Endian.{little_bytes}
use Rattle.std.specs.List.{All}
use Rattle.std.specs.Int.{w64}
use Rattle.puffin_data.specs.declared.data.form.Form.{Form}
use Rattle.puffin_data.specs.Text.Lengths.{stored_limit}
use Rattle.puffin_data.specs.Forest.{Forest, IsForest, empty, node, append}
use Rattle.puffin_data.specs.Forest.Spelling.{spelling, begin_bytes, end_bytes, size_offset}
use Rattle.puffin_data.specs.Forest.Tour.{Event, Open, tour}

-- The bytes after the scope whose size is at `place` has ended: the size is overwritten with the number of bytes after it, and the
-- end is appended.
abbrev pub ended_bytes : (bytes : List ℕ) → (place : ℕ) → (stop : ℤ) → List ℕ
ended_bytes bytes place stop =
    (take place bytes ++ (little_bytes 8 (length bytes - (place + 8)) ++ drop (place + 8) bytes))
    ++ end_bytes stop

-- An open scope, and the closed scopes before it within the same parent. The size of its children isn't known yet: `size` is the
-- number that stands in its place.
pub record Opened : Type 0 where
  pub before : Forest
  pub id : ℕ
  pub start : ℤ
  pub text : List ℕ
  pub size : ℕ

-- The bytes up to the children of the innermost open scope, which is the first in the list.
abbrev pub opening_bytes : Form → List Opened → List ℕ
opening_bytes form [] = []
opening_bytes form (innermost ∷ outer) =
    opening_bytes form outer
    ++ (spelling form innermost.before
    ++ begin_bytes form innermost.id innermost.start innermost.text innermost.size)

-- the bytes of a stream with these open scopes, and with these closed ones within the innermost
abbrev pub open_spelling : Form → (open_scopes : List Opened) → (closed : Forest) → List ℕ
open_spelling form open_scopes closed =
    opening_bytes form open_scopes ++ spelling form closed

-- the offset of the innermost open scope's size
abbrev pub size_place : Form → (innermost : Opened) → (outer : List Opened) → ℕ
size_place form innermost outer =
    length (opening_bytes form outer ++ spelling form innermost.before)
    + size_offset form innermost.text

-- What a scope leaves once it has ended: the closed scopes before it, and then itself around `closed`, the scopes within it.
abbrev pub with_ended : Opened → (closed : Forest) → (stop : ℤ) → Forest
with_ended scope closed stop =
    append scope.before (
    node (record { id = scope.id; start = scope.start; stop = stop; text = scope.text }) closed
    empty)

-- the events up to the children of the innermost open scope
abbrev pub opening_word : List Opened → List Event
opening_word [] = []
opening_word (innermost ∷ outer) =
    opening_word outer
    ++ (tour innermost.before ++ (Open innermost.id innermost.text innermost.start ∷ []))

-- the events of the stream that `open_spelling` gives
abbrev pub open_word : (open_scopes : List Opened) → (closed : Forest) → List Event
open_word open_scopes closed = opening_word open_scopes ++ tour closed

-- an open scope that can be written, and so can the closed scopes before it
pub record IsOpened (form : Form) (scope : Opened) : Type 0 where
  pub before : IsForest form scope.before
  pub id_low : 0 < scope.id
  pub id_high : scope.id < 2 ^ 32
  pub start : FitsSigned w64 scope.start
  pub text_size : length scope.text ≤ stored_limit form
  pub text_bytes : All (λ byte. byte < 256) scope.text
