-- What beginning a scope does to a stream.
use Rattle.std.specs.Prelude.{◌≡◌, ℕ, ◌+◌, ◌≤◌, ℤ, List, ◌++◌, length}
use Rattle.puffin_data.specs.Forest.Spelling.{begin_bytes, head_size}
use Rattle.puffin_data.specs.Stream.{StreamState}

-- The beginning of a scope with this id, start, stored text and unfinished size was appended; the size is at `offset`.
pub record Begins (old new : StreamState) (id : ℕ) (start : ℤ) (text : List ℕ)
    (size offset : ℕ) : Type 0 where
  pub begun : new.bytes ≡ old.bytes ++ begin_bytes old.form id start text size
  pub place : offset + 8 ≡ length new.bytes
  pub form : new.form ≡ old.form
  pub room : old.room ≤ new.room + head_size old.form text
