-- Profiled scopes as a forest, and which forests can be written.
pub mod Measures
pub mod Spelling
pub mod Tour
pub mod Words
pub mod Open
use Rattle.std.specs.Prelude.{ℕ, ◌<◌, ◌≤◌, ◌^◌, ℤ, ◌-ℤ◌, ◌≤ℤ◌, FitsSigned, List, length}
use Rattle.std.specs.List.{All}
use Rattle.std.specs.Int.{w64}
use Rattle.puffin_data.specs.declared.data.form.Form.{Form}
use Rattle.puffin_data.specs.Text.Lengths.{stored_limit}

-- one scope without its children; the text is the stored bytes
pub record Span : Type 0 where
  pub id : ℕ
  pub start : ℤ
  pub stop : ℤ
  pub text : List ℕ

-- Scopes one after the other, each with its children: no scope, or a first scope, the forest of its children, and the scopes that
-- follow it.
pub data Forest : Type 0 where
  empty : Forest
  node : (first : Span) → (children : Forest) → (others : Forest) → Forest

-- the scopes of two forests, one after the other
abbrev pub append : (front : Forest) → (back : Forest) → Forest
append empty back = back
append (node first children others) back = node first children (append others back)

-- A scope that can be written: its id is a u32 other than 0, its times and its duration fit i64, and its text fits the form.
pub record IsSpan (form : Form) (span : Span) : Type 0 where
  pub id_low : 0 < span.id
  pub id_high : span.id < 2 ^ 32
  pub start : FitsSigned w64 span.start
  pub stop : FitsSigned w64 span.stop
  pub ordered : span.start ≤ℤ span.stop
  pub duration : FitsSigned w64 (span.stop -ℤ span.start)
  pub text_size : length span.text ≤ stored_limit form
  pub text_bytes : All (λ byte. byte < 256) span.text

-- each scope of the forest can be written
abbrev pub IsForest : Form → Forest → Type 0
IsForest form empty = Unit {0}
IsForest form (node first children others) =
    IsSpan form first × IsForest form children × IsForest form others
