-- Reading one scope after another, without their children, up to a place where none begins.
pub mod ReadScopes
use Rattle.std.specs.Prelude.{◌≡◌, ℕ, ◌+◌, ℤ, ◌-ℤ◌, List, [], ◌∷◌, length, Option, Some, None, Result, Ok, Err}
use Rattle.puffin_data.specs.declared.error.Error.{Error}
use Rattle.puffin_data.specs.declared.data.form.Form.{Form}
use Rattle.puffin_data.specs.Forest.{Forest, empty, node}
use Rattle.puffin_data.specs.Forest.Spelling.{spelling, end_size, head_size}
use Rattle.puffin_data.specs.Text.{text_in}
use Rattle.puffin_data.specs.Walk.Reading.{FoundScope, reading}
use Rattle.puffin_data.specs.Walk.{region}

-- a scope as a reader returns it: with the text of its stored bytes, and places as offsets from the stream's first byte
pub record ReadScope : Type 0 where
  pub id : ℕ
  pub start : ℤ
  pub duration : ℤ
  pub text : List ℕ
  pub child_begin : ℕ
  pub child_end : ℕ
  pub next_sibling : ℕ

-- the sound scope that was found at this place
abbrev pub read_scope : (place : ℕ) → FoundScope → ReadScope
read_scope place found = record {
  id = found.span.id;
  start = found.span.start;
  duration = found.span.stop -ℤ found.span.start;
  text = text_in found.span.text;
  child_begin = place + found.child_begin;
  child_end = place + found.child_end;
  next_sibling = place + found.next_sibling;
}

-- a reading at this place, with its scope, if any, as a reader returns it
abbrev pub read_from : (place : ℕ) → Result (Option FoundScope) Error →
    Result (Option ReadScope) Error
read_from place (Ok None) = Ok None
read_from place (Ok (Some found)) = Ok (Some (read_scope place found))
read_from place (Err fault) = Err fault

-- what is at a place of the region that ends at `end`: no scope, a sound scope or a fault
abbrev pub scope_read : Form → (bytes : List ℕ) → (place : ℕ) → (end : ℕ) →
    Result (Option ReadScope) Error
scope_read form bytes place end = read_from place (reading form (region bytes place end))

-- a reader's place `at` in a stream's bytes, and the stream's form
pub record ReaderState : Type 0 where
  pub form : Form
  pub bytes : List ℕ
  pub at : ℕ

-- What a reader returns next and its place afterwards, from what is at its place. After a scope it moves to the next sibling, after a
-- fault to the end of all bytes.
abbrev pub next_after : ReaderState → Result (Option ReadScope) Error →
    Option (Result ReadScope Error) × ℕ
next_after from (Ok None) = (None, from.at)
next_after from (Ok (Some scope)) = (Some (Ok scope), scope.next_sibling)
next_after from (Err fault) = (Some (Err fault), length from.bytes)

-- what a reader in this state returns next, and its place afterwards
abbrev pub next_read : ReaderState → Option (Result ReadScope Error) × ℕ
next_read from = next_after from (scope_read from.form from.bytes from.at (length from.bytes))

-- All that a reader returns from a place on: the sound scopes one after the other, and then the fault, if there is one.
pub data ReaderGives (form : Form) (bytes : List ℕ) :
    (place : ℕ) → (items : List (Result ReadScope Error)) → Type 0 where
  ends : {place : ℕ} → scope_read form bytes place (length bytes) ≡ Ok None →
      ReaderGives form bytes place []
  stops : {place : ℕ} {fault : Error} → scope_read form bytes place (length bytes) ≡ Err fault →
      ReaderGives form bytes place (Err fault ∷ [])
  goes_on : {place : ℕ} {scope : ReadScope} {later : List (Result ReadScope Error)} →
      scope_read form bytes place (length bytes) ≡ Ok (Some scope) →
      ReaderGives form bytes scope.next_sibling later →
      ReaderGives form bytes place (Ok scope ∷ later)

-- the number of a scope's bytes up to the end of its children
abbrev pub inner_size : Form → (text : List ℕ) → (children : Forest) → ℕ
inner_size form text children = head_size form text + length (spelling form children)

-- the top-level scopes of a forest whose spelling begins at this place
abbrev pub top_scopes : Form → (place : ℕ) → Forest → List ReadScope
top_scopes form place empty = []
top_scopes form place (node first children others) =
    record {
      id = first.id;
      start = first.start;
      duration = first.stop -ℤ first.start;
      text = text_in first.text;
      child_begin = place + head_size form first.text;
      child_end = place + inner_size form first.text children;
      next_sibling = place + (inner_size form first.text children + end_size);
    }
    ∷ top_scopes form (place + (inner_size form first.text children + end_size)) others
