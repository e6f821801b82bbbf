-- The scopes that a reader returns, without the addresses of their texts.
use Rattle.std.specs.Prelude.{◌≡◌, ℕ, ℤ, List, [], ◌∷◌, ◌++◌, map, Option, Some, None, Result, Ok, Err}
use Rattle.puffin_data.specs.declared.error.Error.{Error}
use Rattle.puffin_data.specs.declared.data.record.Scope.{Scope}
use Rattle.puffin_data.specs.declared.data.record.ScopeRecord.{ScopeRecord}
use Rattle.puffin_data.specs.Reader.{ReadScope, ReaderState, next_read, ReaderGives}

-- a record, apart from the place of its text in memory
pub record SeenRecord : Type 0 where
  pub start : ℤ
  pub duration : ℤ
  pub text : List ℕ

-- the record of a scope, as contracts see it
abbrev pub record_seen : ScopeRecord → SeenRecord
record_seen rec = record { start = rec.start_ns; duration = rec.duration_ns; text = rec.text.now }

-- a scope that was read, as contracts see it
abbrev pub scope_seen : Scope → ReadScope
scope_seen scope = record {
  id = scope.id;
  start = scope.rec.start_ns;
  duration = scope.rec.duration_ns;
  text = scope.rec.text.now;
  child_begin = scope.child_begin_position;
  child_end = scope.child_end_position;
  next_sibling = scope.next_sibling_position;
}

-- what a call that reads one scope returned, as contracts see it
abbrev pub scope_answer : Result (Option Scope) Error → Result (Option ReadScope) Error
scope_answer (Ok None) = Ok None
scope_answer (Ok (Some scope)) = Ok (Some (scope_seen scope))
scope_answer (Err fault) = Err fault

-- what a reader returned as an iterator, as contracts see it
abbrev pub item_seen : Option (Result Scope Error) → Option (Result ReadScope Error)
item_seen None = None
item_seen (Some (Ok scope)) = Some (Ok (scope_seen scope))
item_seen (Some (Err fault)) = Some (Err fault)

-- one step of a reader, from one place to the next
pub record IsNextRead (from : ReaderState) (item : Option (Result Scope Error)) (to : ReaderState) :
    Type 0 where
  pub same_form : to.form ≡ from.form
  pub same_bytes : to.bytes ≡ from.bytes
  pub next : (item_seen item, to.at) ≡ next_read from

-- a reader at this place returns exactly these scopes
abbrev pub ReadsScopes : ReaderState → List Scope → Type 0
ReadsScopes from scopes =
    ReaderGives from.form from.bytes from.at (map (λ scope. Ok scope) (map scope_seen scopes))

-- a reader at this place returns some scopes, and then this fault
abbrev pub ReadsFault : ReaderState → Error → Type 0
ReadsFault from fault =
    (scopes : List ReadScope)
    × ReaderGives from.form from.bytes from.at (
    map (λ scope. Ok scope) scopes ++ (Err fault ∷ []))
