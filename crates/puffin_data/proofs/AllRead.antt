-- What a loop over a reader has read so far.
use Rattle.std.proofs.Common.{◌≡◌, ℕ, List, [], ◌∷◌, ◌++◌, map, length, Option, Some, None, Result, Ok, Err, refl, sym, ap, ◌∙◌, subst, append_assoc, append-nil}
use Rattle.std.proofs.lemmas.List.{map-append}
use Rattle.puffin_data.specs.declared.data.form.Form.{Form}
use Rattle.puffin_data.specs.declared.error.Error.{Error}
use Rattle.puffin_data.specs.declared.data.record.Scope.{Scope}
use Rattle.puffin_data.specs.Reader.{ReadScope, ReaderState, next_after, scope_read, ReaderGives, ends, stops, goes_on}
use Rattle.puffin_data.specs.Reader.ReadScopes.{scope_seen, IsNextRead, ReadsScopes, ReadsFault}

-- the items that a reader gives for these scopes
abbrev items : List Scope → List (Result ReadScope Error)
items scopes = map (λ scope. Ok scope) (map scope_seen scopes)

-- After these scopes the reader, which began as `from`, stands as `now`: what is given from there on is what it gives after them.
pub record HasRead (from now : ReaderState) (scopes : List Scope) : Type 0 where
  pub same_form : now.form ≡ from.form
  pub same_bytes : now.bytes ≡ from.bytes
  pub reads : (later : List (Result ReadScope Error)) → ReaderGives from.form from.bytes now.at later
      → ReaderGives from.form from.bytes from.at (items scopes ++ later)

-- ---- what was read, from the item that the reader returned and from its place afterwards

-- where a scope was returned, that scope was read, and the reader stands at its next sibling
scope_was_read : (from : ReaderState) (read : Result (Option ReadScope) Error) (scope : ReadScope) (at : ℕ)
    → Some (Ok scope) ≡ (next_after from read).0 → at ≡ (next_after from read).1
    → (read ≡ Ok (Some scope)) × (at ≡ scope.next_sibling)
scope_was_read from (Ok None) scope at item place = absurd cc
scope_was_read from (Ok (Some found)) scope at item place =
    let same : found ≡ scope = cc in
    (ap (λ (any : ReadScope). Ok (Some any)) same, place ∙ ap (λ (any : ReadScope). any.next_sibling) same)
scope_was_read from (Err fault) scope at item place = absurd cc

-- where a fault was returned, that fault was read
fault_was_read : (from : ReaderState) (read : Result (Option ReadScope) Error) (fault : Error)
    → Some (Err fault) ≡ (next_after from read).0 → read ≡ Err fault
fault_was_read from (Ok None) fault item = absurd cc
fault_was_read from (Ok (Some found)) fault item = absurd cc
fault_was_read from (Err other) fault item = cc

-- where nothing was returned, no scope was there to be read
end_was_read : (from : ReaderState) (read : Result (Option ReadScope) Error) → None ≡ (next_after from read).0 → read ≡ Ok None
end_was_read from (Ok None) item = refl
end_was_read from (Ok (Some found)) item = absurd cc
end_was_read from (Err other) item = absurd cc

-- ---- what a loop has read

-- what is at the reader's place
abbrev found_at : ReaderState → Result (Option ReadScope) Error
found_at now = scope_read now.form now.bytes now.at (length now.bytes)

-- The loop changes neither form nor bytes: what is at the reader's place now is there in the form and the bytes with which it began.
read_from_start : (from now : ReaderState) (read : Result (Option ReadScope) Error) → now.form ≡ from.form → now.bytes ≡ from.bytes
    → found_at now ≡ read
    → scope_read from.form from.bytes now.at (length from.bytes) ≡ read
read_from_start from now read same_form same_bytes found =
    subst (λ (bytes : List ℕ). scope_read from.form bytes now.at (length bytes) ≡ read) same_bytes
    (subst (λ (form : Form). scope_read form now.bytes now.at (length now.bytes) ≡ read) same_form found)

-- the items of the scopes up to one more: those before it, and then it
items_and_one : (scopes : List Scope) (scope : Scope) → items (scopes ++ scope ∷ []) ≡ items scopes ++ (Ok (scope_seen scope) ∷ [])
items_and_one scopes scope =
    ap (map (λ (any : ReadScope). Ok any)) (map-append scope_seen scopes (scope ∷ []))
    ∙ map-append (λ (any : ReadScope). Ok any) (map scope_seen scopes) (scope_seen scope ∷ [])

-- One scope more was read. What is given from its next sibling on is, after that scope, what was given from the scope's own place on.
pub one_more : (from now to : ReaderState) (scopes all : List Scope) (scope : Scope) → HasRead from now scopes
    → IsNextRead now (Some (Ok scope)) to → all ≡ scopes ++ scope ∷ [] → HasRead from to all
one_more from now to scopes all scope so_far step grown =
    let (found, moved) =
    scope_was_read now (found_at now) (scope_seen scope) to.at (ap (λ both. both.0) step.next) (ap (λ both. both.1) step.next) in
    let here = read_from_start from now (Ok (Some (scope_seen scope))) so_far.same_form so_far.same_bytes found in
    let split : items all ≡ items scopes ++ (Ok (scope_seen scope) ∷ []) = ap items grown ∙ items_and_one scopes scope in
    record {
      same_form = step.same_form ∙ so_far.same_form;
      same_bytes = step.same_bytes ∙ so_far.same_bytes;
      reads = λ later gives.
          let from_sibling = subst (λ (place : ℕ). ReaderGives from.form from.bytes place later) moved gives in
          let from_scope = so_far.reads (Ok (scope_seen scope) ∷ later) (goes_on here from_sibling) in
          let same_items : items all ++ later ≡ items scopes ++ (Ok (scope_seen scope) ∷ later) =
          ap (λ (given : List (Result ReadScope Error)). given ++ later) split
          ∙ append_assoc (items scopes) (Ok (scope_seen scope) ∷ []) later in
          subst (ReaderGives from.form from.bytes from.at) (sym same_items) from_scope;
    }

-- the reader came to its end: it gives what was read, and nothing else
pub all_read : (from now to : ReaderState) (scopes : List Scope) → HasRead from now scopes → IsNextRead now None to
    → ReadsScopes from scopes
all_read from now to scopes so_far step =
    let found = end_was_read now (found_at now) (ap (λ both. both.0) step.next) in
    let here = read_from_start from now (Ok None) so_far.same_form so_far.same_bytes found in
    subst (ReaderGives from.form from.bytes from.at) (append-nil (items scopes)) (so_far.reads [] (ends here))

-- the reader came to a fault: it gives what was read, and then the fault
pub fault_read : (from now to : ReaderState) (scopes : List Scope) (fault : Error) → HasRead from now scopes
    → IsNextRead now (Some (Err fault)) to → ReadsFault from fault
fault_read from now to scopes fault so_far step =
    let found = fault_was_read now (found_at now) fault (ap (λ both. both.0) step.next) in
    let here = read_from_start from now (Err fault) so_far.same_form so_far.same_bytes found in
    (map scope_seen scopes, so_far.reads (Err fault ∷ []) (stops here))
