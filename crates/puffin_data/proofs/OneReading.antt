-- From each place on a reader gives one list.
use Rattle.std.proofs.Common.{◌≡◌, ℕ, zero, suc, ◌-◌, ◌<◌, ◌≤◌, List, [], ◌∷◌, length, Option, Some, None, Result, Ok, Err, refl, sym, ap, ◌∙◌, subst, arith}
use Rattle.puffin_data.specs.declared.data.form.Form.{Form}
use Rattle.puffin_data.specs.declared.error.Error.{Error}
use Rattle.puffin_data.specs.Reader.{ReadScope, scope_read, ReaderGives, ends, stops, goes_on}
use Rattle.puffin_data.proofs.Lenience.{next_within, fault_within}

abbrev Answer : Type 0
Answer = Result (Option ReadScope) Error

-- ---- what is read at a place is one thing

none_some : (read : Answer) (scope : ReadScope) → read ≡ Ok None → read ≡ Ok (Some scope) → ⊥
none_some read scope is is_too = let fault : ◌≡◌ {A = Answer} (Ok None) (Ok (Some scope)) = sym is ∙ is_too in cc

none_err : (read : Answer) (fault : Error) → read ≡ Ok None → read ≡ Err fault → ⊥
none_err read fault is is_too = let fault : ◌≡◌ {A = Answer} (Ok None) (Err fault) = sym is ∙ is_too in cc

some_err : (read : Answer) (scope : ReadScope) (fault : Error) → read ≡ Ok (Some scope) → read ≡ Err fault → ⊥
some_err read scope fault is is_too = let fault : ◌≡◌ {A = Answer} (Ok (Some scope)) (Err fault) = sym is ∙ is_too in cc

same_scope : (read : Answer) (scope other : ReadScope) → read ≡ Ok (Some scope) → read ≡ Ok (Some other) → scope ≡ other
same_scope read scope other is is_too = let same : ◌≡◌ {A = Answer} (Ok (Some scope)) (Ok (Some other)) = sym is ∙ is_too in cc

same_fault : (read : Answer) (fault other : Error) → read ≡ Err fault → read ≡ Err other → fault ≡ other
same_fault read fault other is is_too = let same : ◌≡◌ {A = Answer} (Err fault) (Err other) = sym is ∙ is_too in cc

-- ---- so the list has one first item, and one rest

ended : (form : Form) (bytes : List ℕ) (place : ℕ) (items : List (Result ReadScope Error))
    → scope_read form bytes place (length bytes) ≡ Ok None → ReaderGives form bytes place items → items ≡ []
ended form bytes place items is (ends read) = refl
ended form bytes place items is (stops {fault = other} read) = absurd (none_err _ other is read)
ended form bytes place items is (goes_on {scope = scope} read rest) = absurd (none_some _ scope is read)

stopped : (form : Form) (bytes : List ℕ) (place : ℕ) (fault : Error) (items : List (Result ReadScope Error))
    → scope_read form bytes place (length bytes) ≡ Err fault → ReaderGives form bytes place items → items ≡ Err fault ∷ []
stopped form bytes place fault items is (ends read) = absurd (none_err _ fault read is)
stopped form bytes place fault items is (stops {fault = other} read) = ap (λ (any : Error). Err any ∷ []) (same_fault _ other fault read is)
stopped form bytes place fault items is (goes_on {scope = scope} read rest) = absurd (some_err _ scope fault read is)

went_on : (form : Form) (bytes : List ℕ) (place : ℕ) (scope : ReadScope) (items : List (Result ReadScope Error))
    → scope_read form bytes place (length bytes) ≡ Ok (Some scope) → ReaderGives form bytes place items
    → (later : List (Result ReadScope Error)) × ReaderGives form bytes scope.next_sibling later × (items ≡ Ok scope ∷ later)
went_on form bytes place scope items is (ends read) = absurd (none_some _ scope read is)
went_on form bytes place scope items is (stops {fault = other} read) = absurd (some_err _ scope other is read)
went_on form bytes place scope items is (goes_on {scope = found} {later = later} read rest) =
    let same = same_scope _ found scope read is in (
      later,
      subst (λ (other : ReadScope). ReaderGives form bytes other.next_sibling later) same rest,
      ap (λ (other : ReadScope). Ok other ∷ later) same,
    )

pub one_reading : (form : Form) (bytes : List ℕ) (place : ℕ) (items others : List (Result ReadScope Error))
    → ReaderGives form bytes place items → ReaderGives form bytes place others → items ≡ others
one_reading form bytes place items others (ends read) gives = sym (ended form bytes place others read gives)
one_reading form bytes place items others (stops {fault = fault} read) gives = sym (stopped form bytes place fault others read gives)
one_reading form bytes place items others (goes_on {scope = scope} {later = later} read rest) gives =
    let went = went_on form bytes place scope others read gives in
    ap (λ (any : List (Result ReadScope Error)). Ok scope ∷ any) (one_reading form bytes scope.next_sibling later went.0 rest went.1)
    ∙ sym went.2

-- ---- there is a list: each scope takes bytes, so the reading ends

abbrev AreRead : (form : Form) → List ℕ → ℕ → Type 0
AreRead form bytes place = (items : List (Result ReadScope Error)) × ReaderGives form bytes place items

read_so : (form : Form) (bytes : List ℕ) (place : ℕ) (read : Answer) → scope_read form bytes place (length bytes) ≡ read
    → ((scope : ReadScope) → scope_read form bytes place (length bytes) ≡ Ok (Some scope) → AreRead form bytes scope.next_sibling)
    → AreRead form bytes place
read_so form bytes place (Ok None) is later = ([], ends is)
read_so form bytes place (Ok (Some scope)) is later = let next = later scope is in (Ok scope ∷ next.0, goes_on is next.1)
read_so form bytes place (Err fault) is later = (Err fault ∷ [], stops is)

none_left : (place size : ℕ) (more : ℕ) → size - place < 0 → ⊥
none_left place size more less = omega arith

read_up_to : (form : Form) (limit : ℕ) (bytes : List ℕ) (place : ℕ) → place ≤ length bytes → length bytes - place < limit
    → AreRead form bytes place
read_up_to form zero bytes place low few = absurd (none_left place (length bytes) 0 few)
read_up_to form (suc limit) bytes place low few =
    let again = read_up_to form limit bytes in
    read_so form bytes place (scope_read form bytes place (length bytes)) refl
    (λ scope read. let at = next_within form bytes place (length bytes) scope low (omega arith) read in again scope.next_sibling at.1
    (omega (arith, at)))

pub all_are_read : (form : Form) (bytes : List ℕ) (place : ℕ) → place ≤ length bytes → AreRead form bytes place
all_are_read form bytes place low = read_up_to form (suc (length bytes - place)) bytes place low (omega arith)

-- ---- nothing is read at the end

at_end : (form : Form) (bytes : List ℕ) (items : List (Result ReadScope Error)) (place : ℕ) → place ≡ length bytes
    → ReaderGives form bytes place items → items ≡ []
at_end form bytes items place end (ends read) = refl
at_end form bytes items place end (stops {fault = fault} read) =
    absurd (omega (arith, fault_within form bytes place (length bytes) fault (omega arith) read))
at_end form bytes items place end (goes_on {scope = scope} read rest) =
    absurd (omega (arith, next_within form bytes place (length bytes) scope (omega arith) (omega arith) read))

pub nothing_at_end : (form : Form) (bytes : List ℕ) (items : List (Result ReadScope Error))
    → ReaderGives form bytes (length bytes) items → items ≡ []
nothing_at_end form bytes items rest = at_end form bytes items (length bytes) refl rest
