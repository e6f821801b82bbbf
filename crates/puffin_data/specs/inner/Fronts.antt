-- What a call that reads a value at the front of bytes returns, with the bytes after it.
use Rattle.std.specs.Prelude.{◌≡◌, ℕ, List, ◌++◌, Option, Some, None}

-- `old` is the bytes, and `result` what the call returned, the value and the bytes after it. `view` gives both as contracts see them.

-- either `old` is the layout of the value followed by the rest; or no value was read, and no layout is a prefix of `old`
abbrev pub ReadsWithRest : {X A : Type 0} → (view : X → A × List ℕ) → (fits : A → Type 0) →
    (layout : A → List ℕ) → (old : List ℕ) → (result : Option X) → Type 0
ReadsWithRest view fits layout old (Some read) =
    fits (view read).0 × (old ≡ layout (view read).0 ++ (view read).1)
ReadsWithRest {A = A} view fits layout old None =
    (value : A) (rest : List ℕ) → fits value → old ≡ layout value ++ rest → ⊥

-- the call returned what a reading gives on the same bytes: the value and the rest, or nothing
abbrev pub GivesWithRest : {X A : Type 0} → (view : X → A × List ℕ) → (result : Option X) →
    (read : Option (A × List ℕ)) → Type 0
GivesWithRest view (Some value) read = read ≡ Some (view value)
GivesWithRest view None read = read ≡ None
