-- What a call that reads a value returns and what it leaves unread.
use Rattle.std.specs.Prelude.{◌≡◌, ℕ, List, ◌++◌, Option, Some, None}

-- `old` and `new` are the bytes before and after the call, and `result` is what it returned. `view` gives the value as contracts see it,
-- `fits` says which values have a layout, and `read` is what a reading gives on `old`.

-- Either `old` is the layout of the value followed by `new`; or no value was read, no layout is a prefix of `old`, and `new` is `old`.
abbrev pub Reads : {X A : Type 0} → (view : X → A) → (fits : A → Type 0) → (layout : A → List ℕ) →
    (old : List ℕ) → (result : Option X) → (new : List ℕ) → Type 0
Reads view fits layout old (Some value) new =
    fits (view value) × (old ≡ layout (view value) ++ new)
Reads {A = A} view fits layout old None new =
    ((value : A) (rest : List ℕ) → fits value → old ≡ layout value ++ rest → ⊥) × (new ≡ old)

-- The call returned what the reading gives, and left the bytes after it. If the reading gives nothing, all bytes are left.
abbrev pub Gives : {X A : Type 0} → (view : X → A) → (old : List ℕ) → (result : Option X) →
    (new : List ℕ) → (read : Option (A × List ℕ)) → Type 0
Gives view old (Some value) new read = read ≡ Some (view value, new)
Gives view old None new read = (read ≡ None) × (new ≡ old)
