-- The places that a walk reaches, the first fault, and the number of scopes that it tries to read.
pub mod Reading
pub mod FoundScopes
pub mod PlacedScopes
pub mod Visitor
use Rattle.std.specs.Prelude.{◌≡◌, ℕ, ◌+◌, ◌-◌, ◌/◌, ◌≤◌, List, [], ◌∷◌, ◌++◌, length, take, drop, slice_index, nat_lt, ◌==◌, if◌then◌else◌, Some, Ok}
use Rattle.std.specs.List.{count_by}
use Rattle.puffin_data.specs.declared.data.form.Form.{Form}
use Rattle.puffin_data.specs.declared.error.Error.{Error}
use Rattle.puffin_data.specs.Forest.Spelling.{begin_mark}
use Rattle.puffin_data.specs.Walk.Reading.{FoundScope, reading, IsFaultIn}

-- the bytes of a short scope without text and children
abbrev pub least_scope_size : ℕ
least_scope_size = 31

-- the most scopes that a walk of these bytes tries to read
abbrev pub most_tries_in : List ℕ → ℕ
most_tries_in bytes = length bytes / least_scope_size + 1

-- the bytes from `place` up to `end`
abbrev pub region : (bytes : List ℕ) → (place : ℕ) → (end : ℕ) → List ℕ
region bytes place end = take (end - place) (drop place bytes)

-- this sound scope is at `place`, in the region that ends at `end`
abbrev pub IsSoundAt : (form : Form) → (bytes : List ℕ) → (place : ℕ) → (end : ℕ) → FoundScope →
    Type 0
IsSoundAt form bytes place end found = reading form (region bytes place end) ≡ Ok (Some found)

-- The walk from `place`, in the region that ends at `end`, reaches `to`, in the region that ends at `to_end`: that is the place itself,
-- or a sound scope is at the place, and `to` is reached from its children or from its next sibling.
pub data Reaches (form : Form) (bytes : List ℕ) :
    (place : ℕ) → (end : ℕ) → (to : ℕ) → (to_end : ℕ) → Type 0 where
  here : {place end : ℕ} → Reaches form bytes place end place end
  child : {place end to to_end : ℕ} {found : FoundScope} → IsSoundAt form bytes place end found →
      Reaches form bytes (place + found.child_begin) (place + found.child_end) to to_end →
      Reaches form bytes place end to to_end
  sibling : {place end to to_end : ℕ} {found : FoundScope} → IsSoundAt form bytes place end found →
      Reaches form bytes (place + found.next_sibling) end to to_end →
      Reaches form bytes place end to to_end

-- this fault is at `place`, in the region that ends at `end`
abbrev pub IsFaultAt : (form : Form) → (bytes : List ℕ) → (place : ℕ) → (end : ℕ) → Error → Type 0
IsFaultAt form bytes place end fault = IsFaultIn form (region bytes place end) fault

-- the fault of all bytes: the one at the least place among the faults that are reached
pub record IsFirstFault (form : Form) (bytes : List ℕ) (place : ℕ) (fault : Error) : Type 0 where
  pub end : ℕ
  pub reached : Reaches form bytes 0 (length bytes) place end
  pub stands : IsFaultAt form bytes place end fault
  pub least : (to to_end : ℕ) (other : Error) → Reaches form bytes 0 (length bytes) to to_end →
      IsFaultAt form bytes to to_end other → place ≤ to

-- this is the first fault, wherever it is
abbrev pub IsFault : (form : Form) → List ℕ → Error → Type 0
IsFault form bytes fault = (place : ℕ) × IsFirstFault form bytes place fault

-- The places of a region's sound scopes, from `place` on: if one is there, then `place`, those of its children, and those from its next
-- sibling on.
pub data Sounds (form : Form) (bytes : List ℕ) :
    (place : ℕ) → (end : ℕ) → (places : List ℕ) → Type 0 where
  no_more : {place end : ℕ} → ((found : FoundScope) → IsSoundAt form bytes place end found → ⊥) →
      Sounds form bytes place end []
  one_more : {place end : ℕ} {found : FoundScope} {inner later : List ℕ} →
      IsSoundAt form bytes place end found →
      Sounds form bytes (place + found.child_begin) (place + found.child_end) inner →
      Sounds form bytes (place + found.next_sibling) end later →
      Sounds form bytes place end (place ∷ (inner ++ later))

-- The bytes are refused with their first fault. `tries` is the number of sound scopes before it, plus one if a `(` is at the
-- fault.
pub record Refuses (form : Form) (bytes : List ℕ) (fault : Error) (tries : ℕ) : Type 0 where
  pub place : ℕ
  pub first : IsFirstFault form bytes place fault
  pub sounds : List ℕ
  pub are_sounds : Sounds form bytes 0 (length bytes) sounds
  pub number : tries
      ≡ count_by (λ sound. nat_lt sound place) sounds
      + (if slice_index bytes place == begin_mark then 1 else 0)
