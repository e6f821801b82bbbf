-- What a call on a reader or writer guarantees: the bytes it takes or writes, and when it returns `Io`.
pub mod Counting
use Rattle.std.specs.Prelude.{◌≡◌, ℕ, ◌+◌, ◌-◌, ◌^◌, ◌<◌, ◌≤◌, Bool, true, false, List, ◌++◌, length, Option, Result, Ok, Err, if◌then◌else◌, ◌⊎◌}
use Rattle.std.specs.Io.KnownBytes.{Appends, Consumes, IsAtEnd}
use Rattle.puffin_data.specs.Value.Layout.{IsBytes}
use Rattle.puffin_data.specs.declared.file_error.FileError.{FileError}
use Rattle.puffin_data.specs.declared.file_error.FileError.TheVariants as file

-- whether a call returned `Io`
abbrev pub is_io : {X : Type 0} → Result X FileError → Bool
is_io (Ok value) = false
is_io (Err file.Io) = true
is_io (Err _) = false

-- a reader's number of failures after a call
abbrev pub failures_after : {X : Type 0} → (before : ℕ) → Result X FileError → ℕ
failures_after before result = if is_io result then before + 1 else before

-- the device has had so few failures that one more can be counted
abbrev pub CanFail : {D : Type 0} → (failures : D → ℕ) → (device : D) → Type 0
CanFail failures device = failures device < 2 ^ 64 - 1

-- a failure of the device or of memory, not a fault in what was read
abbrev pub IsOutside : FileError → Type 0
IsOutside fault = (fault ≡ file.Io) ⊎ (fault ≡ file.Memory)

-- the last write took no byte of a piece that wasn't empty
abbrev pub TookNothing : {D : Type 0} → (takes : D → List ℕ → ℕ → D → Type 0) → (now : D) → Type 0
TookNothing {D = D} takes now =
    (before : D) × (piece : List ℕ) × (0 < length piece) × takes before piece 0 now

-- a prefix of these bytes was written
abbrev pub WritesBeginning : (old : Option (List ℕ)) → (new : Option (List ℕ)) →
    (bytes : List ℕ) → Type 0
WritesBeginning old new bytes =
    (front rest : List ℕ) × (bytes ≡ front ++ rest) × Appends old new front

-- at most `limit` bytes were taken, and fewer only at the end
pub record TookUpTo (old new : Option (List ℕ)) (limit : ℕ) (taken : List ℕ) : Type 0 where
  pub consumed : Consumes old new taken
  pub bytes : IsBytes taken
  pub most : length taken ≤ limit
  pub fewer : length taken < limit → IsAtEnd new

-- A call that read a device failed with this fault: with `Io` or `Memory`, or with the fault that the reading `read` gives on the
-- bytes that the call took. `old` and `new` are the device's bytes before and after, if they are known.
abbrev pub FailsAt : {A : Type 0} → (fault : FileError) → (old : Option (List ℕ)) →
    (new : Option (List ℕ)) → (read : List ℕ → Result (A × List ℕ) FileError) → Type 0
FailsAt file.Io old new read = Unit {0}
FailsAt file.Memory old new read = Unit {0}
-- the bytes end too early: the reading gives this fault on all that the device had
FailsAt file.Truncated old new read =
    (taken : List ℕ) × Consumes old new taken × IsAtEnd new × (read taken ≡ Err file.Truncated)
-- these bytes have this fault, whatever follows
FailsAt fault old new read =
    (taken : List ℕ) × Consumes old new taken × ((rest : List ℕ) → read (taken ++ rest) ≡ Err fault)

-- A call took bytes from a device and returned, seen by `view`, what the reading `read` gives on them, whatever follows; or it
-- failed. If the device's bytes aren't known, that holds for some bytes.
abbrev pub FromDevice : {X A : Type 0} → (view : X → A) → (old : Option (List ℕ)) →
    (new : Option (List ℕ)) → (result : Result X FileError) →
    (read : List ℕ → Result (A × List ℕ) FileError) → Type 0
FromDevice view old new (Ok value) read =
    (taken : List ℕ)
    × Consumes old new taken
    × ((rest : List ℕ) → read (taken ++ rest) ≡ Ok (view value, rest))
    × IsBytes taken
FromDevice view old new (Err fault) read = FailsAt fault old new read
