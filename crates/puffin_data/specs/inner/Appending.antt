-- What a call that appends a device's bytes to a vector does.
use Rattle.std.specs.Prelude.{◌≡◌, ℕ, List, ◌++◌, length, Option}
use Rattle.std.specs.Io.KnownBytes.{Consumes}

-- As many bytes as `count` were taken from a device and appended to a vector. `old` and `new` are the vector's bytes before and after,
-- `remaining` and `left` the device's, if they are known.
abbrev pub AppendsTaken : (old : List ℕ) → (new : List ℕ) → (remaining : Option (List ℕ)) →
    (left : Option (List ℕ)) → (count : ℕ) → Type 0
AppendsTaken old new remaining left count =
    (taken : List ℕ)
    × (new ≡ old ++ taken)
    × Consumes remaining left taken
    × (length taken ≡ count)
