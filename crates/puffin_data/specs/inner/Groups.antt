-- The second group of a text's length.
use Rattle.std.specs.Prelude.{ℕ, List, [], ◌∷◌, Option, Some, None}

-- the second byte of a length, if there is one
abbrev pub second_byte : Option ℕ → List ℕ
second_byte None = []
second_byte (Some byte) = byte ∷ []
