-- What counting a stream from a reader writes and returns.
use Rattle.std.specs.Prelude.{◌≡◌, ℕ, List, [], Option, Some, ◌⊎◌}
use Rattle.std.specs.Io.KnownBytes.{Consumes, Appends, IsAtEnd}
use Rattle.puffin_data.specs.declared.data.form.Form.TheVariants.{Short}
use Rattle.puffin_data.specs.declared.error.Error.{Error}
use Rattle.puffin_data.specs.Forest.{Forest}
use Rattle.puffin_data.specs.Forest.Spelling.{Spells}
use Rattle.puffin_data.specs.Walk.{IsFault}
use Rattle.puffin_data.specs.Device.{WritesBeginning}
use Rattle.puffin_report.specs.Lines.{lines_of, frame_of_forest, refusal_of}

-- the reader gave these bytes, which are all that it had
abbrev pub ReadsAll : Option (List ℕ) → Option (List ℕ) → List ℕ → Type 0
ReadsAll old new bytes = Consumes old new bytes × IsAtEnd new

-- The bytes were counted: what is written went from `old` to `new`, and this was answered.
module _ (bytes : List ℕ) (old new : Option (List ℕ)) (answer : Option Error) where
  -- the bytes spell a forest, its two lines were written, and the answer is the cause that refuses its frame, if any
  abbrev pub CountsForest : Type 0
  CountsForest =
      (forest : Forest)
      × Spells Short bytes forest
      × Appends old new (lines_of Short forest)
      × (answer ≡ refusal_of (frame_of_forest Short forest))

  -- the answer is the fault of the bytes, and nothing was written
  abbrev pub AnswersFault : Type 0
  AnswersFault =
      (cause : Error) × (answer ≡ Some cause) × IsFault Short bytes cause × Appends old new []

  abbrev pub IsCounted : Type 0
  IsCounted = CountsForest ⊎ AnswersFault

-- A call that failed wrote nothing, or a prefix of the lines of the bytes that the reader gave.
abbrev pub IsCutShort : Option (List ℕ) → Option (List ℕ) → Option (List ℕ) → Option (List ℕ) →
    Type 0
IsCutShort unread left old new =
    Appends old new []
    ⊎ ((bytes : List ℕ)
    × (forest : Forest)
    × ReadsAll unread left bytes
    × Spells Short bytes forest
    × WritesBeginning old new (lines_of Short forest))
