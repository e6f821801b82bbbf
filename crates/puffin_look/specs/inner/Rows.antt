-- The cells of a row as the code has them, and what is written of them: steps of the proof.
use Rattle.std.specs.Prelude.{◌≡◌, ℕ, List, ◌++◌}
use denote.Ref.{Bor}
use Rattle.json.specs.Token.{Token}
use Rattle.json.specs.Written.{Written}
use Rattle.puffin_look.specs.Cells.{Cell, Name}
use Rattle.puffin_look.specs.declared.rows.Value.{Value}

abbrev pub cell_of : Bor (List ℕ) × Value → Cell
cell_of cell = (cell.0.now, cell.1)

abbrev pub name_of : Bor (List ℕ) × Bor (List ℕ) → Name
name_of name = (name.0.now, name.1.now)

-- these tokens were written
pub record Writes (old new : Written) (more : List Token) : Type 0 where
  pub before : new.before ≡ old.before
  pub tokens : new.tokens ≡ old.tokens ++ more
