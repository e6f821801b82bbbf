-- The tour of a forest: each scope opens, then its children follow, then it closes.
use Rattle.std.specs.Prelude.{◌≡◌, ℕ, ℤ, List, [], ◌∷◌, ◌++◌}
use Rattle.puffin_data.specs.Forest.{Forest, empty, node}

-- a scope opens, with its id, its stored text and its start; or the innermost open scope closes, with its stop
pub data Event : Type 0 where
  Open : (id : ℕ) → (text : List ℕ) → (start : ℤ) → Event
  Close : (stop : ℤ) → Event

-- the events of a forest, in order
abbrev pub tour : Forest → List Event
tour empty = []
tour (node first children others) =
    Open first.id first.text first.start ∷ (tour children ++ (Close first.stop ∷ tour others))

-- each scope that opens also closes, inner scopes before outer ones: the word is a forest's tour
abbrev pub IsBalanced : List Event → Type 0
IsBalanced word = (forest : Forest) × (word ≡ tour forest)
