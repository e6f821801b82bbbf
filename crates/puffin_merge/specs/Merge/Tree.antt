-- Merged scopes as a forest.
use Rattle.std.specs.Prelude.{ℕ, ℤ, List, [], ◌∷◌}
use Rattle.puffin_merge.specs.Merge.Occurrences.{Label}

-- one merged scope without its children: its label, its start, its pieces' total duration, that divided by the number of
-- frames, the duration of its longest piece, and the number of its pieces
pub record Node : Type 0 where
  pub label : Label
  pub start : ℤ
  pub total : ℤ
  pub per_frame : ℤ
  pub greatest : ℤ
  pub pieces : ℕ

-- a first merged scope, its children, and its siblings after it
pub data MergedForest : Type 0 where
  no_node : MergedForest
  merged : (first : Node) → (children : MergedForest) → (others : MergedForest) → MergedForest

-- the nodes of the top level
abbrev pub row : MergedForest → List Node
row no_node = []
row (merged first children others) = first ∷ row others
