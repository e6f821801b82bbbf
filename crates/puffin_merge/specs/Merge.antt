-- The result of merging: a row of siblings below each path.
pub mod Occurrences
pub mod Pieces
pub mod Starts
pub mod Tree
pub mod FrameBytes
pub mod Refusals
pub mod Scopes
pub mod Merger
use Rattle.std.specs.Prelude.{◌≡◌, ℕ, pos, ◌/◌, ◌<◌, List, [], ◌∷◌, ◌++◌, map, All, Contains}
use Rattle.std.specs.declared.cmp.Ordering.{Ordering}
use Rattle.std.specs.declared.cmp.Ordering.TheVariants.{Less}
use Rattle.std.specs.Ordering.{int_cmp, on, then_cmp}
use Rattle.puffin_merge.specs.Merge.Occurrences.{Label, Path, Occurrence, label_cmp}
use Rattle.puffin_merge.specs.Merge.Pieces.{Merged, merged_at}
use Rattle.puffin_merge.specs.Merge.Starts.{Sibling, IsLeastFeasible}
use Rattle.puffin_merge.specs.Merge.Tree.{Node, MergedForest, no_node, merged, row}

-- the path of a label below a path
abbrev pub below : Path → Label → Path
below path label = path ++ (label ∷ [])

-- A node has the sums of its pieces, of which there is at least one. The duration per frame is rounded down.
pub record HasSums (sums : Merged) (frames : ℕ) (node : Node) : Type 0 where
  pub any : 0 < sums.number
  pub pieces : node.pieces ≡ sums.number
  pub total : node.total ≡ pos sums.total
  pub per_frame : node.per_frame ≡ pos (sums.total / frames)
  pub greatest : node.greatest ≡ pos sums.greatest

-- The order of the siblings below a path, whose sums are given by path: by least own start, then id, then the text's bytes.
abbrev pub sibling_cmp : (Path → Merged) → Path → Label → Label → Ordering
sibling_cmp sums_at path =
    then_cmp (on (λ label. (sums_at (below path label)).own_start) int_cmp) label_cmp

-- each label comes before the next
abbrev pub IsRising : (Label → Label → Ordering) → List Label → Type 0
IsRising cmp [] = Unit {0}
IsRising cmp (label ∷ []) = Unit {0}
IsRising cmp (label ∷ next ∷ labels) = (cmp label next ≡ Less) × IsRising cmp (next ∷ labels)

-- a merged scope among its siblings: its least own start, and its duration per frame
abbrev pub sibling_of : Merged → ℕ → Sibling
sibling_of sums frames = record { own_start = sums.own_start; duration = sums.total / frames }

-- The merged scopes directly below a path, of all occurrences in this number of frames.
pub record IsRow (all : List Occurrence) (frames : ℕ) (path : Path) (nodes : List Node) :
    Type 0 where
  -- each has the sums of its occurrences
  pub sums : All (λ node. HasSums (merged_at all (below path node.label)) frames node) nodes
  -- each label that occurs below the path is among them
  pub whole : All (λ occurrence. (label : Label) → occurrence.path ≡ below path label →
      Contains (map (λ node. node.label) nodes) label) all
  -- they are in order, so each label is there once
  pub order : IsRising (sibling_cmp (merged_at all) path) (map (λ node. node.label) nodes)
  -- their starts are the least feasible ones
  pub starts : IsLeastFeasible
      (map (λ node. sibling_of (merged_at all (below path node.label)) frames) nodes)
      (map (λ node. node.start) nodes)

-- In a forest whose top level is below this path, the children of each node are the row below that node's path.
abbrev pub HasRowsBelow : List Occurrence → ℕ → Path → MergedForest → Type 0
HasRowsBelow all frames path no_node = Unit {0}
HasRowsBelow all frames path (merged node children others) =
    IsRow all frames (below path node.label) (row children)
    × HasRowsBelow all frames (below path node.label) children
    × HasRowsBelow all frames path others

-- The occurrences in this number of frames are merged into this forest.
pub record IsMerge (all : List Occurrence) (frames : ℕ) (forest : MergedForest) : Type 0 where
  pub top : IsRow all frames [] (row forest)
  pub deeper : HasRowsBelow all frames [] forest
