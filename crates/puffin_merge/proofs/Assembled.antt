-- A flat table of nodes, and the forest that it makes.
use Rattle.std.specs.Prelude.{◌≡◌, ℕ, ◌-◌, ◌/◌, ◌<◌, ◌≤◌, ◌==◌, ℤ, pos, cond, List, [], ◌∷◌, filter, map, slice_index_or, All, ◌⊎◌}
use Rattle.std.specs.declared.cmp.Ordering.TheVariants.{Less}
use Rattle.puffin_merge.specs.declared.merge.table.Node as table
use Rattle.puffin_merge.specs.declared.merge.tree.OrderedNode.{OrderedNode}
use Rattle.puffin_merge.specs.declared.merge.tree.Placement.{Placement}
use Rattle.puffin_merge.specs.Merge.Occurrences.{Label, Path, Occurrence}
use Rattle.puffin_merge.specs.Merge.Pieces.{Merged, merged_at}
use Rattle.puffin_merge.specs.Merge.Starts.{earliest_starts}
use Rattle.puffin_merge.specs.Merge.Tree.{Node, MergedForest, no_node, merged}
use Rattle.puffin_merge.specs.Merge.{below, sibling_cmp, sibling_of}
use Rattle.puffin_merge.specs.inner.Tables.{merged_of_sums}
use Rattle.puffin_merge.specs.inner.Places.{node_label, next_placement}

-- a node of the table, named by its number; its parent's number is 0 at the top
pub record Entry : Type 0 where
  pub parent : ℕ
  pub number : ℕ
  pub label : Label
  pub merged : Merged
  pub start : ℤ

-- the merged node of an entry, merged over this number of frames
abbrev pub node_of : ℕ → Entry → Node
node_of frames e = record {
  label = e.label;
  start = e.start;
  total = pos e.merged.total;
  per_frame = pos (e.merged.total / frames);
  greatest = pos e.merged.greatest;
  pieces = e.merged.number;
}

-- the entries whose parent has this number
abbrev pub children_of : ℕ → List Entry → List Entry
children_of p entries = filter (λ e. e.parent == p) entries

-- the forest below a number: of entries in which each stands before its children
abbrev pub forest_below : ℕ → ℕ → List Entry → MergedForest
forest_below frames p [] = no_node
forest_below frames p (e ∷ entries) =
    cond (e.parent == p)
    (merged (node_of frames e) (forest_below frames e.number entries) (
    forest_below frames p entries))
    (forest_below frames p entries)

-- the property holds for each entry, by recursion
abbrev pub Each : (Entry → Type 0) → List Entry → Type 0
Each P [] = Unit {0}
Each P (e ∷ entries) = P e × Each P entries

-- the property holds for some entry, by recursion
abbrev pub Some_of : (Entry → Type 0) → List Entry → Type 0
Some_of P [] = ⊥
Some_of P (e ∷ entries) = P e ⊎ Some_of P entries

-- an entry stands before another: its parent's number is lower, or it is its sibling and comes first
pub record StandsBefore (at : Path → Merged) (path_of : ℕ → Path) (e f : Entry) : Type 0 where
  pub parent : e.parent ≤ f.parent
  pub sibling : e.parent ≡ f.parent → sibling_cmp at (path_of e.parent) e.label f.label ≡ Less

-- each entry stands before all behind it
abbrev pub InOrder : (Path → Merged) → (ℕ → Path) → List Entry → Type 0
InOrder at path_of [] = Unit {0}
InOrder at path_of (e ∷ entries) =
    Each (StandsBefore at path_of e) entries × InOrder at path_of entries

-- what one entry tells
pub record IsEntry (at : Path → Merged) (path_of : ℕ → Path) (highest : ℕ) (e : Entry) :
    Type 0 where
  pub after_parent : e.parent < e.number
  pub number : e.number ≤ highest
  pub path : path_of e.number ≡ below (path_of e.parent) e.label
  pub merged : e.merged ≡ at (path_of e.number)
  pub any : 0 < (at (path_of e.number)).number

-- A table of all occurrences, in the order in which its forest is made.
pub record IsTable (all : List Occurrence) (frames : ℕ) (path_of : ℕ → Path) (highest : ℕ)
    (entries : List Entry) : Type 0 where
  pub top : path_of 0 ≡ []
  pub apart : (p q : ℕ) → p ≤ highest → q ≤ highest → path_of p ≡ path_of q → p ≡ q
  pub each : Each (IsEntry (merged_at all) path_of highest) entries
  pub whole : All (λ o. Some_of (λ e. path_of e.number ≡ o.path) entries) all
  pub order : InOrder (merged_at all) path_of entries
  pub starts : (p : ℕ) → p ≤ highest →
      map (λ e. e.start) (children_of p entries)
      ≡ earliest_starts (pos 0) (
      map (λ e. sibling_of e.merged frames) (children_of p entries))

-- ---- the entries of ordered nodes

-- what the forest is made of: the ordered nodes, with their nodes' sums and where they are placed
abbrev pub entry_of : List table.Node → OrderedNode → Placement → table.Node → Entry
entry_of nodes p placements d = record {
  parent = p.parent.number;
  number = p.number.number;
  label = node_label p;
  merged = merged_of_sums (slice_index_or nodes (p.number.number - 1) d).sums;
  start = placements.start;
}

-- the entries of these ordered nodes, each placed after the one before it
abbrev pub entries_from : List table.Node → ℕ → Placement → List OrderedNode → table.Node → List Entry
entries_from nodes frames before [] d = []
entries_from nodes frames before (p ∷ ordered_nodes) d =
    let placement = next_placement nodes frames before p d in
    entry_of nodes p placement d ∷ entries_from nodes frames placement ordered_nodes d
