-- The table of nodes, and how it grows.
use Rattle.std.specs.Prelude.{◌≡◌, ℕ, ◌+◌, ◌<◌, ◌≤◌, ◌^◌, ℤ, max, List, [], ◌∷◌, ◌++◌, map, fold, slice_index_or, slice_set, All, vec_len}
use Rattle.std.specs.Int.{int_min}
use Rattle.puffin_merge.specs.declared.merge.table.Table.{Table}
use Rattle.puffin_merge.specs.declared.merge.table.Node.{Node}
use Rattle.puffin_merge.specs.declared.merge.table.Key.{Key}
use Rattle.puffin_merge.specs.declared.merge.table.KeyRef.{KeyRef}
use Rattle.puffin_merge.specs.declared.merge.table.PieceTotals.{PieceTotals}
use Rattle.puffin_merge.specs.inner.Found.{key_label, ref_label}
use Rattle.puffin_merge.specs.Merge.Occurrences.{Label, Path, Occurrence}
use Rattle.puffin_merge.specs.Merge.Pieces.{Merged, merged_at}
use Rattle.puffin_merge.specs.Merge.{below}
use Rattle.puffin_merge.specs.Merge.Refusals.{SumsFit}

-- a node's sums, as those of a path
abbrev pub merged_of_sums : PieceTotals → Merged
merged_of_sums sums = record {
  number = sums.number;
  total = sums.total;
  greatest = sums.greatest;
  own_start = sums.own_start;
}

-- ---- paths

-- one path more: that of a node with this key, whose parent's path is among these
abbrev pub with_path : List Path → Key → List Path
with_path paths key =
    paths ++ (below (slice_index_or paths key.parent.number []) (key_label key) ∷ [])

-- The paths by node number: 0 has the empty path, and a node's path is its label below its parent's path.
abbrev pub paths_of : List Key → List Path
paths_of keys = fold with_path ([] ∷ []) keys

abbrev pub keys_in : List Node → List Key
keys_in nodes = map (λ node. node.key) nodes

-- the path of the node with this number
abbrev pub path_at : List Node → ℕ → Path
path_at nodes number = slice_index_or (paths_of (keys_in nodes)) number []

-- ---- a table of occurrences

-- The node at place k, whose number is k + 1, has the sums of its path's occurrences.
pub record IsNodeOf (all : List Occurrence) (nodes : List Node) (k : ℕ) (node : Node) : Type 0 where
  pub id : 0 < node.key.id
  -- a parent is before its children
  pub earlier : node.key.parent.number ≤ k
  pub path : path_at nodes (k + 1)
      ≡ below (path_at nodes node.key.parent.number) (key_label node.key)
  pub sums : merged_of_sums node.sums ≡ merged_at all (path_at nodes (k + 1))
  pub some : 0 < node.sums.number
  pub small : node.sums.total < 2 ^ 63
  pub greatest : node.sums.greatest ≤ node.sums.total

-- The table has one node for each path of these occurrences, with the path's sums, and no other nodes.
pub record IsTableOf (all : List Occurrence) (t : Table) : Type 0 where
  pub each : (k : ℕ) (default : Node) → k < vec_len t.nodes →
      IsNodeOf all t.nodes.items k (slice_index_or t.nodes.items k default)
  -- no two numbers have the same path
  pub apart : (number other : ℕ) → number ≤ vec_len t.nodes → other ≤ vec_len t.nodes →
      path_at t.nodes.items number ≡ path_at t.nodes.items other → number ≡ other
  -- each occurrence has a node
  pub whole : All (λ occurrence. (k : ℕ) × (k < vec_len t.nodes)
      × (path_at t.nodes.items (k + 1) ≡ occurrence.path)) all

-- ---- one piece more

-- a node of one piece
abbrev pub new_node : Key → ℤ → ℕ → Node
new_node key own_start duration = record {
  key = key;
  sums = record { number = 1; total = duration; greatest = duration; own_start = own_start };
}

-- the node, with one more piece
abbrev pub node_with_piece : Node → ℤ → ℕ → Node
node_with_piece node own_start duration = record {
  key = node.key;
  sums = record {
    number = node.sums.number + 1;
    total = node.sums.total + duration;
    greatest = max node.sums.greatest duration;
    own_start = int_min node.sums.own_start own_start;
  };
}

-- the number and the total of the node at place k fit with one more piece of this duration
abbrev pub FitsOneMore : List Node → ℕ → ℕ → Type 0
FitsOneMore nodes k duration =
    (default : Node) →
    ((slice_index_or nodes k default).sums.number + 1 < 2 ^ 64)
    × ((slice_index_or nodes k default).sums.total + duration < 2 ^ 63)

-- one piece was added to the node at place k, whose sums fit, and nothing else changed
abbrev pub AddsPieceAt : Table → ℕ → ℤ → ℕ → Table → Type 0
AddsPieceAt before k own_start duration after =
    (after.texts ≡ before.texts)
    × (after.numbers ≡ before.numbers)
    × ((default : Node) → after.nodes.items
    ≡ slice_set before.nodes.items k (
    node_with_piece (slice_index_or before.nodes.items k default) own_start duration))
    × FitsOneMore before.nodes.items k duration

-- ---- one occurrence more

-- an occurrence with this label directly below the node with this number
abbrev pub occurrence_at : Table → ℕ → Label → ℤ → ℕ → Occurrence
occurrence_at t parent label own_start duration = record {
  path = below (path_at t.nodes.items parent) label;
  own_start = own_start;
  duration = duration;
}

-- an occurrence with this key
abbrev pub occurrence_of_key : Table → KeyRef → ℤ → ℕ → Occurrence
occurrence_of_key t key own_start duration =
    occurrence_at t key.parent.number (ref_label key) own_start duration

-- the nodes of a table keep their numbers and their paths
pub record Extends (before after : Table) : Type 0 where
  pub longer : vec_len before.nodes ≤ vec_len after.nodes
  pub kept : (number : ℕ) → number ≤ vec_len before.nodes →
      path_at after.nodes.items number ≡ path_at before.nodes.items number

-- The occurrence, whose sums fit, was added to the node with this number.
pub record AddsAt (before : Table) (added : Occurrence) (at : ℕ) (after : Table) : Type 0 where
  pub number : at ≤ vec_len after.nodes
  pub path : path_at after.nodes.items at ≡ added.path
  pub extends : Extends before after
  pub fits : (all : List Occurrence) → IsTableOf all before → SumsFit all added
  pub table : (all : List Occurrence) → IsTableOf all before →
      IsTableOf (all ++ (added ∷ [])) after
