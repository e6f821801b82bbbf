-- The merged scopes of a thread, as a program gets them: a list of nodes, each before its children.
use Rattle.std.specs.Prelude.{◌≡◌, ◌⊎◌, ℕ, ◌+◌, List, [], ◌∷◌, ◌++◌, length, map, Option, Some, None, Result, Ok, Err}
use Rattle.std.specs.List.{flat_map}
use Rattle.std.specs.Str.{IsUtf8}
use Rattle.puffin_data.specs.declared.error.Error.{Error}
use Rattle.puffin_data.specs.declared.error.Error.TheVariants as error
use Rattle.puffin_data.specs.declared.file_error.FileError.{FileError}
use Rattle.puffin_threads.specs.Thread.ThreadKey.{ThreadKey}
use Rattle.puffin_frames.specs.Packet.Stored.{PacketFields}
use Rattle.puffin_merge.specs.Merge.FrameBytes.{FrameBytes}
use Rattle.puffin_merge.specs.Merge.Refusals.{IsMergeRefusal, AreMerged}
use Rattle.puffin_merge.specs.Merge.Scopes.{forest_in}
use Rattle.puffin_merge.specs.Merge.Tree.{Node, MergedForest, no_node, merged}
use Rattle.puffin_view.specs.View.Known.{KnownView, view_of}
use Rattle.puffin_view.specs.View.Ranking.{last_of}
use Rattle.puffin_view.specs.View.ViewedFrames.{fields_of}
use Rattle.puffin_report.specs.declared.summary.Summary.{Summary}
use Rattle.puffin_report.specs.Report.{HasSummary}
use Rattle.puffin_report.specs.Summary.{all_bytes_in}
use Rattle.puffin_c.specs.declared.fault.Fault.{Fault}
use Rattle.puffin_c.specs.declared.fault.Fault.TheVariants as fault
use Rattle.puffin_c.specs.declared.merged.MergedList.{MergedList}
use Rattle.puffin_c.specs.declared.merged.PuffinMerged.{PuffinMerged}
use Rattle.puffin_c.specs.declared.merged.PuffinMergedList.{PuffinMergedList}
use Rattle.puffin_c.specs.declared.profiler.Profiler.{Profiler}
use Rattle.puffin_c.specs.Faults.{file_fault}
use Rattle.puffin_c.specs.Lists.{GetsList}
use Rattle.puffin_c.specs.Reporting.{LacksSummary}

-- ---- the nodes of a forest

-- a node, and the number of nodes that it is nested in
pub record PlacedNode : Type 0 where
  pub node : Node
  pub depth : ℕ

-- the nodes of a forest whose top nodes have this depth, each before its children
abbrev pub nodes_from : ℕ → MergedForest → List PlacedNode
nodes_from depth no_node = []
nodes_from depth (merged n children others) =
    record { node = n; depth = depth }
    ∷ (nodes_from (depth + 1) children ++ nodes_from depth others)

-- ---- their rows and texts

-- a node whose text begins at this offset
abbrev pub merged_row : ℕ → PlacedNode → PuffinMerged
merged_row at placed = record {
  start_ns = placed.node.start;
  total_ns = placed.node.total;
  per_frame_ns = placed.node.per_frame;
  max_ns = placed.node.greatest;
  pieces = placed.node.pieces;
  depth = placed.depth;
  text_at = at;
  text_size = length placed.node.label.text;
  id = placed.node.label.id;
}

-- nodes whose texts begin at this offset, one behind the other
abbrev pub merged_rows : ℕ → List PlacedNode → List PuffinMerged
merged_rows at [] = []
merged_rows at (placed ∷ rest) =
    merged_row at placed ∷ merged_rows (at + length placed.node.label.text) rest

abbrev pub merged_texts : List PlacedNode → List ℕ
merged_texts nodes = flat_map (λ p. p.node.label.text) nodes

-- the rows and texts of these nodes are appended
pub record AppendsNodes (old : MergedList) (nodes : List PlacedNode) (new : MergedList) : Type 0 where
  pub rows : new.rows.items ≡ old.rows.items ++ merged_rows (length old.texts.items) nodes
  pub texts : new.texts.items ≡ old.texts.items ++ merged_texts nodes

-- the list of a forest
pub record IsListOf (forest : MergedForest) (list : MergedList) : Type 0 where
  pub rows : list.rows.items ≡ merged_rows 0 (nodes_from 0 forest)
  pub texts : list.texts.items ≡ merged_texts (nodes_from 0 forest)

-- the program gets the list of a forest
abbrev pub GetsMerged : MergedForest → PuffinMergedList → PuffinMergedList → Type 0
GetsMerged forest old new =
    GetsList (merged_rows 0 (nodes_from 0 forest)) (merged_texts (nodes_from 0 forest)) old.rows new.rows
    old.bytes new.bytes new.num_rows new.num_bytes

-- ---- merging a file

-- Either the name is UTF-8, and the program gets the merged scopes of the file's summary; or nothing is changed. A name that
-- isn't UTF-8 is reported before any fault in the file.
abbrev pub MergesFile : List ℕ → ThreadKey → PuffinMergedList → PuffinMergedList →
    Result (Unit {0}) Fault → Type 0
MergesFile file info old new (Ok _) =
    IsUtf8 info.name
    × (left : Option (List ℕ))
    × (summary : Summary)
    × HasSummary info (Some file) left summary
    × GetsMerged (forest_in summary.merged.items) old new
MergesFile file info old new (Err cause) =
    (new ≡ old)
    × (((cause ≡ fault.NotText) × ¬ (IsUtf8 info.name))
    ⊎ (IsUtf8 info.name × (file_error : FileError) × (cause ≡ file_fault file_error)
    × LacksSummary file info file_error))

-- ---- merging a view

-- the contents of the last n recent frames of a view, oldest first
abbrev pub newest_fields : ℕ → KnownView → List PacketFields
newest_fields number view = map fields_of (last_of number (view_of view).recent)

-- frames with these contents are unpacked, and merged into a forest
abbrev pub IsMergeOf : ThreadKey → List PacketFields → MergedForest → Type 0
IsMergeOf info fields forest =
    (streams : List FrameBytes) × (all_bytes_in info fields ≡ Ok streams) × AreMerged streams forest

-- why there is no merge of frames with these contents: a lack of memory, the first frame that can't be unpacked or, if each can be,
-- what refuses their merge
abbrev pub LacksMerge : ThreadKey → List PacketFields → Fault → Type 0
LacksMerge info fields cause =
    (cause ≡ fault.Refused error.Memory)
    ⊎ ((file_error : FileError) × (cause ≡ file_fault file_error)
    × (all_bytes_in info fields ≡ Err file_error))
    ⊎ ((streams : List FrameBytes)
    × (file_error : Error)
    × (cause ≡ fault.Refused file_error)
    × (all_bytes_in info fields ≡ Ok streams)
    × IsMergeRefusal streams file_error)

-- Either the handle holds a profiler, the name is UTF-8, and the program gets the merged scopes of the last n recent frames of its
-- view; or nothing is changed, and the fault is the first that applies.
abbrev pub MergesView : Option Profiler → ℕ → ThreadKey → PuffinMergedList → PuffinMergedList →
    Result (Unit {0}) Fault → Type 0
MergesView held number info old new (Ok _) =
    (profiler : Profiler)
    × (forest : MergedForest)
    × (held ≡ Some profiler)
    × IsUtf8 info.name
    × IsMergeOf info (newest_fields number profiler.view) forest
    × GetsMerged forest old new
MergesView held number info old new (Err cause) =
    (new ≡ old)
    × (((cause ≡ fault.NotOpen) × (held ≡ None))
    ⊎ ((profiler : Profiler)
    × (held ≡ Some profiler)
    × (((cause ≡ fault.NotText) × ¬ (IsUtf8 info.name))
    ⊎ (IsUtf8 info.name × LacksMerge info (newest_fields number profiler.view) cause))))
