-- What contracts see of frames and merged scopes.
use Rattle.std.specs.Prelude.{List, [], ◌∷◌, map, option_map}
use Rattle.std.specs.FinMap as tree
use Rattle.std.specs.Arc.{arc_value}
use Rattle.std.specs.Cow.{cow_str_bytes}
use Rattle.std.specs.declared.sync.Arc.{Arc}
use Rattle.std.specs.declared.alloc.Global.{Global}
use Rattle.puffin_data.specs.Honesty.{StreamFacts}
use Rattle.puffin_frames.specs.declared.frame_data.unpacked.UnpackedFrameData.{UnpackedFrameData}
use Rattle.puffin_threads.specs.Thread.ThreadKey.{ThreadKey}
use Rattle.puffin_frames.specs.Frame.Contents.{streams_held}
use Rattle.puffin_merge.specs.declared.merge.scope.MergeScope.{MergeScope, MergeScope', Row_of-MergeScope, end_of-MergeScope, more_of-MergeScope}
use Rattle.puffin_merge.specs.Merge.FrameBytes.{StreamBytes, FrameBytes}
use Rattle.puffin_merge.specs.Merge.Tree.{MergedForest, no_node, merged}

abbrev pub stream_in : StreamFacts → StreamBytes
stream_in facts = record { form = facts.form; bytes = facts.bytes }

-- the start of a frame's range, and its stream for a thread
abbrev pub frame_bytes : ThreadKey → UnpackedFrameData → FrameBytes
frame_bytes info frame = record {
  start = frame.meta.range_ns.0;
  stream = option_map stream_in (tree.get (streams_held frame) info);
}

-- the same of each frame
abbrev pub frames_bytes : ThreadKey → List (Arc UnpackedFrameData Global) → List FrameBytes
frames_bytes info frames = map (λ held. frame_bytes info (arc_value held)) frames

-- a merged scope and its siblings after it, as a forest
abbrev mutual
  pub scope_then : MergeScope → MergedForest → MergedForest
  scope_then (MergeScope' start total per_frame greatest pieces id text shape children) others =
      merged (
      record {
        label = record { id = id; text = cow_str_bytes text };
        start = start;
        total = total;
        per_frame = per_frame;
        greatest = greatest;
        pieces = pieces;
      })
      (children_in children) others

  pub children_in : {size : _} → Row_of-MergeScope size → MergedForest
  children_in end_of-MergeScope = no_node
  children_in (more_of-MergeScope scope rest) = scope_then scope (children_in rest)

-- merged scopes as a forest
abbrev pub forest_in : List MergeScope → MergedForest
forest_in [] = no_node
forest_in (scope ∷ scopes) = scope_then scope (forest_in scopes)
