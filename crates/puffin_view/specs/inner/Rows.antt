-- Frames sorted by index: those of a map, followed by those of a deque.
use Rattle.std.specs.Prelude.{ℕ, List, ◌++◌}
use Rattle.std.specs.declared.alloc.Global.{Global}
use Rattle.std.specs.declared.sync.Arc.{Arc}
use Rattle.puffin_frames.specs.declared.frame_data.frame.FrameData.{FrameData}
use Rattle.puffin_view.specs.declared.profile_view.frame_rows.FrameRows.{FrameRows}
use Rattle.puffin_view.specs.inner.Held.{keyed}

-- all frames, each with its index, in ascending order of index
abbrev pub rows_of : FrameRows → List (ℕ × Arc FrameData Global)
rows_of rows = rows.older.entries ++ keyed rows.newest.items
