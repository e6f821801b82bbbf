-- The frames that an iterator over a view has left.
use Rattle.std.specs.Prelude.{List, map, ◌++◌}
use Rattle.std.specs.List.{filter, filter_map}
use Rattle.std.specs.FinMap as map
use Rattle.std.specs.VecDeque.Iter.{deque_iter_rest}
use Rattle.std.specs.declared.alloc.Global.{Global}
use Rattle.std.specs.declared.sync.Arc.{Arc}
use Rattle.puffin_frames.specs.declared.frame_data.frame.FrameData.{FrameData}
use Rattle.puffin_view.specs.declared.profile_view.frame_rows.FrameRowsIter.{FrameRowsIter}
use Rattle.puffin_view.specs.declared.profile_view.listings.RecentFrames.{RecentFrames}
use Rattle.puffin_view.specs.declared.profile_view.listings.SlowestFrames.{SlowestFrames}
use Rattle.puffin_view.specs.declared.profile_view.listings.AllFrames.{AllFrames}
use Rattle.puffin_view.specs.View.ViewedFrames.{Frame, index_of}
use Rattle.puffin_view.specs.View.FrameOf.{shared_frame}
use Rattle.puffin_view.specs.View.Ranking.{rank_index, has_number}

-- the older frames first, and then the row of the newest
abbrev pub frames_left : FrameRowsIter → List (Arc FrameData Global)
frames_left iter = iter.older ++ deque_iter_rest iter.newest

-- the frames held under the indices that are left
abbrev pub recent_left : RecentFrames → List Frame
recent_left iter = filter_map (map.get iter.held.now) (deque_iter_rest iter.rest)

abbrev pub all_left : AllFrames → List Frame
all_left iter = map shared_frame (frames_left iter.rest)

-- of all frames that are left, those whose index is among the ranks of the slowest
abbrev pub slowest_left : SlowestFrames → List Frame
slowest_left iter =
    filter (λ frame. has_number (index_of frame) (map rank_index iter.slow.now.items)) (
    map shared_frame (frames_left iter.rest))
