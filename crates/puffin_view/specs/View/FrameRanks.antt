-- The rank of a frame among the slowest, and the order of ranks.
use Rattle.std.specs.declared.cmp.Ordering.{Ordering}
use Rattle.std.specs.Ordering.{nat_cmp, int_cmp, ordering_then}
use Rattle.puffin_view.specs.declared.profile_view.slow_rank.SlowRank.{SlowRank}
use Rattle.puffin_view.specs.View.ViewedFrames.{Frame, index_of, duration_of}

abbrev pub rank_of : Frame → SlowRank
rank_of frame =
    record { duration_ns = record { 0 = duration_of frame }; frame_index = index_of frame }

-- by duration, longest first, then by index
abbrev pub rank_cmp : SlowRank → SlowRank → Ordering
rank_cmp rank other =
    ordering_then (int_cmp other.duration_ns.0 rank.duration_ns.0) (
    nat_cmp rank.frame_index other.frame_index)
