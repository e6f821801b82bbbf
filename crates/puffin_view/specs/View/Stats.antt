-- The statistics of a list of frames.
use Rattle.std.specs.Prelude.{ℕ, ◌+◌, ◌-◌, ◌^◌, min, cond, List, length}
use Rattle.std.specs.List.{sum_by, count_by}
use Rattle.puffin_view.specs.declared.profile_view.stats.FrameStats.{FrameStats}
use Rattle.puffin_view.specs.View.ViewedFrames.{Frame, ram_of}

-- a sum, or the greatest usize if it doesn't fit
abbrev pub cut : ℕ → ℕ
cut number = min (2 ^ 64 - 1) number

-- the three numbers of statistics
abbrev pub frames_counted : FrameStats → ℕ
frames_counted stats = stats.frames

abbrev pub unpacked_counted : FrameStats → ℕ
unpacked_counted stats = stats.unpacked_frames

abbrev pub ram_counted : FrameStats → ℕ
ram_counted stats = stats.bytes_of_ram_used

-- the statistics of these frames
abbrev pub stats_of : List Frame → FrameStats
stats_of frames = record {
  frames = cut (length frames);
  unpacked_frames = cut (count_by (λ frame. frame.is_unpacked) frames);
  bytes_of_ram_used = cut (sum_by ram_of frames);
}

-- the same with one more frame
abbrev pub with_frame : FrameStats → Frame → FrameStats
with_frame stats next = record {
  frames = cut (stats.frames + 1);
  unpacked_frames = cut (stats.unpacked_frames + cond next.is_unpacked 1 0);
  bytes_of_ram_used = cut (stats.bytes_of_ram_used + ram_of next);
}
