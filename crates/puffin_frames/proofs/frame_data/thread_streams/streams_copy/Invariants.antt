use Rattle.std.proofs.Common.{◌≡◌, ◌++◌}
use Rattle.puffin_frames.specs.inner.Pairs.{pairs_of}
use Rattle.puffin_frames.proofs.frame_data.thread_streams.streams_copy.Given as goal

-- the copies, with the entries that are left, are the entries of the map
abbrev pub invariant-streams : goal.invariant-streams
invariant-streams l = pairs_of l.copy.entries ++ pairs_of l.thread-iterator ≡ pairs_of l.streams.entries
