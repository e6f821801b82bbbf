use Rattle.puffin_frames.proofs.Sharing.{SharesInOrder}
use Rattle.puffin_frames.proofs.frame_data.thread_streams.share_streams.Given as goal

-- what is shared, with what is left, is what there was
abbrev pub invariant-loop-thread : goal.invariant-loop-thread
invariant-loop-thread l = SharesInOrder l.shared.entries l.thread-iterator l.fn.streams.entries
