-- What was unpacked is read again.
use Rattle.puffin_frames.specs.Frame.Contents.{shared_streams, packed_as}
use Rattle.puffin_frames.proofs.Packings.{unpacked-again}
use Rattle.puffin_frames.proofs.frame_data.held.PackedStreams.unpacked_frame.Goals as goal

pub invariant_of-frame : goal.invariant_of-frame
invariant_of-frame c =
    let packed = c.args.self.now in
    record {
      ordered = c.requires.0;
      duration_fits = c.requires.1;
      read_again =
          unpacked-again (packed_as packed)
          (shared_streams c.in_ok-thread_streams.thread_streams.entries) packed.are_bytes
          c.in_ok-thread_streams.ensures;
    }
