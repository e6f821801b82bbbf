use Rattle.puffin_frames.proofs.FramesTaken.{stored_at_front}
use Rattle.puffin_frames.proofs.frame_data.laws.only_packets_are_read.Goals as goal

pub returns : goal.returns
returns c bytes rest stored are_bytes = stored_at_front bytes rest stored are_bytes
