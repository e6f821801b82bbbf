use Rattle.puffin_frames.proofs.Packings.{holds_streams}
use Rattle.puffin_frames.proofs.frame_data.laws.packed_contents.Goals as goal

pub returns : goal.returns
returns c packing streams is = holds_streams packing streams is
