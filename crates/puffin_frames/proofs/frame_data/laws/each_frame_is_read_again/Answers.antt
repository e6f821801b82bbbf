use Rattle.puffin_frames.proofs.lemmas.FramesAgain.{frame_holds, frame_again}
use Rattle.puffin_frames.proofs.frame_data.laws.each_frame_is_read_again.Goals as goal

pub returns-clause-holds : goal.returns-clause-holds
returns-clause-holds c = frame_holds

pub returns-clause-again : goal.returns-clause-again
returns-clause-again c = frame_again
