use Rattle.puffin_frames.proofs.lemmas.PackedAgain.{read_again}
use Rattle.puffin_frames.proofs.lemmas.LayoutsKept.{none_laid_out}
use Rattle.puffin_frames.proofs.frame_data.laws.streams_with_a_layout.Goals as goal

pub returns-clause-again : goal.returns-clause-again
returns-clause-again c = read_again

pub returns-clause-none : goal.returns-clause-none
returns-clause-none c = none_laid_out
