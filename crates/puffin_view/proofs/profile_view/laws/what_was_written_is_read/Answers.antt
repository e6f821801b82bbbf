use Rattle.puffin_view.proofs.lemmas.FilesAgain.{frames_again, fault_again, view_again}
use Rattle.puffin_view.proofs.lemmas.FramesHeld.{read_again}
use Rattle.puffin_view.proofs.profile_view.laws.what_was_written_is_read.Goals as goal

pub returns-clause-frames : goal.returns-clause-frames
returns-clause-frames c cs new frames all few h = frames_again cs new frames c.written_is_read.ensures.again all few h

pub returns-clause-fault : goal.returns-clause-fault
returns-clause-fault c cs new e all few h not_it = fault_again cs new e c.written_is_read.ensures.again all few h not_it

pub returns-clause-view : goal.returns-clause-view
returns-clause-view c v new view all few h = view_again v new view c.written_is_read.ensures.again all few h

pub returns-clause-all : goal.returns-clause-all
returns-clause-all c v few = read_again v few
