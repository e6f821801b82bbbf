-- A call alone, and the same after the frames before it.
use Rattle.puffin_view.proofs.lemmas.FilesRead.{given_more, all_given, fault_given}
use Rattle.puffin_view.proofs.profile_view.frame_file.next_frame.Goals as goal

pub returns-clause-given : goal.returns-clause-given
returns-clause-given g c = given_more _ _ c.checked_frame.result c.checked_frame.ensures.next

pub returns-clause-end : goal.returns-clause-end
returns-clause-end g c = all_given _ _ c.checked_frame.result c.checked_frame.ensures.next

pub returns-clause-fault : goal.returns-clause-fault
returns-clause-fault g c = fault_given _ _ c.checked_frame.result c.checked_frame.ensures.next
