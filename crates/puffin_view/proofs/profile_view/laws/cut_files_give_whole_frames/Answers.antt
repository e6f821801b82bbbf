use Rattle.puffin_view.proofs.FilesCut.{file_cut, cut_read, cut_given, cut_ends, cut_fails}
use Rattle.puffin_view.proofs.profile_view.laws.cut_files_give_whole_frames.Goals as goal

pub returns-clause-cut : goal.returns-clause-cut
returns-clause-cut c cs bytes lost e long = file_cut cs bytes lost e long

pub returns-clause-file : goal.returns-clause-file
returns-clause-file c cs bytes whole h all few ids =
    cut_read cs bytes whole h c.written_is_read.ensures.again all few ids

pub returns-clause-given : goal.returns-clause-given
returns-clause-given c cs bytes whole h all ids new frames g =
    cut_given cs bytes whole h new frames c.written_is_read.ensures.again all ids g

pub returns-clause-end : goal.returns-clause-end
returns-clause-end c cs bytes whole h all ids mid new frames g e =
    cut_ends cs bytes whole h mid new frames c.written_is_read.ensures.again all ids g e

pub returns-clause-fault : goal.returns-clause-fault
returns-clause-fault c cs bytes whole h all ids mid new frames f g e inside =
    cut_fails cs bytes whole h mid new frames f c.written_is_read.ensures.again all ids g e inside
