use Rattle.std.proofs.Common.{length}
use Rattle.puffin_view.proofs.lemmas.FilesRead.{spent, most_frames}
use Rattle.puffin_view.proofs.profile_view.laws.files_have_an_end.Goals as goal

pub returns : goal.returns
returns c old new frames h many = spent old new frames (most_frames (length frames) many) h
