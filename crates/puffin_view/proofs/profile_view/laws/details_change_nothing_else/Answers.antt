use Rattle.puffin_view.proofs.FilesWritten.{others_stay}
use Rattle.puffin_view.proofs.profile_view.laws.details_change_nothing_else.Goals as goal

pub returns : goal.returns
returns c = others_stay
