use Rattle.std.proofs.Common.{Bool, map, drop, ap, ◌∙◌}
use Rattle.puffin_frames.specs.Packet.Stored.{packed}
use Rattle.puffin_view.proofs.FilesWritten.{unless_missing, file_again, files_apart}
use Rattle.puffin_view.proofs.profile_view.laws.written_files_are_read.Goals as goal

pub returns-clause-again : goal.returns-clause-again
returns-clause-again c cs end all few stops ids =
    file_again cs end c.written_is_read.ensures.again all few stops
    ∙ ap (λ (b : Bool). unless_missing b (map packed cs) (drop 4 end)) ids

pub returns-clause-missing : goal.returns-clause-missing
returns-clause-missing c cs end all few stops ids =
    file_again cs end c.written_is_read.ensures.again all few stops
    ∙ ap (λ (b : Bool). unless_missing b (map packed cs) (drop 4 end)) ids

pub returns-clause-one_list : goal.returns-clause-one_list
returns-clause-one_list c cs ds p q e = files_apart cs ds c.written_is_read.ensures.alone p q e
