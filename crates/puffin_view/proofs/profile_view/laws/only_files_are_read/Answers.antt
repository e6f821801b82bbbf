use Rattle.puffin_view.proofs.FileGrammar.{file_by_format, file_refused}
use Rattle.puffin_view.proofs.profile_view.laws.only_files_are_read.Goals as goal

pub returns-clause-read : goal.returns-clause-read
returns-clause-read c bytes frames after is = file_by_format c.only_packets_are_read.ensures bytes frames after is

pub returns-clause-missing : goal.returns-clause-missing
returns-clause-missing c bytes frames after is h few missing =
    file_refused c.only_packets_are_read.ensures bytes frames after is h few missing
