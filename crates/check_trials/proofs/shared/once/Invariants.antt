-- The two ledgers and the history of the run, told apart by the blanks and the log.
use Rattle.check_trials.proofs.shared.once.Given as goal

abbrev pub ghosts-opened-L-Ledger : goal.ghosts-opened-L-Ledger
ghosts-opened-L-Ledger g a = record { name = a.reported.name; parts = a.reported.parts }

abbrev pub ghosts-opened-L-History : goal.ghosts-opened-L-History
ghosts-opened-L-History g a = record { history = a.log.name }

abbrev pub ghosts-opened-M-Ledger : goal.ghosts-opened-M-Ledger
ghosts-opened-M-Ledger g a = record { name = a.handed.name; parts = a.handed.parts }
