-- The two ledgers and the history of the run, told apart by the blanks and the log.
use Rattle.tests_puffin_shares.proofs.few_workers.three_shares_of_two_workers_and_a_taker_of_frames.Given as goal

abbrev pub ghosts-run-L-Ledger : goal.ghosts-run-L-Ledger
ghosts-run-L-Ledger g a = record { name = a.reported.name; parts = a.reported.parts }

abbrev pub ghosts-run-L-History : goal.ghosts-run-L-History
ghosts-run-L-History g a = record { history = a.log.name }

abbrev pub ghosts-run-M-Ledger : goal.ghosts-run-M-Ledger
ghosts-run-M-Ledger g a = record { name = a.handed.name; parts = a.handed.parts }
