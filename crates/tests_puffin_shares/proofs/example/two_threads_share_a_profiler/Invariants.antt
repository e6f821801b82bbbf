-- The two ledgers and the history of the run, told apart by the blanks and the log.
use Rattle.tests_puffin_shares.proofs.example.two_threads_share_a_profiler.Given as goal

abbrev pub ghosts-loaded-L-Ledger : goal.ghosts-loaded-L-Ledger
ghosts-loaded-L-Ledger g a = record { name = a.reported.name; parts = a.reported.parts }

abbrev pub ghosts-loaded-L-History : goal.ghosts-loaded-L-History
ghosts-loaded-L-History g a = record { history = a.log.name }

abbrev pub ghosts-loaded-M-Ledger : goal.ghosts-loaded-M-Ledger
ghosts-loaded-M-Ledger g a = record { name = a.handed.name; parts = a.handed.parts }
