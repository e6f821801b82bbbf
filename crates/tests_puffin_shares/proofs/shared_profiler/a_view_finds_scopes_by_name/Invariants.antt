-- The two ledgers and the history of the run, told apart by the blanks and the log.
use Rattle.tests_puffin_shares.proofs.shared_profiler.a_view_finds_scopes_by_name.Given as goal

abbrev pub ghosts-attached-L-Ledger : goal.ghosts-attached-L-Ledger
ghosts-attached-L-Ledger g a = record { name = a.reported.name; parts = a.reported.parts }

abbrev pub ghosts-attached-L-History : goal.ghosts-attached-L-History
ghosts-attached-L-History g a = record { history = a.log.name }

abbrev pub ghosts-attached-M-Ledger : goal.ghosts-attached-M-Ledger
ghosts-attached-M-Ledger g a = record { name = a.handed.name; parts = a.handed.parts }
