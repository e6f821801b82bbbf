-- The two ledgers and the history of the run, told apart by the blanks and the log.
use Rattle.tests_puffin_shares.proofs.settling.a_report_without_scopes_comes_before_the_shares.Given as goal

abbrev pub ghosts-settled-L-Ledger : goal.ghosts-settled-L-Ledger
ghosts-settled-L-Ledger g a = record { name = a.reported.name; parts = a.reported.parts }

abbrev pub ghosts-settled-L-History : goal.ghosts-settled-L-History
ghosts-settled-L-History g a = record { history = a.log.name }

abbrev pub ghosts-settled-M-Ledger : goal.ghosts-settled-M-Ledger
ghosts-settled-M-Ledger g a = record { name = a.handed.name; parts = a.handed.parts }
