-- The two ledgers and the history of the run, told apart by the blanks and the log.
use Rattle.tests_puffin_shares.proofs.shared_calls.an_inner_scope_ends_while_the_lock_is_held.Given as goal

abbrev pub ghosts-called-L-Ledger : goal.ghosts-called-L-Ledger
ghosts-called-L-Ledger g a = record { name = a.reported.name; parts = a.reported.parts }

abbrev pub ghosts-called-L-History : goal.ghosts-called-L-History
ghosts-called-L-History g a = record { history = a.log.name }

abbrev pub ghosts-called-M-Ledger : goal.ghosts-called-M-Ledger
ghosts-called-M-Ledger g a = record { name = a.handed.name; parts = a.handed.parts }
