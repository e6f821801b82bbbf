-- The two ledgers of the program and its history, told apart by the blanks and by the log.
use Rattle.example_threads.proofs.main.Given as goal

abbrev pub ghosts-record-L-Ledger : goal.ghosts-record-L-Ledger
ghosts-record-L-Ledger g a = record { name = a.reported.name; parts = a.reported.parts }

abbrev pub ghosts-record-L-History : goal.ghosts-record-L-History
ghosts-record-L-History g a = record { history = a.log.name }

abbrev pub ghosts-record-M-Ledger : goal.ghosts-record-M-Ledger
ghosts-record-M-Ledger g a = record { name = a.handed.name; parts = a.handed.parts }
