-- The two ledgers and the history of the run, told apart by the blanks and the log.
use Rattle.tests_puffin_shares.proofs.long_texts.long_texts_are_handed_out_whole.Given as goal

abbrev pub ghosts-reported-L-Ledger : goal.ghosts-reported-L-Ledger
ghosts-reported-L-Ledger g a = record { name = a.reported.name; parts = a.reported.parts }

abbrev pub ghosts-reported-L-History : goal.ghosts-reported-L-History
ghosts-reported-L-History g a = record { history = a.log.name }

abbrev pub ghosts-reported-M-Ledger : goal.ghosts-reported-M-Ledger
ghosts-reported-M-Ledger g a = record { name = a.handed.name; parts = a.handed.parts }
