-- The two ledgers and the history of the run, told apart by the blanks and the log.
use Rattle.tests_puffin_shares.proofs.sinks.a_sink_that_refuses_is_counted_and_the_next_is_called.Given as goal

abbrev pub ghosts-handed_on-L-Ledger : goal.ghosts-handed_on-L-Ledger
ghosts-handed_on-L-Ledger g a = record { name = a.reported.name; parts = a.reported.parts }

abbrev pub ghosts-handed_on-L-History : goal.ghosts-handed_on-L-History
ghosts-handed_on-L-History g a = record { history = a.log.name }

abbrev pub ghosts-handed_on-M-Ledger : goal.ghosts-handed_on-M-Ledger
ghosts-handed_on-M-Ledger g a = record { name = a.handed.name; parts = a.handed.parts }
