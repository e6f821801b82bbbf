use Rattle.check_bench.proofs.threads.run.Given as goal

abbrev pub ghosts-round-L-Ledger : goal.ghosts-round-L-Ledger
ghosts-round-L-Ledger g a = record { name = a.reported.name; parts = a.reported.parts }

abbrev pub ghosts-round-L-History : goal.ghosts-round-L-History
ghosts-round-L-History g a = record { history = a.log.name }

abbrev pub ghosts-round-M-Ledger : goal.ghosts-round-M-Ledger
ghosts-round-M-Ledger g a = record { name = a.handed.name; parts = a.handed.parts }
