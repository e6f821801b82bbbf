use Rattle.check_bench.proofs.shared_views.run.Given as goal

abbrev pub ghosts-viewed-L-Ledger : goal.ghosts-viewed-L-Ledger
ghosts-viewed-L-Ledger g a = record { name = a.reported.name; parts = a.reported.parts }

abbrev pub ghosts-viewed-L-History : goal.ghosts-viewed-L-History
ghosts-viewed-L-History g a = record { history = a.log.name }

abbrev pub ghosts-viewed-M-Ledger : goal.ghosts-viewed-M-Ledger
ghosts-viewed-M-Ledger g a = record { name = a.handed.name; parts = a.handed.parts }
