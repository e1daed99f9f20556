use Rattle.fixture_refused_memory.proofs.sealing_run.run.Given as goal

abbrev pub ghosts-run_with-L-Ledger : goal.ghosts-run_with-L-Ledger
ghosts-run_with-L-Ledger g a = record { name = a.claims.name; parts = a.claims.parts }

abbrev pub ghosts-run_with-M-Ledger : goal.ghosts-run_with-M-Ledger
ghosts-run_with-M-Ledger g a = record { name = a.takes.name; parts = a.takes.parts }
