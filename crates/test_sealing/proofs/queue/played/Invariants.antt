use Rattle.test_sealing.proofs.queue.played.Given as goal

abbrev pub ghosts-played_with-L-Ledger : goal.ghosts-played_with-L-Ledger
ghosts-played_with-L-Ledger a = record { name = a.claims.name; parts = a.claims.parts }

abbrev pub ghosts-played_with-M-Ledger : goal.ghosts-played_with-M-Ledger
ghosts-played_with-M-Ledger a = record { name = a.takes.name; parts = a.takes.parts }
