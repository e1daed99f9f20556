use Rattle.fixture_refused_memory.proofs.feeding.feeding.Given as goal

abbrev pub ghosts-feeding_with-L-Ledger : goal.ghosts-feeding_with-L-Ledger
ghosts-feeding_with-L-Ledger g a = record { name = a.claims.name; parts = a.claims.parts }

abbrev pub ghosts-feeding_with-M-Ledger : goal.ghosts-feeding_with-M-Ledger
ghosts-feeding_with-M-Ledger g a = record { name = a.takes.name; parts = a.takes.parts }
