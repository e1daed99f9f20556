use Rattle.fixture_refused_memory.proofs.feeding.flowing.Given as goal

abbrev pub ghosts-flowing_with-L-Ledger : goal.ghosts-flowing_with-L-Ledger
ghosts-flowing_with-L-Ledger g a = record { name = a.claims.name; parts = a.claims.parts }

abbrev pub ghosts-flowing_with-M-Ledger : goal.ghosts-flowing_with-M-Ledger
ghosts-flowing_with-M-Ledger g a = record { name = a.takes.name; parts = a.takes.parts }
