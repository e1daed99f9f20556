use Rattle.test_sealing.proofs.flow.play.Given as goal

abbrev pub ghosts-play_with-L-Ledger : goal.ghosts-play_with-L-Ledger
ghosts-play_with-L-Ledger a = record { name = a.claims.name; parts = a.claims.parts }

abbrev pub ghosts-play_with-M-Ledger : goal.ghosts-play_with-M-Ledger
ghosts-play_with-M-Ledger a = record { name = a.takes.name; parts = a.takes.parts }
