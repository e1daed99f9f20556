use Rattle.test_rounds.proofs.desk_tests.fed.Given as goal

abbrev pub ghosts-fed_with-L-Ledger : goal.ghosts-fed_with-L-Ledger
ghosts-fed_with-L-Ledger g a = record { name = a.claims.name; parts = a.claims.parts }

abbrev pub ghosts-fed_with-M-Ledger : goal.ghosts-fed_with-M-Ledger
ghosts-fed_with-M-Ledger g a = record { name = a.takes.name; parts = a.takes.parts }
