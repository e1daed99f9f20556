use Rattle.std.proofs.Common.{◌≡◌}
use Rattle.rounds.specs.Begun.{keys_of}
use Rattle.rounds.specs.Permitted.{IsSpooled, or_shown}
use Rattle.rounds.proofs.round.starting.run_round.Given as goal

abbrev pub ghosts-round_with-L-Ledger : goal.ghosts-round_with-L-Ledger
ghosts-round_with-L-Ledger g a = record { name = a.claims.name; parts = a.claims.parts }

abbrev pub ghosts-round_with-M-Ledger : goal.ghosts-round_with-M-Ledger
ghosts-round_with-M-Ledger g a = record { name = a.takes.name; parts = a.takes.parts }

abbrev pub ghosts-round_with-P-Permit : goal.ghosts-round_with-P-Permit
ghosts-round_with-P-Permit g a = record {
  permits = or_shown (λ r n. g.G.Gate.lets a.setup.now.gate.now r n) a.between.broadcast.held.publisher.list;
  keys = λ keys. keys ≡ keys_of a.setup.now.settings.now;
  plans = IsSpooled a.spools.now;
}
