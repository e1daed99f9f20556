use Rattle.ts_packet.proofs.Decided.{decided-IsDecided, IsDecided-once}
use Rattle.ts_packet.proofs.laws.decided_is_the_longest.Goals as goal

pub returns-clause-is : goal.returns-clause-is
returns-clause-is c = decided-IsDecided

pub returns-clause-only : goal.returns-clause-only
returns-clause-only c = λ front other is. IsDecided-once front _ _ is (decided-IsDecided front)
