use Rattle.std.proofs.Common.{◌≡◌, false, length, replicate}
use Rattle.rounds.proofs.run.first.open_ends.Given as goal

abbrev pub invariant-loop : goal.invariant-loop
invariant-loop l = record {
  ended : l.ended.items ≡ replicate l.counter false;
  spare : length l.spare.items ≡ l.counter;
}
