use Rattle.std.proofs.Common.{◌≡◌, false, replicate}
use Rattle.rounds.specs.Shown.{no_totals}
use Rattle.rounds.proofs.first_board.nothing_shown.Given as goal

abbrev pub invariant-loop : goal.invariant-loop
invariant-loop l = record {
  counts : l.counts.items ≡ replicate l.counter 0;
  ended : l.ended.items ≡ replicate l.counter false;
  totals : l.totals.items ≡ replicate l.counter no_totals;
}
