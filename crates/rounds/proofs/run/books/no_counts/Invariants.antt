use Rattle.std.proofs.Common.{◌≡◌, length}
use Rattle.std.specs.Prelude.{sum}
use Rattle.rounds.proofs.run.books.no_counts.Given as goal

abbrev pub invariant-loop : goal.invariant-loop
invariant-loop l = record {
  none : sum l.counts.items ≡ 0;
  each : length l.counts.items ≡ l.counter;
}
