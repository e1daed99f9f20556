use Rattle.std.proofs.Common.{◌≡◌}
use Rattle.read_ahead.proofs.waiting.first_ready.Given as goal

abbrev pub invariant-loop-number : goal.invariant-loop-number
invariant-loop-number g l = record {
  same : l.sources ≡ l.initial.sources;
  counted : l.unready.count ≡ l.number;
}
