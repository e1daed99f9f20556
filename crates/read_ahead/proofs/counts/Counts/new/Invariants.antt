use Rattle.std.proofs.Common.{◌≡◌, false}
use Rattle.std.proofs.Math.ListN.{replicate}
use Rattle.read_ahead.proofs.counts.Counts.new.Given as goal

abbrev pub invariant-loop : goal.invariant-loop
invariant-loop l = record {
  none_given : l.backlogs.items ≡ replicate l.counter (record { bytes = 0; blocks = 0; left = false });
  all_awaited : l.all_since.items ≡ replicate l.counter l.since.at;
}
