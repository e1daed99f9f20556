use Rattle.std.proofs.Common.{◌≡◌, replicate}
use Rattle.metrics.specs.Seens.{unseen}
use Rattle.program.proofs.metrics_writer.none_seen.Given as goal

abbrev pub invariant-loop : goal.invariant-loop
invariant-loop l = l.seen.items ≡ replicate l.counter unseen
