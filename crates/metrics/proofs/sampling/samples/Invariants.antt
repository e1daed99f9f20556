use Rattle.std.proofs.Common.{◌≡◌, map}
use Rattle.std.specs.List.{range_with_len}
use Rattle.metrics.specs.Samples.{facts_of}
use Rattle.metrics.specs.Told.{told_at}
use Rattle.metrics.proofs.sampling.samples.Given as goal

abbrev pub invariant-loop-r : goal.invariant-loop-r
invariant-loop-r l = map facts_of l.samples.items ≡ map (told_at (map (λ t. t.now) l.names) l.glance l.known l.now) (range_with_len 0 l.r)
