use Rattle.std.proofs.Common.{◌≡◌, All}
use Rattle.test_round_trip.proofs.run.sources_of.Given as goal

abbrev pub invariant-loop-r : goal.invariant-loop-r
invariant-loop-r l = All (λ source. (source.reads ≡ 0) × (source.failures ≡ 0)) l.sources.items
