use Rattle.std.proofs.Common.{◌≡◌, map}
use Rattle.std.specs.List.{range_with_len}
use Rattle.metrics.specs.Seens.{again_at}
use Rattle.metrics.proofs.seen.seen_again.Given as goal

abbrev pub invariant-loop-r : goal.invariant-loop-r
invariant-loop-r l = l.next.items ≡ map (again_at l.seen l.counts l.now) (range_with_len 0 l.r)
