use Rattle.std.proofs.Common.{◌≡◌, ◌-◌, sum, take}
use Rattle.metrics.proofs.known.waiting.Given as goal

abbrev pub invariant-loop-count : goal.invariant-loop-count
invariant-loop-count l = l.left ≡ l.completed - sum (take l.count-index l.count-items)
