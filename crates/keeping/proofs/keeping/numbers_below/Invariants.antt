use Rattle.std.proofs.Common.{◌≡◌, take}
use Rattle.keeping.specs.Keepings.{below}
use Rattle.keeping.proofs.keeping.numbers_below.Given as goal

abbrev pub invariant-loop-number : goal.invariant-loop-number
invariant-loop-number l = l.some.items ≡ below l.base (take l.number-index l.numbers)
