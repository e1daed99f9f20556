use Rattle.std.proofs.Common.{◌≡◌, take}
use Rattle.keeping.specs.Keepings.{steps_before}
use Rattle.keeping.proofs.keeping.listed_so_far.Given as goal

abbrev pub invariant-loop-each : goal.invariant-loop-each
invariant-loop-each l = l.kept ≡ record { least = l.least; steps = steps_before (take l.each-index l.micros) }
