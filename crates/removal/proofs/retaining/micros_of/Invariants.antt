use Rattle.std.proofs.Common.{◌≡◌, map, take}
use Rattle.removal.proofs.retaining.micros_of.Given as goal

abbrev pub invariant-loop-row : goal.invariant-loop-row
invariant-loop-row l = l.micros.items ≡ map (λ row. row.micros) (take l.row-index l.rows)
