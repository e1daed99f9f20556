use Rattle.std.proofs.Common.{ℕ, ◌<◌}
use Rattle.keeping.specs.Keepings.{HasNameIf, keeping_at}
use Rattle.keeping.proofs.outlet.is_own_name.Given as goal

abbrev pub invariant-loop-r : goal.invariant-loop-r
invariant-loop-r l = (o : ℕ) → o < l.r → HasNameIf (keeping_at l.renditions o) l.name o l.rendition
