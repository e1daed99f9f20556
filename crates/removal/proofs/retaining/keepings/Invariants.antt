use Rattle.std.proofs.Common.{map, length, ◌≤◌}
use Rattle.removal.specs.Retaining.{AreKeptUpTo}
use Rattle.removal.proofs.retaining.keepings.Given as goal

abbrev pub invariant-loop-r : goal.invariant-loop-r
invariant-loop-r l = AreKeptUpTo l.settings (map (λ n. n.items) l.older) l.made.items l.r × (l.r ≤ length l.settings.renditions)
