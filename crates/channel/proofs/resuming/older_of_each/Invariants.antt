use Rattle.std.proofs.Common.{◌≡◌, map, take}
use Rattle.channel.specs.Resuming.{older_from}
use Rattle.channel.proofs.resuming.older_of_each.Given as goal

abbrev pub invariant-loop-r : goal.invariant-loop-r
invariant-loop-r l = map (λ n. n.items) l.older.items ≡ older_from l.scan l.most 0 (take l.r l.found)
