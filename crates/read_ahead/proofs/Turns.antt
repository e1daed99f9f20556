-- Each source counts with a turn at least.
use Rattle.std.proofs.Common.{◌<◌, List, [], ◌∷◌, arith}
use Rattle.read_ahead.specs.declared.backlog.Backlog.{Backlog}
use Rattle.read_ahead.specs.Shares.{turns}

pub turns_some : (backlogs : List Backlog) → 0 < turns backlogs
turns_some [] = omega arith
turns_some (backlog ∷ backlogs) = let some = turns_some backlogs in omega arith
