use Rattle.std.proofs.Common.{◌≡◌, map, take}
use Rattle.rounds.specs.Showing.{totals_of}
use Rattle.rounds.proofs.giving.snapshots.totals.Given as goal

abbrev pub invariant-loop-i : goal.invariant-loop-i
invariant-loop-i l = l.totals.items ≡ map totals_of (take l.i l.playlists)
