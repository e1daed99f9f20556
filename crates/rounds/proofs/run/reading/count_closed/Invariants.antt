use Rattle.std.proofs.Common.{◌≡◌, ◌*◌, ◌≤◌, ◌^◌, take}
use Rattle.rounds.specs.Paces.{closed_in}
use Rattle.rounds.proofs.run.reading.count_closed.Given as goal

abbrev pub invariant-loop-lane : goal.invariant-loop-lane
invariant-loop-lane l = record {
  all : l.all ≡ closed_in (take l.lane-index l.lanes);
  bound : l.all ≤ l.lane-index * 2 ^ 64;
}
