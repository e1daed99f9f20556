use Rattle.std.proofs.Common.{◌≡◌, replicate, take}
use Rattle.rounds.proofs.run.fitting.shows_none.Given as goal

abbrev pub invariant-loop-count : goal.invariant-loop-count
invariant-loop-count l = take l.count-index l.counts ≡ replicate l.count-index 0
