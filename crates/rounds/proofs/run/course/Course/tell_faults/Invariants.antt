use Rattle.std.proofs.Common.{◌≡◌}
use Rattle.rounds.specs.Heralds.{TellsAll}
use Rattle.rounds.proofs.run.course.Course.tell_faults.Given as goal

abbrev pub invariant-loop-r : goal.invariant-loop-r
invariant-loop-r g l = record {
  tells : TellsAll (g.H.Herald.was_told l.fn.telling.herald.now) l.r l.fn.telling.told l.self.lanes.items l.telling.told;
  herald : l.telling.herald ≡ l.fn.telling.herald;
}
