use Rattle.std.proofs.Common.{◌≡◌, ◌<◌, ◌≤◌}
use Rattle.flow_core.specs.Gatherings.{awaited}
use Rattle.rounds.specs.Rounds.{IsFair, Moves, ReadsNoneIn, due_in}
use Rattle.rounds.proofs.round.machine.Round.make_room.Given as goal

abbrev pub invariant-loop : goal.invariant-loop
invariant-loop g l = record {
  ok : Moves g.S.Source.input g.O.Outlet.output l.settings l.fn.self l.self;
  none_read : ReadsNoneIn l.fn.self l.self;
  fair : IsFair l.fn.self l.self;
  due : due_in l.self ≡ due_in l.fn.self;
  fewer : awaited l.self.collector.sequences ≤ awaited l.fn.self.collector.sequences;
  idle : awaited l.fn.self.collector.sequences < l.fn.self.collector.most → l.self ≡ l.fn.self;
}
