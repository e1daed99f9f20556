use Rattle.std.proofs.Common.{◌≡◌, ◌<◌, ◌≤◌, ℕ}
use Rattle.flow_core.specs.Gatherings.{awaited}
use Rattle.rounds.specs.Rounds.{IsDry, KeepsCounts, Moves, NoneReady, ReadsNoneIn, due_in}
use Rattle.rounds.proofs.round.machine.Round.give_all_ready.Given as goal

abbrev pub invariant-loop-r : goal.invariant-loop-r
invariant-loop-r g l = record {
  ok : Moves g.S.Source.input g.O.Outlet.output l.settings l.fn.self l.self;
  none_read : ReadsNoneIn l.fn.self l.self;
  counts : KeepsCounts l.fn.self l.self;
  idle : NoneReady l.fn.self.collector → l.self ≡ l.fn.self;
  fewer : awaited l.self.collector.sequences ≤ awaited l.fn.self.collector.sequences;
  dry : (k : ℕ) → k < l.r → IsDry k l.self;
  due : due_in l.self ≡ due_in l.fn.self;
}
