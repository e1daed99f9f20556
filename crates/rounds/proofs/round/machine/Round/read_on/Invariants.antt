use Rattle.std.proofs.Common.{◌≡◌, ◌<◌, length}
use Rattle.flow_core.specs.Gatherings.{awaited}
use Rattle.rounds.specs.Courses.{ReadsMore, turns_in}
use Rattle.rounds.specs.Paces.{HasEnough, wanted}
use Rattle.rounds.specs.Rounds.{IsExact, Moves, NoneReady, StopsInTime, due_in}
use Rattle.rounds.proofs.round.machine.Round.read_on.Given as goal

abbrev pub invariant-loop : goal.invariant-loop
invariant-loop g l = record {
  ok : Moves g.S.Source.input g.O.Outlet.output l.settings l.fn.self l.self;
  further : ReadsMore l.fn.self.broadcast.course l.self.broadcast.course;
  exact : IsExact l.fn.self l.self;
  due : due_in l.self ≡ due_in l.fn.self;
  dry : turns_in l.fn.self.broadcast.course < turns_in l.self.broadcast.course → NoneReady l.self.collector;
  idle : HasEnough (wanted l.pace (awaited l.fn.self.collector.sequences) 0) l.fn.self.broadcast.course → l.self ≡ l.fn.self;
  soon : turns_in l.fn.self.broadcast.course < turns_in l.self.broadcast.course
      → StopsInTime g.S.Source.input g.O.Outlet.output l.settings l.pace l.fn.self l.self;
  buffer : length l.buffer ≡ length l.fn.buffer;
}
