use Rattle.std.proofs.Common.{◌≡◌, ◌<◌, length}
use Rattle.rounds.specs.Courses.{ReadsMore, ReadsOn, turns_in}
use Rattle.rounds.specs.Heralds.{AreHeard}
use Rattle.rounds.specs.Paces.{HasEnough, StopsSoon, wanted}
use Rattle.rounds.proofs.run.course.Course.read_more.Given as goal

abbrev pub invariant-loop : goal.invariant-loop
invariant-loop g l = record {
  ok : ReadsOn g.S.Source.input g.O.Outlet.output l.fn.self l.self;
  playlists : l.self.playlists ≡ l.fn.self.playlists;
  further : ReadsMore l.fn.self l.self;
  idle : HasEnough (wanted l.pace 0 0) l.fn.self → l.self ≡ l.fn.self;
  soon : turns_in l.fn.self < turns_in l.self → StopsSoon g.S.Source.input g.O.Outlet.output l.pace l.fn.self l.self;
  told : AreHeard (g.H.Herald.was_told l.fn.telling.herald.now) 32 l.fn.telling.told l.fn.self.lanes.items → AreHeard (g.H.Herald.was_told l.fn.telling.herald.now) 32 l.telling.told l.self.lanes.items;
  herald : l.telling.herald ≡ l.fn.telling.herald;
  buffer : length l.buffer ≡ length l.fn.buffer;
}
