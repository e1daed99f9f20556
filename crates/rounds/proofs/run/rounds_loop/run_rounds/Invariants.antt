use Rattle.std.proofs.Common.{◌≡◌, ◌+◌, ◌≤◌, length}
use Rattle.std.specs.Prelude.{sum}
use Rattle.rounds.specs.Showing.{counts_of}
use Rattle.rounds.specs.Courses.{StaysBetween}
use Rattle.rounds.specs.Heralds.{AreHeard}
use Rattle.rounds.specs.Permitted.{ShowsLetThrough}
use Rattle.rounds.proofs.Between.{IsCounted}
use Rattle.rounds.proofs.run.rounds_loop.run_rounds.Given as goal

abbrev pub invariant-loop : goal.invariant-loop
invariant-loop g l = record {
  on : StaysBetween g.S.Source.input g.O.Outlet.output l.setup.settings.now l.fn.between.broadcast l.between.broadcast;
  each : length l.spare.items ≡ length l.setup.settings.now.renditions;
  workers : length l.between.books.workers.items ≡ l.setup.workers;
  right : l.between.books.right + sum (counts_of l.fn.between.broadcast.course.playlists.items) ≤ l.fn.between.books.right + sum (counts_of l.between.broadcast.course.playlists.items);
  told : AreHeard (g.H.Herald.was_told l.herald) 32 l.telling.told l.between.broadcast.course.lanes.items;
  herald : l.telling.herald.now ≡ l.herald;
  let_through : ShowsLetThrough (g.G.Gate.lets l.setup.gate.now) l.fn.between.broadcast.held.publisher.list l.between.broadcast.held.publisher.list;
  counted : IsCounted l.between.books.rounds l.between.broadcast.course;
}
