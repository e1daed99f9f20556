use Rattle.std.proofs.Common.{◌≡◌, ◌<◌, ◌≤◌, ℕ, [], Some, false}
use Rattle.std.specs.List.{slice_get, slice_index_or}
use Rattle.ingest.specs.Lanes.{is_good}
use Rattle.ingest.specs.declared.lane.Lane.{Lane}
use Rattle.rounds.specs.Courses.{Start, IsOn, ReadsNone}
use Rattle.live_board.specs.Counts.{counts_shown}
use Rattle.rounds.proofs.giving.broadcast.Broadcast.give_ends.Given as goal

abbrev pub invariant-loop-r : goal.invariant-loop-r
invariant-loop-r g l = record {
  ok : (start : Start _ _) → IsOn g.S.Source.input g.O.Outlet.output l.settings start l.fn.self.course l.fn.self.held.publisher (λ k. []) → IsOn g.S.Source.input g.O.Outlet.output l.settings start l.self.course l.self.held.publisher (λ k. []);
  none_read : ReadsNone l.fn.self.course l.self.course;
  shown : counts_shown l.self.held.publisher.list ≡ counts_shown l.fn.self.held.publisher.list;
  playlists : l.self.course.playlists ≡ l.fn.self.course.playlists;
  ended : (k : ℕ) (lane : Lane) → k < l.r → slice_get l.fn.self.course.lanes.items k ≡ Some lane → lane.intake.filled ≡ [] → slice_index_or l.self.course.ended.items k false ≡ is_good lane.stop;
  left : (k : ℕ) → l.r ≤ k → slice_index_or l.self.course.ended.items k false ≡ slice_index_or l.fn.self.course.ended.items k false;
}
