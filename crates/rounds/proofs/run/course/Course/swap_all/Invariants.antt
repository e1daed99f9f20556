use Rattle.std.proofs.Common.{◌≡◌, ◌<◌, ◌≤◌, ◌++◌, ℕ, [], Some, length}
use Rattle.std.specs.List.{slice_get}
use Rattle.ingest.specs.declared.lane.Lane.{Lane}
use Rattle.std.specs.Vec.Iter.{into_iter_items}
use Rattle.live_board.specs.Snapshots.{Known}
use Rattle.ladder_items.specs.Ladder.{Ladder}
use Rattle.rounds.specs.Courses.{Start, IsOn}
use Rattle.rounds.specs.Rounds.{TakesClosed, unfed_of}
use Rattle.rounds.proofs.run.course.Course.swap_all.Given as goal

abbrev pub invariant-loop-spool : goal.invariant-loop-spool
invariant-loop-spool g l = record {
  on : (ladder : Ladder) (start : Start _ _) (shows : Known) → IsOn g.S.Source.input g.O.Outlet.output ladder start l.fn.self shows (λ k. []) → IsOn g.S.Source.input g.O.Outlet.output ladder start l.self shows (unfed_of l.full.items);
  same : l.self ≡ record l.fn.self { lanes = l.self.lanes };
  count : length l.self.lanes.items ≡ length l.fn.self.lanes.items;
  rest : l.yielded ++ into_iter_items l.spool-iterator ≡ l.fn.spare.items;
  taken : TakesClosed l.fn.self.lanes.items l.self.lanes.items l.full.items;
  others : (k : ℕ) → length l.full.items ≤ k → slice_get l.self.lanes.items k ≡ slice_get l.fn.self.lanes.items k;
  empty : (k : ℕ) (lane : Lane) → k < length l.full.items → slice_get l.self.lanes.items k ≡ Some lane → lane.intake.filled ≡ [];
  size : length l.full.items ≡ length l.yielded;
}
