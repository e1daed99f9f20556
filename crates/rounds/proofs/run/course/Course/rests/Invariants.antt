use Rattle.std.proofs.Common.{◌≡◌, ◌<◌, ◌≤◌, ℕ, None, Some}
use Rattle.std.specs.List.{slice_get}
use Rattle.ingest.specs.declared.lane.Lane.{Lane}
use Rattle.rounds.specs.Courses.{turns_at}
use Rattle.rounds.proofs.run.course.Course.rests.Given as goal

abbrev pub invariant-loop-r : goal.invariant-loop-r
invariant-loop-r g l = (k : ℕ) (lane : Lane) → k < l.r → slice_get l.self.lanes.items k ≡ Some lane → lane.stop ≡ None → l.self.reads ≤ turns_at l.self k
