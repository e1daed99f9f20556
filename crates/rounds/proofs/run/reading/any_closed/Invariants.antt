use Rattle.std.proofs.Common.{◌≡◌, ◌<◌, ℕ, [], Some}
use Rattle.std.specs.List.{slice_get}
use Rattle.ingest.specs.declared.lane.Lane.{Lane}
use Rattle.rounds.proofs.run.reading.any_closed.Given as goal

abbrev pub invariant-loop-lane : goal.invariant-loop-lane
invariant-loop-lane l = (k : ℕ) (lane : Lane) → k < l.lane-index → slice_get l.lanes k ≡ Some lane → lane.intake.filled ≡ []
