use Rattle.std.proofs.Common.{◌≡◌, take}
use Rattle.std.specs.Prelude.{All, IsSome}
use Rattle.program.proofs.bulletin.note_in.Given as goal

abbrev pub invariant-loop-place : goal.invariant-loop-place
invariant-loop-place l = record {
  same : l.faults ≡ l.initial.faults;
  before : All IsSome (take l.place l.initial.faults);
}
