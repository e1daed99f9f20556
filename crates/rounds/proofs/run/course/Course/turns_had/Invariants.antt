use Rattle.std.proofs.Common.{◌≡◌, ◌*◌, ◌≤◌, ◌^◌, take}
use Rattle.std.specs.Prelude.{sum}
use Rattle.rounds.proofs.run.course.Course.turns_had.Given as goal

abbrev pub invariant-loop-had : goal.invariant-loop-had
invariant-loop-had g l = record {
  all : l.all ≡ sum (take l.had-index l.self.turns.items);
  bound : l.all ≤ l.had-index * 2 ^ 64;
}
