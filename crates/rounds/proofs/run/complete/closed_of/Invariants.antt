use Rattle.std.proofs.Common.{◌≡◌, ◌*◌, ◌≤◌, ◌^◌, length, sum_by, take}
use Rattle.rounds.proofs.run.complete.closed_of.Given as goal

abbrev pub invariant-loop-spool : goal.invariant-loop-spool
invariant-loop-spool l = record {
  all : l.all ≡ sum_by (λ plans. length plans) (take l.spool-index l.full);
  bound : l.all ≤ l.spool-index * 2 ^ 64;
}
