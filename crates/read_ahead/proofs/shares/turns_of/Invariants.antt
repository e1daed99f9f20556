use Rattle.std.proofs.Common.{◌≡◌, ◌<◌, max, drop}
use Rattle.read_ahead.specs.Shares.{turns}
use Rattle.read_ahead.proofs.shares.turns_of.Given as goal

abbrev pub invariant-loop-backlog : goal.invariant-loop-backlog
invariant-loop-backlog l = record {
  is : max l.most (turns (drop l.backlog-index l.backlogs)) ≡ turns l.backlogs;
  some : 0 < l.most;
}
