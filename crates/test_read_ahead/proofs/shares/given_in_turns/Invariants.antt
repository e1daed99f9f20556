use Rattle.std.proofs.Common.{◌≤◌}
use Rattle.test_read_ahead.proofs.shares.given_in_turns.Given as goal

abbrev pub invariant-loop-turn : goal.invariant-loop-turn
invariant-loop-turn g l = record {
  first_reads : g.S.Source.input.reads l.first ≤ l.turn;
  first_failures : g.S.Source.input.failures l.first ≤ l.turn;
  second_reads : g.S.Source.input.reads l.second ≤ l.turn;
  second_failures : g.S.Source.input.failures l.second ≤ l.turn;
}
