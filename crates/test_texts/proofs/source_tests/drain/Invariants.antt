use Rattle.std.proofs.Common.{◌≤◌}
use Rattle.test_texts.proofs.source_tests.drain.Given as goal

abbrev pub invariant-loop : goal.invariant-loop
invariant-loop g l = record {
  reads : g.S.Source.input.reads l.source ≤ l.counter;
  failed : g.S.Source.input.failures l.source ≤ l.counter;
  told : l.failures ≤ l.counter;
}
