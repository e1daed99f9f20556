use Rattle.std.proofs.Common.{◌≤◌}
use Rattle.test_texts.proofs.keeping_runs.put_all.Given as goal

abbrev pub invariant-loop-item : goal.invariant-loop-item
invariant-loop-item g l = record {
  failed : g.O.Outlet.output.failures l.outlet ≤ l.item-index;
  told : l.failures ≤ l.item-index;
}
