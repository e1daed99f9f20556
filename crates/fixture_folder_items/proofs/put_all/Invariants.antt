use Rattle.std.proofs.Common.{◌≤◌}
use Rattle.fixture_folder_items.proofs.put_all.Given as goal

abbrev pub invariant-loop-item : goal.invariant-loop-item
invariant-loop-item l = l.outlet.failures ≤ l.item-index
