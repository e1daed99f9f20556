use Rattle.std.proofs.Common.{◌≡◌, ◌+◌, ◌*◌, ◌≤◌, ◌^◌, take}
use Rattle.keeping.specs.Keepings.{removed_of}
use Rattle.keeping.proofs.outlet.removed_by.Given as goal

abbrev pub invariant-loop-keeping : goal.invariant-loop-keeping
invariant-loop-keeping l = record {
  all : l.all ≡ removed_of (take l.keeping-index l.renditions);
  bound : l.all ≤ l.keeping-index * (2 ^ 64 + 2 ^ 64);
}
