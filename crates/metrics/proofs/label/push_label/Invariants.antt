use Rattle.std.proofs.Common.{◌≡◌, ◌≤◌, ◌++◌, take, vec_capacity}
use Rattle.metrics.specs.Format.{escaped}
use Rattle.metrics.proofs.label.push_label.Given as goal

abbrev pub invariant-loop-byte : goal.invariant-loop-byte
invariant-loop-byte l = record {
  written : l.out.items ≡ l.fn.out.items ++ escaped (take l.byte-index l.text);
  room : vec_capacity l.fn.out ≤ vec_capacity l.out;
}
