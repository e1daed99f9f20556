use Rattle.std.proofs.Common.{◌≡◌, ◌≤◌, ◌++◌, map, take, vec_capacity}
use Rattle.metrics.specs.Samples.{facts_of, faults_text}
use Rattle.metrics.proofs.family.push_faults.Given as goal

abbrev pub invariant-loop-sample : goal.invariant-loop-sample
invariant-loop-sample l = record {
  written : l.out.items ≡ l.fn.out.items ++ faults_text l.name (map facts_of (take l.sample-index l.samples));
  room : vec_capacity l.fn.out ≤ vec_capacity l.out;
}
