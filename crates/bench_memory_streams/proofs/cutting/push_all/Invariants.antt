use Rattle.std.proofs.Common.{◌≤◌, length}
use Rattle.bench_memory_streams.proofs.cutting.push_all.Given as goal

abbrev pub invariant-loop-n : goal.invariant-loop-n
invariant-loop-n l = length l.cutter.list ≤ l.n
