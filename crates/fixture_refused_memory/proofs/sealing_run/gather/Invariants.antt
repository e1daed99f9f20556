use Rattle.std.specs.Prelude.{◌≡◌, ◌+◌, vec_len}
use Rattle.fixture_refused_memory.proofs.sealing_run.gather.Given as goal

abbrev pub invariant-loop-child : goal.invariant-loop-child
invariant-loop-child g l = l.rest.parts + vec_len l.left ≡ l.fn.rest.parts + vec_len l.fn.running

abbrev pub decreases-loop-child : goal.decreases-loop-child
decreases-loop-child g l = goal.left-loop-child g l
