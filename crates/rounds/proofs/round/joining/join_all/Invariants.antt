use Rattle.std.proofs.Common.{◌≡◌, ◌+◌, ◌<◌, ◌≤◌, ℕ, length}
use Rattle.std.specs.Prelude.{sum, vec_len}
use Rattle.std.specs.List.{slice_index_or}
use Rattle.rounds.proofs.round.joining.join_all.Given as goal

abbrev pub invariant-loop-child : goal.invariant-loop-child
invariant-loop-child g l = record {
  parts : l.rest.parts + vec_len l.left ≡ l.fn.rest.parts + vec_len l.fn.running;
  amount : l.rest.amount ≡ l.fn.rest.amount + sum l.claims;
  each : length l.claims ≡ length l.fn.claims;
  few : vec_len l.left ≤ length l.claims;
  none : (k : ℕ) → k < vec_len l.left → slice_index_or l.claims k 0 ≡ 0;
}

abbrev pub decreases-loop-child : goal.decreases-loop-child
decreases-loop-child g l = goal.left-loop-child g l
