use Rattle.std.proofs.Common.{◌≡◌, ℕ, ◌+◌, ◌<◌, [], length, map, slice_index_or}
use Rattle.aes_cbc.specs.Tower.{keyed}
use Rattle.aes_cbc.specs.declared.schedule.RoundKey.{RoundKey}
use Rattle.aes_cbc.proofs.schedule.mixing_keys.Given as goal

abbrev pub invariant-round : goal.invariant-round
invariant-round l = record {
  long : length l.mixing_keys ≡ 9;
  keys : (k : ℕ) (d : RoundKey) → k < l.i → (slice_index_or l.mixing_keys k d).lanes ≡ map keyed (slice_index_or l.fn.keys (k + 1) []);
}
