use Rattle.std.proofs.Common.{◌≡◌, ℕ, ◌-◌, ◌<◌, [], length, map, slice_index_or}
use Rattle.aes_cbc.specs.InverseCipher.{inv_mix_columns}
use Rattle.aes_cbc.specs.InverseTower.{entered}
use Rattle.aes_cbc.specs.declared.schedule.RoundKey.{RoundKey}
use Rattle.aes_cbc.proofs.schedule.unmixing_keys.Given as goal

abbrev pub invariant-round : goal.invariant-round
invariant-round l = record {
  long : length l.unmixing_keys ≡ 9;
  keys : (k : ℕ) (d : RoundKey) → k < l.i → (slice_index_or l.unmixing_keys k d).lanes ≡ map entered (inv_mix_columns (slice_index_or l.fn.keys (9 - k) []));
}
