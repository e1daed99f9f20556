-- What a key keeps for its rounds.
use Rattle.std.specs.Prelude.{◌≡◌, ℕ, ◌+◌, ◌-◌, ◌<◌, List, map, slice_index_or}
use Rattle.aes_cbc.specs.Block.{IsBlock}
use Rattle.aes_cbc.specs.KeyExpansion.{round_key}
use Rattle.aes_cbc.specs.InverseCipher.{inv_mix_columns}
use Rattle.aes_cbc.specs.Tower.{keyed, last_keyed}
use Rattle.aes_cbc.specs.InverseTower.{entered}
use Rattle.aes_cbc.specs.declared.schedule.RoundKey.{RoundKey}

-- of key k, as the rounds take them: ks are the round keys of the rounds that mix and l is that of the last round
-- (FIPS 197, 5.1.4), t is round key 10, and us are the round keys of the rounds of the inverse cipher that mix, unmixed
-- (FIPS 197, 5.3.5)
pub record AreKeyLanes (k : List ℕ) (ks : List RoundKey) (l t : List ℕ) (us : List RoundKey) : Type 0 where
  pub block : IsBlock k
  pub mixing : (i : ℕ) (d : RoundKey) → i < 9 → (slice_index_or ks i d).lanes ≡ map keyed (round_key k (i + 1))
  pub last : l ≡ map last_keyed (round_key k 10)
  pub tenth : t ≡ round_key k 10
  pub unmixing : (i : ℕ) (d : RoundKey) → i < 9 → (slice_index_or us i d).lanes ≡ map entered (inv_mix_columns (round_key k (9 - i)))
