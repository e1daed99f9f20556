-- The state that the inverse cipher starts its rounds from.
use Rattle.std.proofs.Common.{◌≡◌, ℕ, List, map, bit_xor, ap, ◌∙◌}
use Rattle.std.specs.Simd.Lanes.{zip2}
use Rattle.aes_cbc.specs.Block.{xor_bytes}
use Rattle.aes_cbc.specs.KeyExpansion.{round_key}
use Rattle.aes_cbc.specs.InverseCipher.{inv_state_after}
use Rattle.aes_cbc.specs.InverseTower.{entered}
use Rattle.aes_cbc.proofs.LaneSums.{zip2_xor}

pub first_state : (key block tenth state : List ℕ) → tenth ≡ round_key key 10 → state ≡ map entered (zip2 bit_xor block tenth)
    → state ≡ map entered (inv_state_after key block 0)
unfolding inv_state_after
first_state key block tenth state is at = at ∙ ap (map entered) (zip2_xor block tenth ∙ ap (xor_bytes block) is)
