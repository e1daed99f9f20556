use Rattle.std.proofs.Common.{◌≡◌, map}
use Rattle.aes_cbc.specs.InverseCipher.{inv_state_after}
use Rattle.aes_cbc.specs.InverseTower.{entered}
use Rattle.aes_cbc.proofs.key.Key.decrypt_lanes.Given as goal

abbrev pub invariant-round : goal.invariant-round
invariant-round l = l.state ≡ map entered (inv_state_after l.self l.fn.block l.i)
