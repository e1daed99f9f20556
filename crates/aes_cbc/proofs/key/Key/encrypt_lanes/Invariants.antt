use Rattle.std.proofs.Common.{◌≡◌, map}
use Rattle.aes_cbc.specs.Cipher.{state_after}
use Rattle.aes_cbc.specs.Tower.{tower}
use Rattle.aes_cbc.proofs.key.Key.encrypt_lanes.Given as goal

abbrev pub invariant-round : goal.invariant-round
invariant-round l = l.state ≡ map tower (state_after l.self l.fn.block l.i)
