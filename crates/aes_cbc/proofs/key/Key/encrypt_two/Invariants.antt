use Rattle.std.proofs.Common.{◌≡◌, ◌++◌, map, take, drop}
use Rattle.aes_cbc.specs.Cipher.{state_after}
use Rattle.aes_cbc.specs.Tower.{tower}
use Rattle.aes_cbc.proofs.key.Key.encrypt_two.Given as goal

abbrev pub invariant-round : goal.invariant-round
invariant-round l =
    l.state ≡ map tower (state_after l.fn.keys.0.now (take 16 l.fn.blocks) l.i ++ state_after l.fn.keys.1.now (drop 16 l.fn.blocks) l.i)
