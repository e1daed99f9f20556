use Rattle.std.proofs.Common.{◌≡◌, ◌++◌, map, take, drop}
use Rattle.aes_cbc.specs.Cipher.{state_after}
use Rattle.aes_cbc.specs.Tower.{tower}
use Rattle.aes_cbc.proofs.key.Key.encrypt_four.Given as goal

abbrev pub invariant-round : goal.invariant-round
invariant-round l = record {
  front_is : l.front_state ≡ map tower (state_after l.fn.keys.0.now (take 16 l.fn.front) l.i ++ state_after l.fn.keys.1.now (drop 16 l.fn.front) l.i);
  back_is : l.back_state ≡ map tower (state_after l.fn.keys.2.now (take 16 l.fn.back) l.i ++ state_after l.fn.keys.3.now (drop 16 l.fn.back) l.i);
}
