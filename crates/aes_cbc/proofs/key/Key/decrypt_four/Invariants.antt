use Rattle.std.proofs.Common.{◌≡◌, map}
use Rattle.aes_cbc.specs.InverseCipher.{inv_state_after}
use Rattle.aes_cbc.specs.InverseTower.{entered}
use Rattle.aes_cbc.proofs.key.Key.decrypt_four.Given as goal

abbrev pub invariant-round : goal.invariant-round
invariant-round l = record {
  first_is : l.first_state ≡ map entered (inv_state_after l.self l.fn.first l.i);
  second_is : l.second_state ≡ map entered (inv_state_after l.self l.fn.second l.i);
  third_is : l.third_state ≡ map entered (inv_state_after l.self l.fn.third l.i);
  fourth_is : l.fourth_state ≡ map entered (inv_state_after l.self l.fn.fourth l.i);
}
