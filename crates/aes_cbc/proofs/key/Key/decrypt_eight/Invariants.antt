use Rattle.std.proofs.Common.{◌≡◌, ◌++◌, map, take, drop}
use Rattle.aes_cbc.specs.InverseCipher.{inv_state_after}
use Rattle.aes_cbc.specs.InverseTower.{entered}
use Rattle.aes_cbc.proofs.key.Key.decrypt_eight.Given as goal

abbrev pub invariant-round : goal.invariant-round
invariant-round l = record {
  first_is : l.first_state ≡ map entered (inv_state_after l.self (take 16 l.fn.first) l.i ++ inv_state_after l.self (drop 16 l.fn.first) l.i);
  second_is : l.second_state ≡ map entered (inv_state_after l.self (take 16 l.fn.second) l.i ++ inv_state_after l.self (drop 16 l.fn.second) l.i);
  third_is : l.third_state ≡ map entered (inv_state_after l.self (take 16 l.fn.third) l.i ++ inv_state_after l.self (drop 16 l.fn.third) l.i);
  fourth_is : l.fourth_state ≡ map entered (inv_state_after l.self (take 16 l.fn.fourth) l.i ++ inv_state_after l.self (drop 16 l.fn.fourth) l.i);
}
