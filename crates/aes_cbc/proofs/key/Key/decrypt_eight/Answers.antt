use Rattle.std.proofs.Common.{◌≡◌, ◌-◌, ◌∙◌, ◌++◌, map, take, drop, subst, sym, ap, ap₂, arith}
use Rattle.aes_cbc.specs.Block.{IsBlock}
use Rattle.aes_cbc.specs.KeyExpansion.{four_words, round_key}
use Rattle.aes_cbc.specs.InverseCipher.{inv_mix_columns, inv_state_after, inv_aes}
use Rattle.aes_cbc.specs.InverseTower.{entered}
use Rattle.aes_cbc.proofs.CipherInverse.{inv_state_after_next, inv_state_after-IsBlock}
use Rattle.aes_cbc.proofs.RoundKeyBlocks.{round_key-IsBlock}
use Rattle.aes_cbc.proofs.PairSums.{front_block, back_block}
use Rattle.aes_cbc.proofs.PairStates.{inv_start_states, are_plain}
use Rattle.aes_cbc.proofs.key.Key.decrypt_eight.Goals as goal

pub round-init : goal.round-init
round-init c =
    let tenth = c.self.invariant.tenth ∙ ap (λ k. round_key k 10) c.self.view_is in
    record {
      first_is = inv_start_states c.args.self.now c.args.first c.joined-tenth_keys.result _ _ c.joined-tenth_keys.ensures tenth c.entered-first_state.ensures;
      second_is = inv_start_states c.args.self.now c.args.second c.joined-tenth_keys.result _ _ c.joined-tenth_keys.ensures tenth c.entered-second_state.ensures;
      third_is = inv_start_states c.args.self.now c.args.third c.joined-tenth_keys.result _ _ c.joined-tenth_keys.ensures tenth c.entered-third_state.ensures;
      fourth_is = inv_start_states c.args.self.now c.args.fourth c.joined-tenth_keys.result _ _ c.joined-tenth_keys.ensures tenth c.entered-fourth_state.ensures;
    }

pub round-preserved : goal.round-preserved
round-preserved c =
    let key = c.args.self.now in
    let i = c.round.i in
    let of_key : IsBlock key = subst IsBlock c.self.view_is c.self.invariant.block in
    let of_round : IsBlock (round_key key (9 - i)) = round_key-IsBlock key (9 - i) of_key in
    let lanes = c.self.invariant.unmixing i _ (omega arith) ∙ ap (λ k. map entered (inv_mix_columns (round_key k (9 - i)))) c.self.view_is in
    let both = c.joined-round_keys.ensures.both ∙ ap₂ (λ x y. x ++ y) lanes lanes in
    record {
      first_is =
          let m = take 16 c.args.first in
          let n = drop 16 c.args.first in
          let of_m = front_block c.args.first c.fits-first.0 c.fits-first.1 in
          let of_n = back_block c.args.first c.fits-first.0 c.fits-first.1 in
          c.inv_round-first_state.ensures (inv_state_after key m i) (inv_state_after key n i) (round_key key (9 - i))
          (inv_state_after-IsBlock key m i of_key of_m) (inv_state_after-IsBlock key n i of_key of_n) of_round c.round.invariant.first_is both
          ∙ ap (map entered) (ap₂ (λ x y. x ++ y) (sym (inv_state_after_next key m i (9 - i) (omega arith))) (sym (inv_state_after_next key n i (9 - i) (omega arith))));
      second_is =
          let m = take 16 c.args.second in
          let n = drop 16 c.args.second in
          let of_m = front_block c.args.second c.fits-second.0 c.fits-second.1 in
          let of_n = back_block c.args.second c.fits-second.0 c.fits-second.1 in
          c.inv_round-second_state.ensures (inv_state_after key m i) (inv_state_after key n i) (round_key key (9 - i))
          (inv_state_after-IsBlock key m i of_key of_m) (inv_state_after-IsBlock key n i of_key of_n) of_round c.round.invariant.second_is both
          ∙ ap (map entered) (ap₂ (λ x y. x ++ y) (sym (inv_state_after_next key m i (9 - i) (omega arith))) (sym (inv_state_after_next key n i (9 - i) (omega arith))));
      third_is =
          let m = take 16 c.args.third in
          let n = drop 16 c.args.third in
          let of_m = front_block c.args.third c.fits-third.0 c.fits-third.1 in
          let of_n = back_block c.args.third c.fits-third.0 c.fits-third.1 in
          c.inv_round-third_state.ensures (inv_state_after key m i) (inv_state_after key n i) (round_key key (9 - i))
          (inv_state_after-IsBlock key m i of_key of_m) (inv_state_after-IsBlock key n i of_key of_n) of_round c.round.invariant.third_is both
          ∙ ap (map entered) (ap₂ (λ x y. x ++ y) (sym (inv_state_after_next key m i (9 - i) (omega arith))) (sym (inv_state_after_next key n i (9 - i) (omega arith))));
      fourth_is =
          let m = take 16 c.args.fourth in
          let n = drop 16 c.args.fourth in
          let of_m = front_block c.args.fourth c.fits-fourth.0 c.fits-fourth.1 in
          let of_n = back_block c.args.fourth c.fits-fourth.0 c.fits-fourth.1 in
          c.inv_round-fourth_state.ensures (inv_state_after key m i) (inv_state_after key n i) (round_key key (9 - i))
          (inv_state_after-IsBlock key m i of_key of_m) (inv_state_after-IsBlock key n i of_key of_n) of_round c.round.invariant.fourth_is both
          ∙ ap (map entered) (ap₂ (λ x y. x ++ y) (sym (inv_state_after_next key m i (9 - i) (omega arith))) (sym (inv_state_after_next key n i (9 - i) (omega arith))));
    }

pub returns : goal.returns
unfolding inv_aes four_words
returns c =
    let key = c.args.self.now in
    let of_key : IsBlock key = subst IsBlock c.self.view_is c.self.invariant.block in
    let of_last : IsBlock (round_key key 0) = round_key-IsBlock key 0 of_key in
    let nine : c.round.i ≡ 9 = omega arith in
    let both = c.joined-last_keys.ensures.both ∙ ap₂ (λ x y. x ++ y) c.self.view_is c.self.view_is in
    record {
      first =
          let m = take 16 c.args.first in
          let n = drop 16 c.args.first in
          let of_m = front_block c.args.first c.fits-first.0 c.fits-first.1 in
          let of_n = back_block c.args.first c.fits-first.0 c.fits-first.1 in
          are_plain key m n c.last_inv_round.result of_key of_m
          (c.last_inv_round.ensures (inv_state_after key m 9) (inv_state_after key n 9) (round_key key 0) (inv_state_after-IsBlock key m 9 of_key of_m)
          (inv_state_after-IsBlock key n 9 of_key of_n) of_last (rw nine at c.round.invariant.first_is) both);
      second =
          let m = take 16 c.args.second in
          let n = drop 16 c.args.second in
          let of_m = front_block c.args.second c.fits-second.0 c.fits-second.1 in
          let of_n = back_block c.args.second c.fits-second.0 c.fits-second.1 in
          are_plain key m n c.last_inv_round-2.result of_key of_m
          (c.last_inv_round-2.ensures (inv_state_after key m 9) (inv_state_after key n 9) (round_key key 0) (inv_state_after-IsBlock key m 9 of_key of_m)
          (inv_state_after-IsBlock key n 9 of_key of_n) of_last (rw nine at c.round.invariant.second_is) both);
      third =
          let m = take 16 c.args.third in
          let n = drop 16 c.args.third in
          let of_m = front_block c.args.third c.fits-third.0 c.fits-third.1 in
          let of_n = back_block c.args.third c.fits-third.0 c.fits-third.1 in
          are_plain key m n c.last_inv_round-3.result of_key of_m
          (c.last_inv_round-3.ensures (inv_state_after key m 9) (inv_state_after key n 9) (round_key key 0) (inv_state_after-IsBlock key m 9 of_key of_m)
          (inv_state_after-IsBlock key n 9 of_key of_n) of_last (rw nine at c.round.invariant.third_is) both);
      fourth =
          let m = take 16 c.args.fourth in
          let n = drop 16 c.args.fourth in
          let of_m = front_block c.args.fourth c.fits-fourth.0 c.fits-fourth.1 in
          let of_n = back_block c.args.fourth c.fits-fourth.0 c.fits-fourth.1 in
          are_plain key m n c.last_inv_round-4.result of_key of_m
          (c.last_inv_round-4.ensures (inv_state_after key m 9) (inv_state_after key n 9) (round_key key 0) (inv_state_after-IsBlock key m 9 of_key of_m)
          (inv_state_after-IsBlock key n 9 of_key of_n) of_last (rw nine at c.round.invariant.fourth_is) both);
    }
