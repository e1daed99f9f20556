use Rattle.std.proofs.Common.{◌≡◌, ◌-◌, ◌∙◌, map, subst, sym, ap, arith}
use Rattle.aes_cbc.specs.Block.{IsBlock}
use Rattle.aes_cbc.specs.KeyExpansion.{four_words, round_key}
use Rattle.aes_cbc.specs.InverseCipher.{inv_mix_columns, inv_state_after, inv_aes}
use Rattle.aes_cbc.specs.InverseTower.{entered}
use Rattle.aes_cbc.proofs.CipherInverse.{inv_state_after_next, inv_state_after-IsBlock}
use Rattle.aes_cbc.proofs.RoundKeyBlocks.{round_key-IsBlock}
use Rattle.aes_cbc.proofs.LaneSums.{lanes_block}
use Rattle.aes_cbc.proofs.DecryptionRounds.{first_state}
use Rattle.aes_cbc.proofs.key.Key.decrypt_four.Goals as goal

pub round-init : goal.round-init
round-init c =
    let tenth = c.self.invariant.tenth ∙ ap (λ k. round_key k 10) c.self.view_is in
    record {
      first_is = first_state c.args.self.now c.args.first _ _ tenth c.entered-first_state.ensures;
      second_is = first_state c.args.self.now c.args.second _ _ tenth c.entered-second_state.ensures;
      third_is = first_state c.args.self.now c.args.third _ _ tenth c.entered-third_state.ensures;
      fourth_is = first_state c.args.self.now c.args.fourth _ _ tenth c.entered-fourth_state.ensures;
    }

pub round-preserved : goal.round-preserved
round-preserved c =
    let key = c.args.self.now in
    let i = c.round.i in
    let of_key : IsBlock key = subst IsBlock c.self.view_is c.self.invariant.block in
    let of_round : IsBlock (round_key key (9 - i)) = round_key-IsBlock key (9 - i) of_key in
    let lanes = c.self.invariant.unmixing i _ (omega arith) ∙ ap (λ k. map entered (inv_mix_columns (round_key k (9 - i)))) c.self.view_is in
    let of_first : IsBlock c.args.first = lanes_block c.args.first c.fits-first.0 c.fits-first.1 in
    let of_second : IsBlock c.args.second = lanes_block c.args.second c.fits-second.0 c.fits-second.1 in
    let of_third : IsBlock c.args.third = lanes_block c.args.third c.fits-third.0 c.fits-third.1 in
    let of_fourth : IsBlock c.args.fourth = lanes_block c.args.fourth c.fits-fourth.0 c.fits-fourth.1 in
    record {
      first_is =
          c.inv_round-first_state.ensures (inv_state_after key c.args.first i) (round_key key (9 - i)) (inv_state_after-IsBlock key c.args.first i of_key of_first) of_round c.round.invariant.first_is lanes
          ∙ ap (map entered) (sym (inv_state_after_next key c.args.first i (9 - i) (omega arith)));
      second_is =
          c.inv_round-second_state.ensures (inv_state_after key c.args.second i) (round_key key (9 - i)) (inv_state_after-IsBlock key c.args.second i of_key of_second) of_round c.round.invariant.second_is lanes
          ∙ ap (map entered) (sym (inv_state_after_next key c.args.second i (9 - i) (omega arith)));
      third_is =
          c.inv_round-third_state.ensures (inv_state_after key c.args.third i) (round_key key (9 - i)) (inv_state_after-IsBlock key c.args.third i of_key of_third) of_round c.round.invariant.third_is lanes
          ∙ ap (map entered) (sym (inv_state_after_next key c.args.third i (9 - i) (omega arith)));
      fourth_is =
          c.inv_round-fourth_state.ensures (inv_state_after key c.args.fourth i) (round_key key (9 - i)) (inv_state_after-IsBlock key c.args.fourth i of_key of_fourth) of_round c.round.invariant.fourth_is lanes
          ∙ ap (map entered) (sym (inv_state_after_next key c.args.fourth i (9 - i) (omega arith)));
    }

pub returns : goal.returns
unfolding inv_aes four_words
returns c =
    let key = c.args.self.now in
    let of_key : IsBlock key = subst IsBlock c.self.view_is c.self.invariant.block in
    let of_last : IsBlock (round_key key 0) = round_key-IsBlock key 0 of_key in
    let nine : c.round.i ≡ 9 = omega arith in
    let of_first : IsBlock c.args.first = lanes_block c.args.first c.fits-first.0 c.fits-first.1 in
    let of_second : IsBlock c.args.second = lanes_block c.args.second c.fits-second.0 c.fits-second.1 in
    let of_third : IsBlock c.args.third = lanes_block c.args.third c.fits-third.0 c.fits-third.1 in
    let of_fourth : IsBlock c.args.fourth = lanes_block c.args.fourth c.fits-fourth.0 c.fits-fourth.1 in
    record {
      first = c.last_inv_round.ensures (inv_state_after key c.args.first 9) (round_key key 0) (inv_state_after-IsBlock key c.args.first 9 of_key of_first) of_last (rw nine at c.round.invariant.first_is) c.self.view_is;
      second = c.last_inv_round-2.ensures (inv_state_after key c.args.second 9) (round_key key 0) (inv_state_after-IsBlock key c.args.second 9 of_key of_second) of_last (rw nine at c.round.invariant.second_is) c.self.view_is;
      third = c.last_inv_round-3.ensures (inv_state_after key c.args.third 9) (round_key key 0) (inv_state_after-IsBlock key c.args.third 9 of_key of_third) of_last (rw nine at c.round.invariant.third_is) c.self.view_is;
      fourth = c.last_inv_round-4.ensures (inv_state_after key c.args.fourth 9) (round_key key 0) (inv_state_after-IsBlock key c.args.fourth 9 of_key of_fourth) of_last (rw nine at c.round.invariant.fourth_is) c.self.view_is;
      key = of_key;
    }
