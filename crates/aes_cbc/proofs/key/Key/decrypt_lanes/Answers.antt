use Rattle.std.proofs.Common.{◌≡◌, ◌-◌, ◌∙◌, map, subst, sym, ap, arith}
use Rattle.aes_cbc.specs.Block.{IsBlock}
use Rattle.aes_cbc.specs.KeyExpansion.{four_words, round_key}
use Rattle.aes_cbc.specs.InverseCipher.{inv_mix_columns, inv_state_after, inv_aes}
use Rattle.aes_cbc.specs.InverseTower.{entered}
use Rattle.aes_cbc.proofs.CipherInverse.{inv_state_after_next, inv_state_after-IsBlock}
use Rattle.aes_cbc.proofs.RoundKeyBlocks.{round_key-IsBlock}
use Rattle.aes_cbc.proofs.LaneSums.{lanes_block}
use Rattle.aes_cbc.proofs.DecryptionRounds.{first_state}
use Rattle.aes_cbc.proofs.key.Key.decrypt_lanes.Goals as goal

pub round-init : goal.round-init
round-init c =
    first_state c.args.self.now c.args.block _ _ (c.self.invariant.tenth ∙ ap (λ k. round_key k 10) c.self.view_is) c.entered-state.ensures

pub round-preserved : goal.round-preserved
round-preserved c =
    let key = c.args.self.now in
    let i = c.round.i in
    let of_key : IsBlock key = subst IsBlock c.self.view_is c.self.invariant.block in
    let of_block : IsBlock c.args.block = lanes_block c.args.block c.fits-block.0 c.fits-block.1 in
    let lanes = c.self.invariant.unmixing i _ (omega arith) ∙ ap (λ k. map entered (inv_mix_columns (round_key k (9 - i)))) c.self.view_is in
    c.inv_round-next.ensures (inv_state_after key c.args.block i) (round_key key (9 - i)) (inv_state_after-IsBlock key c.args.block i of_key of_block)
    (round_key-IsBlock key (9 - i) of_key) c.round.invariant lanes
    ∙ ap (map entered) (sym (inv_state_after_next key c.args.block i (9 - i) (omega arith)))

pub returns : goal.returns
unfolding inv_aes four_words
returns c =
    let key = c.args.self.now in
    let block = c.args.block in
    let of_key : IsBlock key = subst IsBlock c.self.view_is c.self.invariant.block in
    let of_block : IsBlock block = lanes_block block c.fits-block.0 c.fits-block.1 in
    let nine : c.round.i ≡ 9 = omega arith in
    let state = rw nine at c.round.invariant in
    record {
      plain = c.last_inv_round.ensures (inv_state_after key block 9) (round_key key 0) (inv_state_after-IsBlock key block 9 of_key of_block) (round_key-IsBlock key 0 of_key) state c.self.view_is;
      key = of_key;
      block = of_block;
    }
