use Rattle.std.proofs.Common.{◌≡◌, ◌+◌, ◌∙◌, map, subst, sym, ap, arith}
use Rattle.aes_cbc.specs.Block.{IsBlock, xor_bytes}
use Rattle.aes_cbc.specs.KeyExpansion.{four_words, round_key}
use Rattle.aes_cbc.specs.Cipher.{state_after, aes}
use Rattle.aes_cbc.specs.Tower.{tower, keyed, last_keyed}
use Rattle.aes_cbc.proofs.CipherRounds.{state_after_next}
use Rattle.aes_cbc.proofs.CipherInverse.{state_after-IsBlock, aes-IsBlock}
use Rattle.aes_cbc.proofs.RoundKeyBlocks.{round_key-IsBlock}
use Rattle.aes_cbc.proofs.LaneSums.{zip2_xor, lanes_block}
use Rattle.aes_cbc.proofs.key.Key.encrypt_lanes.Goals as goal

pub round-init : goal.round-init
unfolding state_after four_words
round-init c =
    c.into_tower-state.ensures
    ∙ ap (map tower) (zip2_xor c.args.block _ ∙ ap (xor_bytes c.args.block) c.self.view_is)

pub round-preserved : goal.round-preserved
round-preserved c =
    let key = c.args.self.now in
    let i = c.round.i in
    let of_key : IsBlock key = subst IsBlock c.self.view_is c.self.invariant.block in
    let of_block : IsBlock c.args.block = lanes_block c.args.block c.fits-block.0 c.fits-block.1 in
    let lanes = c.self.invariant.mixing i _ (omega arith) ∙ ap (λ k. map keyed (round_key k (i + 1))) c.self.view_is in
    c.round-next.ensures (state_after key c.args.block i) (round_key key (i + 1)) (state_after-IsBlock key c.args.block i of_key of_block)
    (round_key-IsBlock key (i + 1) of_key) c.round.invariant lanes
    ∙ ap (map tower) (sym (state_after_next key c.args.block i))

pub returns : goal.returns
unfolding aes
returns c =
    let key = c.args.self.now in
    let block = c.args.block in
    let of_key : IsBlock key = subst IsBlock c.self.view_is c.self.invariant.block in
    let of_block : IsBlock block = lanes_block block c.fits-block.0 c.fits-block.1 in
    let lanes = c.self.invariant.last ∙ ap (λ k. map last_keyed (round_key k 10)) c.self.view_is in
    let nine : c.round.i ≡ 9 = omega arith in
    let state = rw nine at c.round.invariant in
    let cipher : c.last_round.result ≡ aes key block
    = c.last_round.ensures (state_after key block 9) (round_key key 10) (state_after-IsBlock key block 9 of_key of_block) (round_key-IsBlock key 10 of_key) state lanes in
    record { cipher = cipher; block = subst IsBlock (sym cipher) (aes-IsBlock key block of_key of_block) }
