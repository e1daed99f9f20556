use Rattle.std.proofs.Common.{◌≡◌, map, replicate, refl, ap, ◌∙◌, ℕ, List}
use Rattle.aes_cbc.specs.Block.{IsBlock}
use Rattle.aes_cbc.specs.Field.{times, product_by_bits}
use Rattle.aes_cbc.specs.Round.{sub_bytes, shift_rows, add_round_key, matrix_product}
use Rattle.aes_cbc.specs.InverseCipher.{inv_sub_bytes, inv_shift_rows, inv_mix_columns}
use Rattle.aes_cbc.specs.InverseTower.{entered}
use Rattle.aes_cbc.proofs.CipherInverse.{sub_shift-IsBlock, inv_shift_sub-sub_shift}
use Rattle.aes_cbc.proofs.LaneSums.{lanes_block, none_IsBlock, add_none}
use Rattle.aes_cbc.proofs.inverse_round.unmixed_key.Goals as goal

unmixed_none : replicate 16 0 ≡ inv_mix_columns (replicate 16 0)
unfolding times product_by_bits matrix_product
unmixed_none = refl

pub returns : goal.returns
returns c =
    let key = c.args.key in
    let none : List ℕ = replicate 16 0 in
    let of_key : IsBlock key = lanes_block key c.fits-key.0 c.fits-key.1 in
    let s = shift_rows (sub_bytes key) in
    let of_s : IsBlock s = sub_shift-IsBlock key of_key in
    let shifted : c.last_round-shifted.result ≡ s
    = c.last_round-shifted.ensures key none of_key none_IsBlock c.into_tower.ensures c.last_keyed.ensures ∙ add_none s of_s in
    let back : add_round_key (inv_sub_bytes (inv_shift_rows s)) none ≡ key
    = ap (λ x. add_round_key x none) (inv_shift_sub-sub_shift key of_key) ∙ add_none key of_key in
    c.inv_round.ensures s none of_s none_IsBlock (c.entered.ensures ∙ ap (map entered) shifted) (c.entered-2.ensures ∙ ap (map entered) unmixed_none)
    ∙ ap (λ x. map entered (inv_mix_columns x)) back
