use Rattle.std.proofs.Common.{◌∷◌, [], ◌++◌, ◌<◌, map, ap₂, sym, ◌∙◌}
use Rattle.std.proofs.lemmas.List.Elements.{All-append}
use Rattle.aes_cbc.specs.InverseCipher.{inv_sub_bytes, inv_shift_rows, inv_mix_columns}
use Rattle.aes_cbc.specs.InverseTower.{entered}
use Rattle.aes_cbc.proofs.MixingInverse.{matrix_product-IsBlock}
use Rattle.aes_cbc.proofs.CipherInverse.{inv_shift_sub-IsBlock}
use Rattle.aes_cbc.proofs.ProductSumBlocks.{matrix_product-xor}
use Rattle.aes_cbc.proofs.PairInverseRounds.{both_combined, round_of_two}
use Rattle.aes_cbc.proofs.pair_inverse_round.inv_round.Goals as goal

pub returns : goal.returns
returns c = λ s t k hs ht hk es ek.
    let m = 0x0E ∷ 0x0B ∷ 0x0D ∷ 0x09 ∷ [] in
    let bytes = All-append (λ b. b < 256) s t hs.bytes ht.bytes in
    let fourteen = c.unmixed.ensures.fourteen (s ++ t) bytes es in
    let eleven = c.unmixed.ensures.eleven (s ++ t) bytes es in
    let thirteen = c.unmixed.ensures.thirteen (s ++ t) bytes es in
    let nine = c.unmixed.ensures.nine (s ++ t) bytes es in
    (λ i. both_combined (fourteen i) (eleven i) (thirteen i) (nine i) (ek i))
    ∙ round_of_two s t (inv_mix_columns k) hs ht (matrix_product-IsBlock m k hk)
    ∙ ap₂ (λ x y. map entered (x ++ y))
    (sym (matrix_product-xor m (inv_sub_bytes (inv_shift_rows s)) k (inv_shift_sub-IsBlock s hs) hk))
    (sym (matrix_product-xor m (inv_sub_bytes (inv_shift_rows t)) k (inv_shift_sub-IsBlock t ht) hk))
