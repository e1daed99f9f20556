use Rattle.std.proofs.Common.{◌≡◌, ◌*◌, ◌∙◌, sym, ap, arith, List, ℕ}
use Rattle.aes_cbc.specs.Block.{xor_bytes}
use Rattle.aes_cbc.proofs.ChainInverse.{inv_cbc_done}
use Rattle.aes_cbc.proofs.FourBlocks.{four_more}
use Rattle.aes_cbc.proofs.LaneSums.{zip2_xor}
use Rattle.aes_cbc.proofs.opening.append_fours.Goals as goal

pub four-preserved : goal.four-preserved
four-preserved c =
    let key = c.args.key.now in
    let bs = c.args.blocks.now in
    let plain = c.decrypt_four-plain.ensures in
    let summed = λ (p q b : List ℕ) (e : p ≡ q). zip2_xor p b ∙ ap (λ x. xor_bytes x b) e in
    record {
      items =
          four_more key c.four.before bs (4 * c.four.i) _ c.four.text.items _ _ _ _ _ _ _ _ (omega arith) (omega arith)
          c.append_block.ensures.items c.append_block-in-four.ensures.items c.append_block-in-four-2.ensures.items c.append_block-in-four-3.ensures.items
          (summed _ _ _ plain.first) (summed _ _ _ plain.second) (summed _ _ _ plain.third) (summed _ _ _ plain.fourth)
          ∙ c.four.invariant.items;
      len = omega arith;
      room = omega arith;
    }

pub returns-clause-items : goal.returns-clause-items
returns-clause-items c =
    let fours = c.requires.fours in
    sym (inv_cbc_done c.args.key.now c.four.before c.args.blocks.now (4 * c.four.i) c.four.text.items (omega arith))
    ∙ c.four.invariant.items
