use Rattle.std.proofs.Common.{◌+◌, ◌∙◌, ◌++◌, [], drop, get_or, sym, ap, arith}
use Rattle.std.specs.List.{concat}
use Rattle.aes_cbc.specs.Block.{xor_bytes}
use Rattle.aes_cbc.specs.Opening.{inv_cbc}
use Rattle.aes_cbc.proofs.ChainInverse.{inv_cbc_more, inv_cbc_done}
use Rattle.aes_cbc.proofs.LaneSums.{zip2_xor}
use Rattle.aes_cbc.proofs.opening.append_each.Goals as goal

pub block-preserved : goal.block-preserved
block-preserved c =
    let key = c.args.key.now in
    let bs = c.args.blocks.now in
    let before = c.block.before in
    let cipher = get_or bs c.block.block-index [] in
    let next = zip2_xor c.decrypt_lanes.result before ∙ ap (λ p. xor_bytes p before) c.decrypt_lanes.ensures.plain in
    let items = inv_cbc_more key before bs c.block.block-index c.block.text.items _ (omega arith) next in
    record {
      items =
          ap (λ x. x ++ concat (inv_cbc key cipher (drop (c.block.block-index + 1) bs))) c.append_block.ensures.items
          ∙ items ∙ c.block.invariant.items;
      len = omega arith;
      room = omega arith;
    }

pub returns-clause-items : goal.returns-clause-items
returns-clause-items c =
    sym (inv_cbc_done c.args.key.now c.block.before c.args.blocks.now c.block.block-index c.block.text.items (omega arith))
    ∙ c.block.invariant.items
