use Rattle.std.proofs.Common.{◌*◌, ◌+◌, ◌∙◌, sym, arith}
use Rattle.aes_cbc.proofs.ChainInverse.{inv_cbc_done}
use Rattle.aes_cbc.proofs.EightBlocks.{two_plain, next_at, eight_more}
use Rattle.aes_cbc.proofs.opening.append_eights.Goals as goal

pub eight-preserved : goal.eight-preserved
eight-preserved c =
    let key = c.args.key.now in
    let bs = c.args.blocks.now in
    let n = 8 * c.eight.i in
    let plain = c.decrypt_eight-plain.ensures in
    record {
      items =
          eight_more key c.eight.before bs n _ c.eight.text.items _ _ _ _ _ _ _ _ (omega arith) (omega arith)
          c.append_pair.ensures.items c.append_pair-in-eight.ensures.items c.append_pair-in-eight-2.ensures.items c.append_pair-in-eight-3.ensures.items
          (two_plain key _ _ _ _ _ _ _ plain.first c.pair_at.ensures c.joined.ensures)
          (two_plain key _ _ _ _ _ _ _ plain.second (next_at _ bs (n + 2) (n + 3) (omega arith) c.pair_at-in-eight.ensures) (next_at _ bs (n + 1) (n + 2) (omega arith) c.pair_at-in-eight-4.ensures))
          (two_plain key _ _ _ _ _ _ _ plain.third (next_at _ bs (n + 4) (n + 5) (omega arith) c.pair_at-in-eight-2.ensures) (next_at _ bs (n + 3) (n + 4) (omega arith) c.pair_at-in-eight-5.ensures))
          (two_plain key _ _ _ _ _ _ _ plain.fourth (next_at _ bs (n + 6) (n + 7) (omega arith) c.pair_at-in-eight-3.ensures) (next_at _ bs (n + 5) (n + 6) (omega arith) c.pair_at-in-eight-6.ensures))
          ∙ c.eight.invariant.items;
      len = omega arith;
      room = omega arith;
    }

pub returns-clause-items : goal.returns-clause-items
returns-clause-items c =
    let eights = c.requires.eights in
    sym (inv_cbc_done c.args.key.now c.eight.before c.args.blocks.now (8 * c.eight.i) c.eight.text.items (omega arith))
    ∙ c.eight.invariant.items
