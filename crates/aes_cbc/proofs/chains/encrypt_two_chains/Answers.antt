use Rattle.std.proofs.Common.{◌≡◌, ◌/◌, ◌<◌, [], length, take, drop, get_or, refl, ap, ◌∙◌, arith, rules}
use Rattle.std.specs.List.{concat}
use Rattle.aes_cbc.specs.Block.{xor_bytes}
use Rattle.aes_cbc.specs.Cipher.{aes}
use Rattle.aes_cbc.specs.Chain.{cbc, blocks}
use Rattle.aes_cbc.proofs.ChainInPlace.{block_ahead}
use Rattle.aes_cbc.proofs.ChainTexts.{items_next, rest_next, chain_whole}
use Rattle.aes_cbc.proofs.PairSums.{sum_first, sum_second}
use Rattle.aes_cbc.proofs.chains.encrypt_two_chains.Goals as goal

pub block-init : goal.block-init
block-init c = record {
  first_items = ap (λ x. concat (cbc c.args.keys.0.now x (blocks c.args.first.now))) c.joined-last.ensures.first;
  first_rest = refl;
  first_len = refl;
  second_items = ap (λ x. concat (cbc c.args.keys.1.now x (blocks c.args.second.now))) c.joined-last.ensures.second;
  second_rest = refl;
  second_len = refl;
}

pub block-preserved : goal.block-preserved
block-preserved c =
    let i = c.block.i in
    let inv = c.block.invariant in
    let lt_first : i < length c.args.first.now / 16 = c.block-test.true in
    let same_second : length c.args.second.now ≡ length c.args.first.now = c.requires.second in
    let lt_second : i < length c.args.second.now / 16 = omega arith in
    let first_read : get_or c.as_chunks.result.0.now i [] ≡ get_or (blocks c.args.first.now) i []
    = ap (λ x. get_or x i []) c.as_chunks.ensures.front ∙ block_ahead c.args.first.now c.block.first i lt_first inv.first_len inv.first_rest in
    let first_next : take 16 c.encrypt_two-next.result ≡ aes c.args.keys.0.now (xor_bytes (get_or (blocks c.args.first.now) i []) (take 16 c.block.last))
    = c.encrypt_two-next.ensures.ciphers.first ∙ ap (aes c.args.keys.0.now) (sum_first c.joined-blocks.result c.block.last _ _ (c.joined-blocks.ensures.first ∙ first_read) refl) in
    let first_long : length (take 16 c.encrypt_two-next.result) ≡ 16 = c.encrypt_two-next.ensures.first.long in
    let first_written : c.copy_from_slice.new.self ≡ take 16 c.encrypt_two-next.result = c.copy_from_slice.ensures.after ∙ c.first_of.ensures in
    let second_read : get_or c.as_chunks-in-block.result.0.now i [] ≡ get_or (blocks c.args.second.now) i []
    = ap (λ x. get_or x i []) c.as_chunks-in-block.ensures.front ∙ block_ahead c.args.second.now c.block.second i lt_second inv.second_len inv.second_rest in
    let second_next : drop 16 c.encrypt_two-next.result ≡ aes c.args.keys.1.now (xor_bytes (get_or (blocks c.args.second.now) i []) (drop 16 c.block.last))
    = c.encrypt_two-next.ensures.ciphers.second ∙ ap (aes c.args.keys.1.now) (sum_second c.joined-blocks.result c.block.last _ _ (c.joined-blocks.ensures.second ∙ second_read) refl) in
    let second_long : length (drop 16 c.encrypt_two-next.result) ≡ 16 = c.encrypt_two-next.ensures.second.long in
    let second_written : c.copy_from_slice-in-block.new.self ≡ drop 16 c.encrypt_two-next.result = c.copy_from_slice-in-block.ensures.after ∙ c.second_of.ensures in
    record {
      first_items = items_next c.args.keys.0.now c.args.first.now c.block.first (take 16 c.block.last) (take 16 c.encrypt_two-next.result) _ _ i lt_first inv.first_len first_written first_long first_next inv.first_items;
      first_rest = rest_next c.args.first.now c.block.first _ i lt_first inv.first_len (ap length first_written ∙ first_long) inv.first_rest;
      first_len = search rules;
      second_items = items_next c.args.keys.1.now c.args.second.now c.block.second (drop 16 c.block.last) (drop 16 c.encrypt_two-next.result) _ _ i lt_second inv.second_len second_written second_long second_next inv.second_items;
      second_rest = rest_next c.args.second.now c.block.second _ i lt_second inv.second_len (ap length second_written ∙ second_long) inv.second_rest;
      second_len = search rules;
    }

pub returns-clause-first : goal.returns-clause-first
returns-clause-first c =
    let len = c.block.invariant.first_len in
    let whole = c.requires.whole in
    chain_whole c.args.keys.0.now c.args.first.now c.block.first (take 16 c.block.last) _ c.block.i (omega arith) (omega arith) c.block.invariant.first_items

pub returns-clause-second : goal.returns-clause-second
returns-clause-second c =
    let len = c.block.invariant.second_len in
    let whole = c.requires.whole in
    let same : length c.args.second.now ≡ length c.args.first.now = c.requires.second in
    chain_whole c.args.keys.1.now c.args.second.now c.block.second (drop 16 c.block.last) _ c.block.i (omega arith) (omega arith) c.block.invariant.second_items
