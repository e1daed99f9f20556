use Rattle.std.proofs.Common.{◌≡◌, ◌/◌, ◌<◌, [], length, take, drop, get_or, refl, ap, ◌∙◌, arith, rules}
use Rattle.std.specs.List.{concat}
use Rattle.aes_cbc.specs.Block.{xor_bytes}
use Rattle.aes_cbc.specs.Cipher.{aes}
use Rattle.aes_cbc.specs.Chain.{cbc, blocks}
use Rattle.aes_cbc.proofs.ChainInPlace.{block_ahead}
use Rattle.aes_cbc.proofs.ChainTexts.{items_next, rest_next, chain_whole}
use Rattle.aes_cbc.proofs.PairSums.{sum_first, sum_second}
use Rattle.aes_cbc.proofs.chains.encrypt_four_chains.Goals as goal

pub block-init : goal.block-init
block-init c = record {
  first_items = ap (λ x. concat (cbc c.args.keys.0.now x (blocks c.args.first.now))) c.joined-front_last.ensures.first;
  first_rest = refl;
  first_len = refl;
  second_items = ap (λ x. concat (cbc c.args.keys.1.now x (blocks c.args.second.now))) c.joined-front_last.ensures.second;
  second_rest = refl;
  second_len = refl;
  third_items = ap (λ x. concat (cbc c.args.keys.2.now x (blocks c.args.third.now))) c.joined-back_last.ensures.first;
  third_rest = refl;
  third_len = refl;
  fourth_items = ap (λ x. concat (cbc c.args.keys.3.now x (blocks c.args.fourth.now))) c.joined-back_last.ensures.second;
  fourth_rest = refl;
  fourth_len = refl;
}

pub block-preserved : goal.block-preserved
block-preserved c =
    let i = c.block.i in
    let inv = c.block.invariant in
    let lt_first : i < length c.args.first.now / 16 = c.block-test.true in
    let same_second : length c.args.second.now ≡ length c.args.first.now = c.requires.second in
    let lt_second : i < length c.args.second.now / 16 = omega arith in
    let same_third : length c.args.third.now ≡ length c.args.first.now = c.requires.third in
    let lt_third : i < length c.args.third.now / 16 = omega arith in
    let same_fourth : length c.args.fourth.now ≡ length c.args.first.now = c.requires.fourth in
    let lt_fourth : i < length c.args.fourth.now / 16 = omega arith in
    let first_read : get_or c.as_chunks.result.0.now i [] ≡ get_or (blocks c.args.first.now) i []
    = ap (λ x. get_or x i []) c.as_chunks.ensures.front ∙ block_ahead c.args.first.now c.block.first i lt_first inv.first_len inv.first_rest in
    let first_next : take 16 c.encrypt_four-next.result.0 ≡ aes c.args.keys.0.now (xor_bytes (get_or (blocks c.args.first.now) i []) (take 16 c.block.front_last))
    = c.encrypt_four-next.ensures.front.first ∙ ap (aes c.args.keys.0.now) (sum_first c.joined-front.result c.block.front_last _ _ (c.joined-front.ensures.first ∙ first_read) refl) in
    let first_long : length (take 16 c.encrypt_four-next.result.0) ≡ 16 = c.encrypt_four-next.ensures.first.long in
    let first_written : c.copy_from_slice.new.self ≡ take 16 c.encrypt_four-next.result.0 = c.copy_from_slice.ensures.after ∙ c.first_of.ensures in
    let second_read : get_or c.as_chunks-in-block.result.0.now i [] ≡ get_or (blocks c.args.second.now) i []
    = ap (λ x. get_or x i []) c.as_chunks-in-block.ensures.front ∙ block_ahead c.args.second.now c.block.second i lt_second inv.second_len inv.second_rest in
    let second_next : drop 16 c.encrypt_four-next.result.0 ≡ aes c.args.keys.1.now (xor_bytes (get_or (blocks c.args.second.now) i []) (drop 16 c.block.front_last))
    = c.encrypt_four-next.ensures.front.second ∙ ap (aes c.args.keys.1.now) (sum_second c.joined-front.result c.block.front_last _ _ (c.joined-front.ensures.second ∙ second_read) refl) in
    let second_long : length (drop 16 c.encrypt_four-next.result.0) ≡ 16 = c.encrypt_four-next.ensures.second.long in
    let second_written : c.copy_from_slice-in-block.new.self ≡ drop 16 c.encrypt_four-next.result.0 = c.copy_from_slice-in-block.ensures.after ∙ c.second_of.ensures in
    let third_read : get_or c.as_chunks-in-block-2.result.0.now i [] ≡ get_or (blocks c.args.third.now) i []
    = ap (λ x. get_or x i []) c.as_chunks-in-block-2.ensures.front ∙ block_ahead c.args.third.now c.block.third i lt_third inv.third_len inv.third_rest in
    let third_next : take 16 c.encrypt_four-next.result.1 ≡ aes c.args.keys.2.now (xor_bytes (get_or (blocks c.args.third.now) i []) (take 16 c.block.back_last))
    = c.encrypt_four-next.ensures.back.first ∙ ap (aes c.args.keys.2.now) (sum_first c.joined-back.result c.block.back_last _ _ (c.joined-back.ensures.first ∙ third_read) refl) in
    let third_long : length (take 16 c.encrypt_four-next.result.1) ≡ 16 = c.encrypt_four-next.ensures.third.long in
    let third_written : c.copy_from_slice-in-block-2.new.self ≡ take 16 c.encrypt_four-next.result.1 = c.copy_from_slice-in-block-2.ensures.after ∙ c.first_of-in-block.ensures in
    let fourth_read : get_or c.as_chunks-in-block-3.result.0.now i [] ≡ get_or (blocks c.args.fourth.now) i []
    = ap (λ x. get_or x i []) c.as_chunks-in-block-3.ensures.front ∙ block_ahead c.args.fourth.now c.block.fourth i lt_fourth inv.fourth_len inv.fourth_rest in
    let fourth_next : drop 16 c.encrypt_four-next.result.1 ≡ aes c.args.keys.3.now (xor_bytes (get_or (blocks c.args.fourth.now) i []) (drop 16 c.block.back_last))
    = c.encrypt_four-next.ensures.back.second ∙ ap (aes c.args.keys.3.now) (sum_second c.joined-back.result c.block.back_last _ _ (c.joined-back.ensures.second ∙ fourth_read) refl) in
    let fourth_long : length (drop 16 c.encrypt_four-next.result.1) ≡ 16 = c.encrypt_four-next.ensures.fourth.long in
    let fourth_written : c.copy_from_slice-in-block-3.new.self ≡ drop 16 c.encrypt_four-next.result.1 = c.copy_from_slice-in-block-3.ensures.after ∙ c.second_of-in-block.ensures in
    record {
      first_items = items_next c.args.keys.0.now c.args.first.now c.block.first (take 16 c.block.front_last) (take 16 c.encrypt_four-next.result.0) _ _ i lt_first inv.first_len first_written first_long first_next inv.first_items;
      first_rest = rest_next c.args.first.now c.block.first _ i lt_first inv.first_len (ap length first_written ∙ first_long) inv.first_rest;
      first_len = search rules;
      second_items = items_next c.args.keys.1.now c.args.second.now c.block.second (drop 16 c.block.front_last) (drop 16 c.encrypt_four-next.result.0) _ _ i lt_second inv.second_len second_written second_long second_next inv.second_items;
      second_rest = rest_next c.args.second.now c.block.second _ i lt_second inv.second_len (ap length second_written ∙ second_long) inv.second_rest;
      second_len = search rules;
      third_items = items_next c.args.keys.2.now c.args.third.now c.block.third (take 16 c.block.back_last) (take 16 c.encrypt_four-next.result.1) _ _ i lt_third inv.third_len third_written third_long third_next inv.third_items;
      third_rest = rest_next c.args.third.now c.block.third _ i lt_third inv.third_len (ap length third_written ∙ third_long) inv.third_rest;
      third_len = search rules;
      fourth_items = items_next c.args.keys.3.now c.args.fourth.now c.block.fourth (drop 16 c.block.back_last) (drop 16 c.encrypt_four-next.result.1) _ _ i lt_fourth inv.fourth_len fourth_written fourth_long fourth_next inv.fourth_items;
      fourth_rest = rest_next c.args.fourth.now c.block.fourth _ i lt_fourth inv.fourth_len (ap length fourth_written ∙ fourth_long) inv.fourth_rest;
      fourth_len = search rules;
    }

pub returns-clause-first : goal.returns-clause-first
returns-clause-first c =
    let len = c.block.invariant.first_len in
    let whole = c.requires.whole in
    chain_whole c.args.keys.0.now c.args.first.now c.block.first (take 16 c.block.front_last) _ c.block.i (omega arith) (omega arith) c.block.invariant.first_items

pub returns-clause-second : goal.returns-clause-second
returns-clause-second c =
    let len = c.block.invariant.second_len in
    let whole = c.requires.whole in
    let same : length c.args.second.now ≡ length c.args.first.now = c.requires.second in
    chain_whole c.args.keys.1.now c.args.second.now c.block.second (drop 16 c.block.front_last) _ c.block.i (omega arith) (omega arith) c.block.invariant.second_items

pub returns-clause-third : goal.returns-clause-third
returns-clause-third c =
    let len = c.block.invariant.third_len in
    let whole = c.requires.whole in
    let same : length c.args.third.now ≡ length c.args.first.now = c.requires.third in
    chain_whole c.args.keys.2.now c.args.third.now c.block.third (take 16 c.block.back_last) _ c.block.i (omega arith) (omega arith) c.block.invariant.third_items

pub returns-clause-fourth : goal.returns-clause-fourth
returns-clause-fourth c =
    let len = c.block.invariant.fourth_len in
    let whole = c.requires.whole in
    let same : length c.args.fourth.now ≡ length c.args.first.now = c.requires.fourth in
    chain_whole c.args.keys.3.now c.args.fourth.now c.block.fourth (drop 16 c.block.back_last) _ c.block.i (omega arith) (omega arith) c.block.invariant.fourth_items
