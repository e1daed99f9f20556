use Rattle.std.proofs.Common.{◌≡◌, ◌/◌, ◌<◌, ◌++◌, [], length, take, drop, get_or, slice_index_or, refl, ap, ◌∙◌, arith, rules}
use Rattle.std.specs.List.{concat}
use Rattle.aes_cbc.specs.Block.{xor_bytes}
use Rattle.aes_cbc.specs.Cipher.{aes}
use Rattle.aes_cbc.specs.Chain.{cbc, blocks}
use Rattle.aes_cbc.specs.Opening.{last_block}
use Rattle.aes_cbc.proofs.ChainSplit.{blocks_of_chain}
use Rattle.aes_cbc.proofs.ChainTexts.{items_next, chain_whole}
use Rattle.aes_cbc.proofs.PairSums.{sum_first, sum_second}
use Rattle.aes_cbc.proofs.behind_side_by_side.append_four_encrypted.Goals as goal

pub block-init : goal.block-init
block-init c = record {
  first_items = ap (λ x. concat (cbc c.args.keys.0.now x (blocks c.args.pieces.0.now))) c.joined-front_last.ensures.first;
  second_items = ap (λ x. concat (cbc c.args.keys.1.now x (blocks c.args.pieces.1.now))) c.joined-front_last.ensures.second;
  third_items = ap (λ x. concat (cbc c.args.keys.2.now x (blocks c.args.pieces.2.now))) c.joined-back_last.ensures.first;
  fourth_items = ap (λ x. concat (cbc c.args.keys.3.now x (blocks c.args.pieces.3.now))) c.joined-back_last.ensures.second;
}

pub block-preserved : goal.block-preserved
block-preserved c =
    let i = c.block.i in
    let inv = c.block.invariant in
    let lt : i < 64 = c.block-test.true in
    let first_long : length c.args.pieces.0.now ≡ 1024 = c.requires.first_piece in
    let first_lt : i < length c.args.pieces.0.now / 16 = omega arith in
    let first_len : length c.block.first_front ≡ length c.args.pieces.0.now = search rules in
    let first_read : get_or c.as_chunks.result.0.now i [] ≡ get_or (blocks c.args.pieces.0.now) i [] = ap (λ x. get_or x i []) c.as_chunks.ensures.front in
    let first_next : take 16 c.encrypt_four-next.result.0 ≡ aes c.args.keys.0.now (xor_bytes (get_or (blocks c.args.pieces.0.now) i []) (take 16 c.block.front_last))
    = c.encrypt_four-next.ensures.front.first ∙ ap (aes c.args.keys.0.now) (sum_first c.joined-front.result c.block.front_last _ _ (c.joined-front.ensures.first ∙ first_read) refl) in
    let first_block : length (take 16 c.encrypt_four-next.result.0) ≡ 16 = c.encrypt_four-next.ensures.first.long in
    let first_written : c.copy_from_slice.new.self ≡ take 16 c.encrypt_four-next.result.0 = c.copy_from_slice.ensures.after ∙ c.first_of.ensures in
    let second_long : length c.args.pieces.1.now ≡ 1024 = c.requires.second_piece in
    let second_lt : i < length c.args.pieces.1.now / 16 = omega arith in
    let second_len : length c.block.second_front ≡ length c.args.pieces.1.now = search rules in
    let second_read : get_or c.as_chunks-in-block.result.0.now i [] ≡ get_or (blocks c.args.pieces.1.now) i [] = ap (λ x. get_or x i []) c.as_chunks-in-block.ensures.front in
    let second_next : drop 16 c.encrypt_four-next.result.0 ≡ aes c.args.keys.1.now (xor_bytes (get_or (blocks c.args.pieces.1.now) i []) (drop 16 c.block.front_last))
    = c.encrypt_four-next.ensures.front.second ∙ ap (aes c.args.keys.1.now) (sum_second c.joined-front.result c.block.front_last _ _ (c.joined-front.ensures.second ∙ second_read) refl) in
    let second_block : length (drop 16 c.encrypt_four-next.result.0) ≡ 16 = c.encrypt_four-next.ensures.second.long in
    let second_written : c.copy_from_slice-in-block.new.self ≡ drop 16 c.encrypt_four-next.result.0 = c.copy_from_slice-in-block.ensures.after ∙ c.second_of.ensures in
    let third_long : length c.args.pieces.2.now ≡ 1024 = c.requires.third_piece in
    let third_lt : i < length c.args.pieces.2.now / 16 = omega arith in
    let third_len : length c.block.third_front ≡ length c.args.pieces.2.now = search rules in
    let third_read : get_or c.as_chunks-in-block-2.result.0.now i [] ≡ get_or (blocks c.args.pieces.2.now) i [] = ap (λ x. get_or x i []) c.as_chunks-in-block-2.ensures.front in
    let third_next : take 16 c.encrypt_four-next.result.1 ≡ aes c.args.keys.2.now (xor_bytes (get_or (blocks c.args.pieces.2.now) i []) (take 16 c.block.back_last))
    = c.encrypt_four-next.ensures.back.first ∙ ap (aes c.args.keys.2.now) (sum_first c.joined-back.result c.block.back_last _ _ (c.joined-back.ensures.first ∙ third_read) refl) in
    let third_block : length (take 16 c.encrypt_four-next.result.1) ≡ 16 = c.encrypt_four-next.ensures.third.long in
    let third_written : c.copy_from_slice-in-block-2.new.self ≡ take 16 c.encrypt_four-next.result.1 = c.copy_from_slice-in-block-2.ensures.after ∙ c.first_of-in-block.ensures in
    let fourth_long : length c.args.pieces.3.now ≡ 1024 = c.requires.fourth_piece in
    let fourth_lt : i < length c.args.pieces.3.now / 16 = omega arith in
    let fourth_len : length c.block.fourth_front ≡ length c.args.pieces.3.now = search rules in
    let fourth_read : get_or c.as_chunks-in-block-3.result.0.now i [] ≡ get_or (blocks c.args.pieces.3.now) i [] = ap (λ x. get_or x i []) c.as_chunks-in-block-3.ensures.front in
    let fourth_next : drop 16 c.encrypt_four-next.result.1 ≡ aes c.args.keys.3.now (xor_bytes (get_or (blocks c.args.pieces.3.now) i []) (drop 16 c.block.back_last))
    = c.encrypt_four-next.ensures.back.second ∙ ap (aes c.args.keys.3.now) (sum_second c.joined-back.result c.block.back_last _ _ (c.joined-back.ensures.second ∙ fourth_read) refl) in
    let fourth_block : length (drop 16 c.encrypt_four-next.result.1) ≡ 16 = c.encrypt_four-next.ensures.fourth.long in
    let fourth_written : c.copy_from_slice-in-block-3.new.self ≡ drop 16 c.encrypt_four-next.result.1 = c.copy_from_slice-in-block-3.ensures.after ∙ c.second_of-in-block.ensures in
    record {
      first_items = items_next c.args.keys.0.now c.args.pieces.0.now c.block.first_front (take 16 c.block.front_last) (take 16 c.encrypt_four-next.result.0) _ _ i first_lt first_len first_written first_block first_next inv.first_items;
      second_items = items_next c.args.keys.1.now c.args.pieces.1.now c.block.second_front (drop 16 c.block.front_last) (drop 16 c.encrypt_four-next.result.0) _ _ i second_lt second_len second_written second_block second_next inv.second_items;
      third_items = items_next c.args.keys.2.now c.args.pieces.2.now c.block.third_front (take 16 c.block.back_last) (take 16 c.encrypt_four-next.result.1) _ _ i third_lt third_len third_written third_block third_next inv.third_items;
      fourth_items = items_next c.args.keys.3.now c.args.pieces.3.now c.block.fourth_front (drop 16 c.block.back_last) (drop 16 c.encrypt_four-next.result.1) _ _ i fourth_lt fourth_len fourth_written fourth_block fourth_next inv.fourth_items;
    }

pub returns-clause-first_items : goal.returns-clause-first_items
returns-clause-first_items c =
    let k = c.args.keys.0.now in
    let v = slice_index_or c.args.vectors.now 0 [] in
    let piece = c.args.pieces.0.now in
    let long : length piece ≡ 1024 = c.requires.first_piece in
    let len : length c.block.first_front ≡ length piece = search rules in
    let front : c.block.first_front ≡ concat (cbc k v (blocks piece))
    = chain_whole k piece c.block.first_front (take 16 c.block.front_last) _ c.block.i (omega arith) (omega arith) c.block.invariant.first_items in
    let appended : c.extend_from_slice.new.self.items ≡ c.args.first.now.items ++ c.block.first_front = search rules in
    appended ∙ ap (λ x. c.args.first.now.items ++ x) front

pub returns-clause-first_last : goal.returns-clause-first_last
returns-clause-first_last c =
    let k = c.args.keys.0.now in
    let v = slice_index_or c.args.vectors.now 0 [] in
    let piece = c.args.pieces.0.now in
    let long : length piece ≡ 1024 = c.requires.first_piece in
    let len : length c.block.first_front ≡ length piece = search rules in
    let front : c.block.first_front ≡ concat (cbc k v (blocks piece))
    = chain_whole k piece c.block.first_front (take 16 c.block.front_last) _ c.block.i (omega arith) (omega arith) c.block.invariant.first_items in
    c.last_block.ensures.value ∙ ap (last_block v) (ap blocks front ∙ blocks_of_chain k v piece c.last_block.ensures.key.long)

pub returns-clause-second_items : goal.returns-clause-second_items
returns-clause-second_items c =
    let k = c.args.keys.1.now in
    let v = slice_index_or c.args.vectors.now 1 [] in
    let piece = c.args.pieces.1.now in
    let long : length piece ≡ 1024 = c.requires.second_piece in
    let len : length c.block.second_front ≡ length piece = search rules in
    let front : c.block.second_front ≡ concat (cbc k v (blocks piece))
    = chain_whole k piece c.block.second_front (drop 16 c.block.front_last) _ c.block.i (omega arith) (omega arith) c.block.invariant.second_items in
    let appended : c.extend_from_slice-2.new.self.items ≡ c.args.second.now.items ++ c.block.second_front = search rules in
    appended ∙ ap (λ x. c.args.second.now.items ++ x) front

pub returns-clause-second_last : goal.returns-clause-second_last
returns-clause-second_last c =
    let k = c.args.keys.1.now in
    let v = slice_index_or c.args.vectors.now 1 [] in
    let piece = c.args.pieces.1.now in
    let long : length piece ≡ 1024 = c.requires.second_piece in
    let len : length c.block.second_front ≡ length piece = search rules in
    let front : c.block.second_front ≡ concat (cbc k v (blocks piece))
    = chain_whole k piece c.block.second_front (drop 16 c.block.front_last) _ c.block.i (omega arith) (omega arith) c.block.invariant.second_items in
    c.last_block-2.ensures.value ∙ ap (last_block v) (ap blocks front ∙ blocks_of_chain k v piece c.last_block-2.ensures.key.long)

pub returns-clause-third_items : goal.returns-clause-third_items
returns-clause-third_items c =
    let k = c.args.keys.2.now in
    let v = slice_index_or c.args.vectors.now 2 [] in
    let piece = c.args.pieces.2.now in
    let long : length piece ≡ 1024 = c.requires.third_piece in
    let len : length c.block.third_front ≡ length piece = search rules in
    let front : c.block.third_front ≡ concat (cbc k v (blocks piece))
    = chain_whole k piece c.block.third_front (take 16 c.block.back_last) _ c.block.i (omega arith) (omega arith) c.block.invariant.third_items in
    let appended : c.extend_from_slice-3.new.self.items ≡ c.args.third.now.items ++ c.block.third_front = search rules in
    appended ∙ ap (λ x. c.args.third.now.items ++ x) front

pub returns-clause-third_last : goal.returns-clause-third_last
returns-clause-third_last c =
    let k = c.args.keys.2.now in
    let v = slice_index_or c.args.vectors.now 2 [] in
    let piece = c.args.pieces.2.now in
    let long : length piece ≡ 1024 = c.requires.third_piece in
    let len : length c.block.third_front ≡ length piece = search rules in
    let front : c.block.third_front ≡ concat (cbc k v (blocks piece))
    = chain_whole k piece c.block.third_front (take 16 c.block.back_last) _ c.block.i (omega arith) (omega arith) c.block.invariant.third_items in
    c.last_block-3.ensures.value ∙ ap (last_block v) (ap blocks front ∙ blocks_of_chain k v piece c.last_block-3.ensures.key.long)

pub returns-clause-fourth_items : goal.returns-clause-fourth_items
returns-clause-fourth_items c =
    let k = c.args.keys.3.now in
    let v = slice_index_or c.args.vectors.now 3 [] in
    let piece = c.args.pieces.3.now in
    let long : length piece ≡ 1024 = c.requires.fourth_piece in
    let len : length c.block.fourth_front ≡ length piece = search rules in
    let front : c.block.fourth_front ≡ concat (cbc k v (blocks piece))
    = chain_whole k piece c.block.fourth_front (drop 16 c.block.back_last) _ c.block.i (omega arith) (omega arith) c.block.invariant.fourth_items in
    let appended : c.extend_from_slice-4.new.self.items ≡ c.args.fourth.now.items ++ c.block.fourth_front = search rules in
    appended ∙ ap (λ x. c.args.fourth.now.items ++ x) front

pub returns-clause-fourth_last : goal.returns-clause-fourth_last
returns-clause-fourth_last c =
    let k = c.args.keys.3.now in
    let v = slice_index_or c.args.vectors.now 3 [] in
    let piece = c.args.pieces.3.now in
    let long : length piece ≡ 1024 = c.requires.fourth_piece in
    let len : length c.block.fourth_front ≡ length piece = search rules in
    let front : c.block.fourth_front ≡ concat (cbc k v (blocks piece))
    = chain_whole k piece c.block.fourth_front (drop 16 c.block.back_last) _ c.block.i (omega arith) (omega arith) c.block.invariant.fourth_items in
    c.last_block-4.ensures.value ∙ ap (last_block v) (ap blocks front ∙ blocks_of_chain k v piece c.last_block-4.ensures.key.long)
