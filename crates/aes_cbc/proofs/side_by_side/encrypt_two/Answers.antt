use Rattle.std.proofs.Common.{[], ap, ◌∙◌, rules}
use Rattle.std.specs.Prelude.{slice_index_or}
use Rattle.std.specs.List.{concat}
use Rattle.aes_cbc.specs.Chain.{cbc, blocks}
use Rattle.aes_cbc.proofs.ChainSplit.{chain_in_parts}
use Rattle.aes_cbc.proofs.side_by_side.encrypt_two.Goals as goal

pub returns-clause-first : goal.returns-clause-first
returns-clause-first c =
    let k = c.args.keys.0.now in
    let v = slice_index_or c.args.vectors.now 0 [] in
    let x = c.split_at_mut-first_front.result.0.now in
    let y = c.split_at_mut-first_front.result.1.now in
    let rest = c.encrypt_chain.ensures ∙ ap (λ w. concat (cbc k w (blocks y))) c.last_block-first_last.ensures.value in
    chain_in_parts k v c.args.first.now x y c.encrypt_two_chains.new.first c.encrypt_chain.new.text c.last_block-first_last.ensures.key.long (search rules)
    c.split_at_mut-first_front.ensures.value c.encrypt_two_chains.ensures.first rest

pub returns-clause-second : goal.returns-clause-second
returns-clause-second c =
    let k = c.args.keys.1.now in
    let v = slice_index_or c.args.vectors.now 1 [] in
    let x = c.split_at_mut-second_front.result.0.now in
    let y = c.split_at_mut-second_front.result.1.now in
    let rest = c.encrypt_chain-2.ensures ∙ ap (λ w. concat (cbc k w (blocks y))) c.last_block-second_last.ensures.value in
    chain_in_parts k v c.args.second.now x y c.encrypt_two_chains.new.second c.encrypt_chain-2.new.text c.last_block-second_last.ensures.key.long (search rules)
    c.split_at_mut-second_front.ensures.value c.encrypt_two_chains.ensures.second rest
