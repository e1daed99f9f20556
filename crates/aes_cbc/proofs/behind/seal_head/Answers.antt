use Rattle.std.proofs.Common.{◌≡◌, ◌%◌, ◌++◌, length, take, drop, ap, ◌∙◌, rules}
use Rattle.std.proofs.lemmas.List.{take_at}
use Rattle.std.specs.List.{concat}
use Rattle.aes_cbc.specs.Chain.{cbc, blocks}
use Rattle.aes_cbc.specs.Opening.{last_block}
use Rattle.aes_cbc.proofs.ChainSplit.{blocks_of_chain}
use Rattle.aes_cbc.proofs.SealedParts.{head_sealed}
use Rattle.aes_cbc.proofs.behind.seal_head.Goals as goal

pub returns-clause-items : goal.returns-clause-items
returns-clause-items c =
    let k = c.args.key.now in
    let v = c.args.vector.now in
    let text = c.args.text.now.items in
    let piece = c.split_at.result.0.now in
    let long_text = c.extend_from_slice.new.self.items in
    let sealed = c.encrypt_chain.new.text in
    let appended : long_text ≡ text ++ piece = search rules in
    let whole : length long_text % 16 ≡ 0 = search rules in
    let long : length sealed ≡ c.extend_from_slice.new.self.len = search rules in
    let encrypted : take c.extend_from_slice.new.self.len (sealed ++ drop (length sealed) long_text) ≡ concat (cbc k v (blocks long_text))
    = take_at sealed (drop (length sealed) long_text) c.extend_from_slice.new.self.len long
    ∙ c.encrypt_chain.ensures ∙ ap (λ x. concat (cbc k v (blocks x))) c.deref_mut.ensures.value in
    let last : c.last_block.result ≡ last_block v (cbc k v (blocks long_text))
    = c.last_block.ensures.value
    ∙ ap (last_block v) (ap blocks (c.deref.ensures.value ∙ encrypted) ∙ blocks_of_chain k v long_text c.last_block.ensures.key.long) in
    head_sealed k v text piece c.split_at.result.1.now c.args.more.now long_text _ c.last_block.result
    whole c.split_at.ensures.by_index.0 appended encrypted last
