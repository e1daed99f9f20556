use Rattle.std.proofs.Common.{◌≡◌, ap, ◌∙◌}
use Rattle.std.specs.List.{concat}
use Rattle.aes_cbc.specs.Chain.{cbc, blocks}
use Rattle.aes_cbc.specs.Opening.{last_block}
use Rattle.aes_cbc.proofs.ChainSplit.{blocks_of_chain}
use Rattle.aes_cbc.proofs.behind.append_encrypted.Goals as goal

pub returns-clause-last : goal.returns-clause-last
returns-clause-last c =
    let k = c.args.key.now in
    let v = c.args.vector.now in
    let piece = c.args.piece.now in
    let front : c.encrypt_chain.new.text ≡ concat (cbc k v (blocks piece))
    = c.encrypt_chain.ensures ∙ ap (λ x. concat (cbc k v (blocks x))) c.copy_from_slice.ensures.after in
    c.last_block.ensures.value
    ∙ ap (last_block v) (ap blocks front ∙ blocks_of_chain k v piece c.last_block.ensures.key.long)
