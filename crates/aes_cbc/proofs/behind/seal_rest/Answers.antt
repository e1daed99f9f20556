use Rattle.std.proofs.Common.{◌≡◌, ◌%◌, ◌≤◌, ◌++◌, length, ap₂, ◌∙◌, rules}
use Rattle.std.proofs.lemmas.List.{take_all, drop_all}
use Rattle.aes_cbc.specs.Chain.{sealed_text}
use Rattle.aes_cbc.proofs.SealedParts.{piece_sealed}
use Rattle.aes_cbc.proofs.behind.seal_rest.Goals as goal

pub returns-clause-items : goal.returns-clause-items
returns-clause-items c =
    let text = c.append_pieces-last.new.text.items in
    let pieces = c.split_at.result.0.now in
    let rest = c.split_at.result.1.now in
    let last = c.append_pieces-last.result in
    let all : length text ≤ c.len-done.result = search rules in
    let whole : length pieces % 16 ≡ 0 = search rules in
    c.seal_end.ensures.items
    ∙ ap₂ (λ a b. a ++ sealed_text c.args.key.now last (b ++ rest)) (take_all c.len-done.result text all) (drop_all c.len-done.result text all)
    ∙ piece_sealed c.args.key.now c.args.vector.now c.args.text.now.items pieces rest c.args.rest.now
    text last whole c.split_at.ensures.by_index.0 c.append_pieces-last.ensures.items c.append_pieces-last.ensures.last
