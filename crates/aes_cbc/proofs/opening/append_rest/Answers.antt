use Rattle.std.proofs.Common.{◌++◌, ◌∙◌, sym, ap, ap₂, append_assoc}
use Rattle.std.proofs.lemmas.List.{take-append-drop}
use Rattle.std.proofs.lemmas.List.Folds.{concat-append}
use Rattle.std.specs.List.{concat}
use Rattle.aes_cbc.specs.Opening.{inv_cbc, last_block}
use Rattle.aes_cbc.proofs.ChainInverse.{inv_cbc-append}
use Rattle.aes_cbc.proofs.opening.append_rest.Goals as goal

pub returns-clause-items : goal.returns-clause-items
returns-clause-items c =
    let key = c.args.key.now in
    let v = c.args.vector.now in
    let fours = c.split_at.result.0.now in
    let rest = c.split_at.result.1.now in
    let old = c.args.text.now.items in
    c.append_each.ensures.items
    ∙ ap (λ w. c.append_fours.new.text.items ++ concat (inv_cbc key w rest)) c.block_before.ensures
    ∙ ap (λ x. x ++ concat (inv_cbc key (last_block v fours) rest)) c.append_fours.ensures.items
    ∙ append_assoc old (concat (inv_cbc key v fours)) (concat (inv_cbc key (last_block v fours) rest))
    ∙ ap (λ x. old ++ x)
    (sym (concat-append (inv_cbc key v fours) (inv_cbc key (last_block v fours) rest))
    ∙ ap concat (sym (inv_cbc-append key v fours rest) ∙ ap (inv_cbc key v) (ap₂ (λ x y. x ++ y) c.split_at.ensures.front c.split_at.ensures.back ∙ take-append-drop _ c.args.blocks.now)))
