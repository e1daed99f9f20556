use Rattle.std.proofs.Common.{◌≡◌, ◌∙◌, [], length, ap, rules, drop}
use Rattle.std.specs.Prelude.{slice_index_or}
use Rattle.std.proofs.lemmas.List.{take_at}
use Rattle.std.specs.List.{concat}
use Rattle.aes_cbc.specs.Chain.{cbc, blocks, sealed_text}
use Rattle.aes_cbc.proofs.side_by_side.seal_two_in_place.Goals as goal

pub returns-clause-first_items : goal.returns-clause-first_items
unfolding sealed_text
returns-clause-first_items c =
    let key = c.args.keys.0.now in
    let vector = slice_index_or c.args.vectors.now 0 [] in
    let sealed = c.encrypt_two.new.first in
    let long : length sealed ≡ c.pad_two.new.first.len = search rules in
    take_at sealed (drop (length sealed) c.pad_two.new.first.items) c.pad_two.new.first.len long
    ∙ c.encrypt_two.ensures.first ∙ ap (λ x. concat (cbc key vector (blocks x))) (c.deref_mut.ensures.value ∙ c.in_ok-pad_two.ensures.first_items)

pub returns-clause-second_items : goal.returns-clause-second_items
unfolding sealed_text
returns-clause-second_items c =
    let key = c.args.keys.1.now in
    let vector = slice_index_or c.args.vectors.now 1 [] in
    let sealed = c.encrypt_two.new.second in
    let long : length sealed ≡ c.pad_two.new.second.len = search rules in
    take_at sealed (drop (length sealed) c.pad_two.new.second.items) c.pad_two.new.second.len long
    ∙ c.encrypt_two.ensures.second ∙ ap (λ x. concat (cbc key vector (blocks x))) (c.deref_mut-2.ensures.value ∙ c.in_ok-pad_two.ensures.second_items)
