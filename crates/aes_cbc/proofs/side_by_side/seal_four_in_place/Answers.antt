use Rattle.std.proofs.Common.{◌≡◌, ◌∙◌, [], length, ap, rules, drop}
use Rattle.std.specs.Prelude.{slice_index_or}
use Rattle.std.proofs.lemmas.List.{take_at}
use Rattle.std.specs.List.{concat}
use Rattle.aes_cbc.specs.Chain.{cbc, blocks, sealed_text}
use Rattle.aes_cbc.proofs.side_by_side.seal_four_in_place.Goals as goal

pub returns-clause-first_items : goal.returns-clause-first_items
unfolding sealed_text
returns-clause-first_items c =
    let key = c.args.keys.0.now in
    let vector = slice_index_or c.args.vectors.now 0 [] in
    let sealed = c.encrypt_four.new.first in
    let long : length sealed ≡ c.pad_four.new.first.len = search rules in
    take_at sealed (drop (length sealed) c.pad_four.new.first.items) c.pad_four.new.first.len long
    ∙ c.encrypt_four.ensures.first ∙ ap (λ x. concat (cbc key vector (blocks x))) (c.deref_mut.ensures.value ∙ c.in_ok-pad_four.ensures.first_items)

pub returns-clause-second_items : goal.returns-clause-second_items
unfolding sealed_text
returns-clause-second_items c =
    let key = c.args.keys.1.now in
    let vector = slice_index_or c.args.vectors.now 1 [] in
    let sealed = c.encrypt_four.new.second in
    let long : length sealed ≡ c.pad_four.new.second.len = search rules in
    take_at sealed (drop (length sealed) c.pad_four.new.second.items) c.pad_four.new.second.len long
    ∙ c.encrypt_four.ensures.second ∙ ap (λ x. concat (cbc key vector (blocks x))) (c.deref_mut-2.ensures.value ∙ c.in_ok-pad_four.ensures.second_items)

pub returns-clause-third_items : goal.returns-clause-third_items
unfolding sealed_text
returns-clause-third_items c =
    let key = c.args.keys.2.now in
    let vector = slice_index_or c.args.vectors.now 2 [] in
    let sealed = c.encrypt_four.new.third in
    let long : length sealed ≡ c.pad_four.new.third.len = search rules in
    take_at sealed (drop (length sealed) c.pad_four.new.third.items) c.pad_four.new.third.len long
    ∙ c.encrypt_four.ensures.third ∙ ap (λ x. concat (cbc key vector (blocks x))) (c.deref_mut-3.ensures.value ∙ c.in_ok-pad_four.ensures.third_items)

pub returns-clause-fourth_items : goal.returns-clause-fourth_items
unfolding sealed_text
returns-clause-fourth_items c =
    let key = c.args.keys.3.now in
    let vector = slice_index_or c.args.vectors.now 3 [] in
    let sealed = c.encrypt_four.new.fourth in
    let long : length sealed ≡ c.pad_four.new.fourth.len = search rules in
    take_at sealed (drop (length sealed) c.pad_four.new.fourth.items) c.pad_four.new.fourth.len long
    ∙ c.encrypt_four.ensures.fourth ∙ ap (λ x. concat (cbc key vector (blocks x))) (c.deref_mut-4.ensures.value ∙ c.in_ok-pad_four.ensures.fourth_items)
