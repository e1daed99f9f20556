use Rattle.std.proofs.Common.{◌≡◌, ◌+◌, ◌≤◌, ◌++◌, length, take, drop, length-append, arith, ap, ap₂, ◌∙◌, rules}
use Rattle.std.proofs.lemmas.List.{take_at}
use Rattle.std.specs.List.{concat}
use Rattle.aes_cbc.specs.Chain.{cbc, blocks}
use Rattle.aes_cbc.specs.Padding.{padded_text}
use Rattle.aes_cbc.proofs.SealedParts.{end_sealed}
use Rattle.aes_cbc.proofs.behind.seal_end.Goals as goal

pub returns-clause-items : goal.returns-clause-items
returns-clause-items c =
    let k = c.args.key.now in
    let v = c.args.vector.now in
    let text = c.args.text.now.items in
    let rest = c.args.rest.now in
    let done = c.args.done in
    let t1 = c.pad.new.text.items in
    let appended : c.extend_from_slice.new.self.items ≡ text ++ rest = search rules in
    let padded : t1 ≡ padded_text c.extend_from_slice.new.self.items = search rules in
    let inside : done ≤ length text = search rules in
    let front = c.split_at_mut-back.ensures.front ∙ ap (take done) c.deref_mut.ensures.value in
    let back = c.split_at_mut-back.ensures.back ∙ ap (drop done) c.deref_mut.ensures.value in
    let sealed = c.split_at_mut-back.result.0.now ++ c.encrypt_chain.new.text in
    let of_sealed : length c.encrypt_chain.new.text ≡ length c.split_at_mut-back.result.1.now = search rules in
    let of_parts : length c.split_at_mut-back.result.0.now + length c.split_at_mut-back.result.1.now ≡ c.pad.new.text.len = search rules in
    let long : length sealed ≡ c.pad.new.text.len = omega (arith, length-append c.split_at_mut-back.result.0.now c.encrypt_chain.new.text) in
    end_sealed k v text rest t1 _ done c.requires.done.0 inside (padded ∙ ap padded_text appended)
    (take_at sealed (drop (length sealed) t1) c.pad.new.text.len long
    ∙ ap₂ (λ a b. a ++ b) front (c.encrypt_chain.ensures ∙ ap (λ x. concat (cbc k v (blocks x))) back))
