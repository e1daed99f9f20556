use Rattle.std.proofs.Common.{◌≡◌, ◌∙◌, length, take, sym, ap, rules}
use Rattle.std.proofs.lemmas.List.{take_at}
use Rattle.aes_cbc.specs.Padding.{padding, padded_text}
use Rattle.aes_cbc.proofs.padding.pad_four.Goals as goal

pub returns-in-Err-clause-first_err : goal.returns-in-Err-clause-first_err
unfolding padded_text
returns-in-Err-clause-first_err c =
    let old = c.args.first.now.items in
    let long : c.len-first_len.result ≡ length old = search rules in
    let cut : c.truncate.new.self.items ≡ take c.len-first_len.result c.pad_two.new.first.items = search rules in
    cut ∙ ap (take c.len-first_len.result) c.in_ok-pad_two.ensures.first_items ∙ take_at old (padding (length old)) c.len-first_len.result (sym long)

pub returns-in-Err-clause-second_err : goal.returns-in-Err-clause-second_err
unfolding padded_text
returns-in-Err-clause-second_err c =
    let old = c.args.second.now.items in
    let long : c.len-second_len.result ≡ length old = search rules in
    let cut : c.truncate-in-Err.new.self.items ≡ take c.len-second_len.result c.pad_two.new.second.items = search rules in
    cut ∙ ap (take c.len-second_len.result) c.in_ok-pad_two.ensures.second_items ∙ take_at old (padding (length old)) c.len-second_len.result (sym long)
