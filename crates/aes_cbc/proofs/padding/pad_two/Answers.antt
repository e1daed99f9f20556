use Rattle.std.proofs.Common.{◌≡◌, ◌∙◌, length, take, sym, ap, rules}
use Rattle.std.proofs.lemmas.List.{take_at}
use Rattle.aes_cbc.specs.Padding.{padding, padded_text}
use Rattle.aes_cbc.proofs.padding.pad_two.Goals as goal

pub returns-in-Err-clause-first_err : goal.returns-in-Err-clause-first_err
unfolding padded_text
returns-in-Err-clause-first_err c =
    let old = c.args.first.now.items in
    let long : c.len-len.result ≡ length old = search rules in
    let cut : c.truncate.new.self.items ≡ take c.len-len.result c.pad.new.text.items = search rules in
    cut ∙ ap (take c.len-len.result) c.in_ok-pad.ensures.items ∙ take_at old (padding (length old)) c.len-len.result (sym long)
