use Rattle.std.proofs.lemmas.Result.{IfOk-weaker}
use Rattle.command_line.proofs.Adding.{offers-none, offers-valued}
use Rattle.command_line.proofs.options.with_cipher_options.Goals as goal

pub returns : goal.returns
returns c =
    let options = c.args.options.items in
    IfOk-weaker c.with_option-3.result _ _ (λ made adds.
    offers-valued options _ made.items _ _ _ _ _
    (offers-valued options _ _ _ _ _ _ _
    (offers-valued options _ _ _ _ _ _ _ (offers-none options) c.in_ok-options.ensures c.key.ensures.rule c.key.ensures.alone c.key.ensures.shown) c.in_ok-options-2.ensures c.seq.ensures.rule c.seq.ensures.alone c.seq.ensures.shown) adds c.iv.ensures.rule c.iv.ensures.alone c.iv.ensures.shown) c.with_option-3.ensures
