use Rattle.std.proofs.lemmas.Result.{IfOk-weaker}
use Rattle.command_line.proofs.Adding.{offers-none, offers-unvalued, offers-valued}
use Rattle.command_line.proofs.options.with_forms.Goals as goal

pub returns : goal.returns
returns c =
    let options = c.args.options.items in
    IfOk-weaker c.with_option-2.result _ _ (λ made adds.
    offers-unvalued options _ made.items _ _ _ _
    (offers-valued options _ _ _ _ _ _ _ (offers-none options) c.in_ok-options.ensures c.salt.ensures.rule c.salt.ensures.alone c.salt.ensures.shown) adds c.event.ensures.rule c.event.ensures.alone c.event.ensures.bare c.event.ensures.help) c.with_option-2.ensures
