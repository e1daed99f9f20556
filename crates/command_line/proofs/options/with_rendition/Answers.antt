use Rattle.std.proofs.lemmas.Result.{IfOk-weaker}
use Rattle.command_line.proofs.Adding.{offers-none, offers-valued}
use Rattle.command_line.proofs.options.with_rendition.Goals as goal

pub returns : goal.returns
returns c =
    let options = c.args.options.items in
    IfOk-weaker c.with_option-4.result _ _ (λ made adds.
    offers-valued options _ made.items _ _ _ _ _
    (offers-valued options _ _ _ _ _ _ _
    (offers-valued options _ _ _ _ _ _ _
    (offers-valued options _ _ _ _ _ _ _ (offers-none options) c.in_ok-options.ensures c.codecs.ensures.rule c.codecs.ensures.alone c.codecs.ensures.shown) c.in_ok-options-2.ensures c.size.ensures.rule c.size.ensures.alone c.size.ensures.shown) c.in_ok-options-3.ensures c.keys.ensures.rule c.keys.ensures.alone c.keys.ensures.shown) adds c.name.ensures.rule c.name.ensures.alone c.name.ensures.shown) c.with_option-4.ensures
