use Rattle.std.proofs.lemmas.Result.{IfOk-weaker}
use Rattle.command_line.proofs.Adding.{offers-none, offers-valued}
use Rattle.command_line.proofs.options.with_check_options.Goals as goal

pub returns : goal.returns
returns c =
    let options = c.args.options.items in
    IfOk-weaker c.with_option-2.result _ _ (λ made adds.
    offers-valued options _ made.items _ _ _ _ _
    (offers-valued options _ _ _ _ _ _ _ (offers-none options) c.in_ok-options.ensures c.sealed_under.ensures.rule c.sealed_under.ensures.alone c.sealed_under.ensures.shown) adds c.playlist.ensures.rule c.playlist.ensures.alone c.playlist.ensures.shown) c.with_option-2.ensures
