use Rattle.std.proofs.Common.{◌++◌, map}
use Rattle.std.proofs.lemmas.Result.{IfOk-weaker}
use Rattle.command_line.specs.Offered.{form_offered, rendition_offered, text_offered}
use Rattle.command_line.specs.Shown.{packing_texts}
use Rattle.command_line.proofs.Adding.{offers-both}
use Rattle.command_line.proofs.options.with_stream.Goals as goal

pub returns : goal.returns
returns c =
    let options = c.args.options.items in
    IfOk-weaker c.with_numbers.result _ _ (λ made gets.
    offers-both options _ made.items (rendition_offered ++ form_offered) (map text_offered packing_texts)
    (offers-both options _ _ rendition_offered form_offered c.in_ok-options.ensures c.in_ok-options-2.ensures) gets) c.with_numbers.ensures.ok
