use Rattle.std.proofs.Common.{◌++◌, map, List}
use Rattle.std.proofs.lemmas.Result.{IfOk-weaker}
use Rattle.command_line.specs.Offered.{Offered, entries_offered, folder_offered, form_offered, metrics_offered, out_offered, text_offered}
use Rattle.command_line.specs.Shown.{packing_texts, pool_texts}
use Rattle.command_line.proofs.Adding.{offers-both, offers-none, offers-valued}
use Rattle.command_line.proofs.pack_options.with_ladder.Goals as goal

pub returns : goal.returns
returns c =
    let options = c.args.options.items in
    let first = offers-valued options _ _ _ _ _ _ _ (offers-none options) c.in_ok-options.ensures c.out.ensures.rule c.out.ensures.alone c.out.ensures.shown in
    let flagged = offers-both options _ _ out_offered folder_offered first c.in_ok-options-2.ensures.ok in
    let watched = offers-valued options _ _ _ _ _ _ _ flagged c.in_ok-options-3.ensures c.metrics.ensures.rule c.metrics.ensures.alone c.metrics.ensures.shown in
    let pooled = offers-both options _ _ (out_offered ++ folder_offered ++ metrics_offered) (map text_offered pool_texts) watched c.in_ok-options-4.ensures.ok in
    let entered = offers-valued options _ _ _ _ _ _ _ pooled c.in_ok-options-5.ensures c.entries.ensures.rule c.entries.ensures.alone c.entries.ensures.shown in
    let formed = offers-both options _ _ (out_offered ++ folder_offered ++ metrics_offered ++ map text_offered pool_texts ++ entries_offered) form_offered entered c.in_ok-options-6.ensures in
    IfOk-weaker c.with_numbers-2.result _ _ (λ made gets.
    offers-both options _ made.items (out_offered ++ folder_offered ++ metrics_offered ++ map text_offered pool_texts ++ entries_offered ++ form_offered) (map text_offered packing_texts) formed gets)
    c.with_numbers-2.ensures.ok
