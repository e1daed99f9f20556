use Rattle.std.proofs.Common.{◌∙◌, ap, length, map, arith, inl, inr, length-append}
use Rattle.std.proofs.lemmas.Result.{on_err_weaker}
use Rattle.metrics.specs.Format.{head_text}
use Rattle.metrics.specs.Metrics.{metric}
use Rattle.metrics.specs.Samples.{facts_of, column_text}
use Rattle.metrics.proofs.text.push_metric.Goals as goal

pub returns-clause-full : goal.returns-clause-full
unfolding metric
returns-clause-full c =
    let head = head_text c.args.name.now c.args.kind.now c.args.help.now in
    let column = column_text c.args.name.now c.args.column (map facts_of c.args.samples.now) in
    let written = ap length c.in_ok-push_head.ensures.ok ∙ length-append c.args.page.now.out.items head in
    on_err_weaker c.push_column.result (λ full. elim full [
      | inl room ↦ inl (omega (arith, room, written, length-append head column, c.in_ok-push_head.ensures.capacity, c.push_head.new.out.ok.0, c.args.page.now.out.ok.0))
      | inr text ↦ inr text
    ]) c.push_column.ensures.full
