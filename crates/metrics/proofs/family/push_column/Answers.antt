use Rattle.std.proofs.Common.{◌∙◌, length, take, map, ap, inl, length-append}
use Rattle.std.proofs.lemmas.Result.{err_from_is_err_and}
use Rattle.metrics.specs.Samples.{facts_of, column_text}
use Rattle.metrics.proofs.Lines.{line-full}
use Rattle.metrics.proofs.family.push_column.Goals as goal

pub returns-in_err-push_line-clause-full : goal.returns-in_err-push_line-clause-full
returns-in_err-push_line-clause-full c =
    let told = err_from_is_err_and c.from_residual-in_err-push_line.result c.from_residual-in_err-push_line.ensures.1 in
    let i = c.loop-sample.sample-index in
    let full = rw (c.deref.ensures, c.in_ok-write_value.ensures.ok) at c.in_err-push_line.ensures.full in
    let written = ap length c.loop-sample.invariant.written ∙ length-append c.args.page.now.out.items (column_text c.args.name.now c.args.column (map facts_of (take i c.args.samples.now))) in
    rw told.1 (inl (rw c.args.page.now.out.ok.0 (line-full c.args.name.now c.args.column c.args.samples.now i _ _ _ _ _ c.loop-sample-test.true written c.loop-sample.invariant.room
    (rw c.loop-sample.page.out.ok.0 at full))))
