use Rattle.std.proofs.Common.{arith, ap, vec_len, length, length-append, ◌∙◌, ℕ, List, map, codes}
use Rattle.std.proofs.lemmas.Result.{err_from_is_err_and, on_err_weaker}
use Rattle.metrics.proofs.Lines.{piece-full}
use Rattle.metrics.specs.Samples.{facts_of}
use Rattle.metrics.specs.Metrics.{metric, inputs}
use Rattle.metrics.specs.declared.column.Column.TheVariants.{Ahead, Silent}
use Rattle.metrics.proofs.text.push_inputs.Goals as goal

pub returns-in_err-push_metric-clause-full : goal.returns-in_err-push_metric-clause-full
unfolding inputs
returns-in_err-push_metric-clause-full c =
    let m0 : List ℕ = metric (codes "tshls_read_ahead_bytes") (codes "gauge") (codes "Bytes of the input that were read ahead and aren't packed yet.") Ahead (map facts_of c.args.samples.now) in
    let m1 : List ℕ = metric (codes "tshls_input_silent_seconds") (codes "gauge") (codes "For how long nothing came of the input.") Silent (map facts_of c.args.samples.now) in
    let told = err_from_is_err_and c.from_residual.result c.from_residual.ensures.1 in
    rw told.1 (piece-full Ahead c.args.samples.now _ _ _ (vec_len c.args.page.now.out) (length m0) (length (inputs (map facts_of c.args.samples.now))) _ _ (omega arith) (omega arith) (omega (arith, length-append m0 m1, c.args.page.now.out.ok.0)) c.in_err-push_metric.ensures.full)

pub returns-clause-full : goal.returns-clause-full
unfolding inputs
returns-clause-full c =
    let m0 : List ℕ = metric (codes "tshls_read_ahead_bytes") (codes "gauge") (codes "Bytes of the input that were read ahead and aren't packed yet.") Ahead (map facts_of c.args.samples.now) in
    let m1 : List ℕ = metric (codes "tshls_input_silent_seconds") (codes "gauge") (codes "For how long nothing came of the input.") Silent (map facts_of c.args.samples.now) in
    on_err_weaker c.push_metric-2.result (λ full. piece-full Silent c.args.samples.now _ _ _ (vec_len c.push_metric.new.page.out) (length m1) (length (inputs (map facts_of c.args.samples.now))) _ _ (omega (arith, c.in_ok-push_metric.ensures.room.0)) (omega (arith, c.in_ok-push_metric.ensures.room.1)) (omega (arith, length-append m0 m1, c.args.page.now.out.ok.0, ap length c.in_ok-push_metric.ensures.ok ∙ length-append c.args.page.now.out.items m0, c.push_metric.new.page.out.ok.0)) full) c.push_metric-2.ensures.full
