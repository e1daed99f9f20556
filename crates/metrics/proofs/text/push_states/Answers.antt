use Rattle.std.proofs.Common.{arith, ap, vec_len, length, length-append, ◌∙◌, ℕ, List, map, codes}
use Rattle.std.proofs.lemmas.Result.{err_from_is_err_and, on_err_weaker, on_ok_weaker}
use Rattle.metrics.proofs.Lines.{piece-full}
use Rattle.metrics.specs.Samples.{facts_of}
use Rattle.metrics.specs.Metrics.{metric, states}
use Rattle.metrics.specs.declared.column.Column.TheVariants.{Quiet, Ended}
use Rattle.metrics.proofs.Appends.{more}
use Rattle.metrics.proofs.text.push_states.Goals as goal

pub returns-clause-ok : goal.returns-clause-ok
unfolding states
returns-clause-ok c =
    let quiet : List ℕ = metric (codes "tshls_quiet_seconds") (codes "gauge") (codes "For how long no segment came.") Quiet (map facts_of c.args.samples.now) in
    let ended : List ℕ = metric (codes "tshls_ended") (codes "gauge") (codes "Whether the end of the playlist was written.") Ended (map facts_of c.args.samples.now) in
    on_ok_weaker c.push_metric-2.result (λ told. more c.args.page.now.out.items c.push_metric.new.page.out.items c.push_metric-2.new.page.out.items quiet ended c.in_ok-push_metric.ensures.ok told) c.push_metric-2.ensures.ok

pub returns-in_err-push_metric-clause-full : goal.returns-in_err-push_metric-clause-full
unfolding states
returns-in_err-push_metric-clause-full c =
    let m0 : List ℕ = metric (codes "tshls_quiet_seconds") (codes "gauge") (codes "For how long no segment came.") Quiet (map facts_of c.args.samples.now) in
    let m1 : List ℕ = metric (codes "tshls_ended") (codes "gauge") (codes "Whether the end of the playlist was written.") Ended (map facts_of c.args.samples.now) in
    let told = err_from_is_err_and c.from_residual.result c.from_residual.ensures.1 in
    rw told.1 (piece-full Quiet c.args.samples.now _ _ _ (vec_len c.args.page.now.out) (length m0) (length (states (map facts_of c.args.samples.now))) _ _ (omega arith) (omega arith) (omega (arith, length-append m0 m1, c.args.page.now.out.ok.0)) c.in_err-push_metric.ensures.full)

pub returns-clause-full : goal.returns-clause-full
unfolding states
returns-clause-full c =
    let m0 : List ℕ = metric (codes "tshls_quiet_seconds") (codes "gauge") (codes "For how long no segment came.") Quiet (map facts_of c.args.samples.now) in
    let m1 : List ℕ = metric (codes "tshls_ended") (codes "gauge") (codes "Whether the end of the playlist was written.") Ended (map facts_of c.args.samples.now) in
    on_err_weaker c.push_metric-2.result (λ full. piece-full Ended c.args.samples.now _ _ _ (vec_len c.push_metric.new.page.out) (length m1) (length (states (map facts_of c.args.samples.now))) _ _ (omega (arith, c.in_ok-push_metric.ensures.room.0)) (omega (arith, c.in_ok-push_metric.ensures.room.1)) (omega (arith, length-append m0 m1, c.args.page.now.out.ok.0, ap length c.in_ok-push_metric.ensures.ok ∙ length-append c.args.page.now.out.items m0, c.push_metric.new.page.out.ok.0)) full) c.push_metric-2.ensures.full
