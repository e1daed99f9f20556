use Rattle.std.proofs.Common.{arith, ap, vec_len, length, length-append, ◌∙◌, ℕ, List, map, codes}
use Rattle.std.proofs.lemmas.Result.{err_from_is_err_and, on_err_weaker, on_ok_weaker}
use Rattle.metrics.proofs.Lines.{piece-full}
use Rattle.metrics.specs.Samples.{facts_of}
use Rattle.metrics.specs.Metrics.{metric, rates}
use Rattle.metrics.specs.declared.column.Column.TheVariants.{Peak, Average}
use Rattle.metrics.proofs.Appends.{more}
use Rattle.metrics.proofs.text.push_rates.Goals as goal

pub returns-clause-ok : goal.returns-clause-ok
unfolding rates
returns-clause-ok c =
    let peak : List ℕ = metric (codes "tshls_peak_bitrate") (codes "gauge") (codes "The peak bit rate that the master playlist lists, in bits per second.") Peak (map facts_of c.args.samples.now) in
    let average : List ℕ = metric (codes "tshls_average_bitrate") (codes "gauge") (codes "The average bit rate that the master playlist lists, in bits per second.") Average (map facts_of c.args.samples.now) in
    on_ok_weaker c.push_metric-2.result (λ told. more c.args.page.now.out.items c.push_metric.new.page.out.items c.push_metric-2.new.page.out.items peak average c.in_ok-push_metric.ensures.ok told) c.push_metric-2.ensures.ok

pub returns-in_err-push_metric-clause-full : goal.returns-in_err-push_metric-clause-full
unfolding rates
returns-in_err-push_metric-clause-full c =
    let m0 : List ℕ = metric (codes "tshls_peak_bitrate") (codes "gauge") (codes "The peak bit rate that the master playlist lists, in bits per second.") Peak (map facts_of c.args.samples.now) in
    let m1 : List ℕ = metric (codes "tshls_average_bitrate") (codes "gauge") (codes "The average bit rate that the master playlist lists, in bits per second.") Average (map facts_of c.args.samples.now) in
    let told = err_from_is_err_and c.from_residual.result c.from_residual.ensures.1 in
    rw told.1 (piece-full Peak c.args.samples.now _ _ _ (vec_len c.args.page.now.out) (length m0) (length (rates (map facts_of c.args.samples.now))) _ _ (omega arith) (omega arith) (omega (arith, length-append m0 m1, c.args.page.now.out.ok.0)) c.in_err-push_metric.ensures.full)

pub returns-clause-full : goal.returns-clause-full
unfolding rates
returns-clause-full c =
    let m0 : List ℕ = metric (codes "tshls_peak_bitrate") (codes "gauge") (codes "The peak bit rate that the master playlist lists, in bits per second.") Peak (map facts_of c.args.samples.now) in
    let m1 : List ℕ = metric (codes "tshls_average_bitrate") (codes "gauge") (codes "The average bit rate that the master playlist lists, in bits per second.") Average (map facts_of c.args.samples.now) in
    on_err_weaker c.push_metric-2.result (λ full. piece-full Average c.args.samples.now _ _ _ (vec_len c.push_metric.new.page.out) (length m1) (length (rates (map facts_of c.args.samples.now))) _ _ (omega (arith, c.in_ok-push_metric.ensures.room.0)) (omega (arith, c.in_ok-push_metric.ensures.room.1)) (omega (arith, length-append m0 m1, c.args.page.now.out.ok.0, ap length c.in_ok-push_metric.ensures.ok ∙ length-append c.args.page.now.out.items m0, c.push_metric.new.page.out.ok.0)) full) c.push_metric-2.ensures.full
