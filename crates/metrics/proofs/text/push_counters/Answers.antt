use Rattle.std.proofs.Common.{arith, ap, vec_len, length, length-append, ◌∙◌, ◌≡◌, ℕ, List, ◌++◌, map, codes}
use Rattle.std.proofs.lemmas.Result.{err_from_is_err_and, on_err_weaker, on_ok_weaker}
use Rattle.metrics.proofs.Lines.{piece-full}
use Rattle.metrics.specs.Samples.{facts_of}
use Rattle.metrics.specs.Metrics.{metric, counters}
use Rattle.metrics.specs.declared.column.Column.TheVariants.{Segments, Time, Bytes}
use Rattle.metrics.proofs.Appends.{more}
use Rattle.metrics.proofs.text.push_counters.Goals as goal

pub returns-clause-ok : goal.returns-clause-ok
unfolding counters
returns-clause-ok c =
    let segments : List ℕ = metric (codes "tshls_segments_total") (codes "counter") (codes "Segments that were written and listed.") Segments (map facts_of c.args.samples.now) in
    let time : List ℕ = metric (codes "tshls_stream_seconds_total") (codes "counter") (codes "How long the segments last together.") Time (map facts_of c.args.samples.now) in
    let bytes : List ℕ = metric (codes "tshls_segment_bytes_total") (codes "counter") (codes "How many bytes the segments have together.") Bytes (map facts_of c.args.samples.now) in
    let to_time : c.push_metric-2.new.page.out.items ≡ c.args.page.now.out.items ++ (segments ++ time) = more c.args.page.now.out.items c.push_metric.new.page.out.items c.push_metric-2.new.page.out.items segments time c.in_ok-push_metric.ensures.ok c.in_ok-push_metric-2.ensures.ok in
    on_ok_weaker c.push_metric-3.result (λ told. more c.args.page.now.out.items c.push_metric-2.new.page.out.items c.push_metric-3.new.page.out.items (segments ++ time) bytes to_time told) c.push_metric-3.ensures.ok

pub returns-in_err-push_metric-clause-full : goal.returns-in_err-push_metric-clause-full
unfolding counters
returns-in_err-push_metric-clause-full c =
    let m0 : List ℕ = metric (codes "tshls_segments_total") (codes "counter") (codes "Segments that were written and listed.") Segments (map facts_of c.args.samples.now) in
    let m1 : List ℕ = metric (codes "tshls_stream_seconds_total") (codes "counter") (codes "How long the segments last together.") Time (map facts_of c.args.samples.now) in
    let m2 : List ℕ = metric (codes "tshls_segment_bytes_total") (codes "counter") (codes "How many bytes the segments have together.") Bytes (map facts_of c.args.samples.now) in
    let told = err_from_is_err_and c.from_residual.result c.from_residual.ensures.1 in
    rw told.1 (piece-full Segments c.args.samples.now _ _ _ (vec_len c.args.page.now.out) (length m0) (length (counters (map facts_of c.args.samples.now))) _ _ (omega arith) (omega arith) (omega (arith, length-append (m0 ++ m1) m2, length-append m0 m1, c.args.page.now.out.ok.0)) c.in_err-push_metric.ensures.full)

pub returns-in_err-push_metric-2-clause-full : goal.returns-in_err-push_metric-2-clause-full
unfolding counters
returns-in_err-push_metric-2-clause-full c =
    let m0 : List ℕ = metric (codes "tshls_segments_total") (codes "counter") (codes "Segments that were written and listed.") Segments (map facts_of c.args.samples.now) in
    let m1 : List ℕ = metric (codes "tshls_stream_seconds_total") (codes "counter") (codes "How long the segments last together.") Time (map facts_of c.args.samples.now) in
    let m2 : List ℕ = metric (codes "tshls_segment_bytes_total") (codes "counter") (codes "How many bytes the segments have together.") Bytes (map facts_of c.args.samples.now) in
    let told = err_from_is_err_and c.from_residual-in_err-push_metric-2.result c.from_residual-in_err-push_metric-2.ensures.1 in
    rw told.1 (piece-full Time c.args.samples.now _ _ _ (vec_len c.push_metric.new.page.out) (length m1) (length (counters (map facts_of c.args.samples.now))) _ _ (omega (arith, c.in_ok-push_metric.ensures.room.0)) (omega (arith, c.in_ok-push_metric.ensures.room.1)) (omega (arith, length-append (m0 ++ m1) m2, length-append m0 m1, c.args.page.now.out.ok.0, ap length c.in_ok-push_metric.ensures.ok ∙ length-append c.args.page.now.out.items m0, c.push_metric.new.page.out.ok.0)) c.in_err-push_metric-2.ensures.full)

pub returns-clause-full : goal.returns-clause-full
unfolding counters
returns-clause-full c =
    let m0 : List ℕ = metric (codes "tshls_segments_total") (codes "counter") (codes "Segments that were written and listed.") Segments (map facts_of c.args.samples.now) in
    let m1 : List ℕ = metric (codes "tshls_stream_seconds_total") (codes "counter") (codes "How long the segments last together.") Time (map facts_of c.args.samples.now) in
    let m2 : List ℕ = metric (codes "tshls_segment_bytes_total") (codes "counter") (codes "How many bytes the segments have together.") Bytes (map facts_of c.args.samples.now) in
    on_err_weaker c.push_metric-3.result (λ full. piece-full Bytes c.args.samples.now _ _ _ (vec_len c.push_metric-2.new.page.out) (length m2) (length (counters (map facts_of c.args.samples.now))) _ _ (omega (arith, c.in_ok-push_metric.ensures.room.0, c.in_ok-push_metric-2.ensures.room.0)) (omega (arith, c.in_ok-push_metric.ensures.room.1, c.in_ok-push_metric-2.ensures.room.1)) (omega (arith, length-append (m0 ++ m1) m2, length-append m0 m1, c.args.page.now.out.ok.0, ap length c.in_ok-push_metric.ensures.ok ∙ length-append c.args.page.now.out.items m0, c.push_metric.new.page.out.ok.0, ap length c.in_ok-push_metric-2.ensures.ok ∙ length-append c.push_metric.new.page.out.items m1, c.push_metric-2.new.page.out.ok.0)) full) c.push_metric-3.ensures.full
