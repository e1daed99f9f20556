use Rattle.std.proofs.Common.{ℕ, List, map, codes}
use Rattle.std.proofs.lemmas.Result.{on_ok_weaker}
use Rattle.metrics.specs.Format.{head_text}
use Rattle.metrics.specs.Samples.{facts_of, faults_text}
use Rattle.metrics.specs.Metrics.{fault_text}
use Rattle.metrics.proofs.Appends.{more}
use Rattle.metrics.proofs.text.push_fault_metric.Goals as goal

pub returns-clause-ok : goal.returns-clause-ok
unfolding fault_text
returns-clause-ok c =
    let head : List ℕ = head_text (codes "tshls_fault") (codes "gauge") (codes "1 for a rendition that ended by a fault.") in
    let faults : List ℕ = faults_text (codes "tshls_fault") (map facts_of c.args.samples.now) in
    on_ok_weaker c.push_faults.result (λ told. more c.args.page.now.out.items c.push_head.new.out.items c.push_faults.new.out.items head faults c.in_ok-push_head.ensures.ok told) c.push_faults.ensures.text
