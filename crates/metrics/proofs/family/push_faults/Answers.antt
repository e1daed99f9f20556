use Rattle.std.proofs.Common.{length, take, map, ap, ◌∙◌, length-append}
use Rattle.std.proofs.lemmas.Bool.{false≢true}
use Rattle.std.proofs.lemmas.List.{get_or_default}
use Rattle.std.proofs.lemmas.Result.{err_from_is_err_and}
use Rattle.metrics.specs.Samples.{facts_of, faults_text}
use Rattle.metrics.proofs.Lines.{fault-full}
use Rattle.metrics.proofs.family.push_faults.Goals as goal

pub returns-in_err-push_fault_of-clause-scarce : goal.returns-in_err-push_fault_of-clause-scarce
returns-in_err-push_fault_of-clause-scarce c =
    let told = err_from_is_err_and c.from_residual.result c.from_residual.ensures.1 in
    rw told.1 (c.loop-sample.sample-index, _, c.loop-sample-test.true, get_or_default c.args.samples.now c.loop-sample.sample-index _ _ c.loop-sample-test.true, λ none. false≢true (c.in_err-push_fault_of.ensures.none none))

pub returns-in_err-push_fault_of-clause-full : goal.returns-in_err-push_fault_of-clause-full
returns-in_err-push_fault_of-clause-full c =
    let told = err_from_is_err_and c.from_residual.result c.from_residual.ensures.1 in
    let i = c.loop-sample.sample-index in
    let written = ap length c.loop-sample.invariant.written ∙ length-append c.args.out.now.items (faults_text c.args.name.now (map facts_of (take i c.args.samples.now))) in
    rw told.1 (rw c.args.out.now.ok.0 (fault-full c.args.name.now c.args.samples.now i _ _ _ _ _ c.loop-sample-test.true written c.loop-sample.invariant.room
    (rw c.loop-sample.out.ok.0 at c.in_err-push_fault_of.ensures.full)))
