use Rattle.std.proofs.lemmas.Result.{err_from_is_err_and}
use Rattle.ingest.proofs.Growing.{stops-behind, wants-front, wants-behind, pushed-both, grows-both}
use Rattle.ingest.proofs.Parting.{part-front, part-behind}
use Rattle.ingest.proofs.intake.push_both.Goals as goal

pub returns-clause-pushed : goal.returns-clause-pushed
returns-clause-pushed c = pushed-both c.args.cutter.now c.push_all.new.cutter c.push_all-2.new.cutter c.args.front.now c.args.back.now c.in_ok-push_all.ensures.pushed c.in_ok-push_all-2.ensures.pushed

pub returns-clause-plans : goal.returns-clause-plans
returns-clause-plans c = grows-both c.args.cutter.now c.push_all.new.cutter c.push_all-2.new.cutter c.args.front.now c.args.back.now c.in_ok-push_all.ensures.pushed c.in_ok-push_all.ensures.plans c.in_ok-push_all-2.ensures.plans

pub returns-in_err-push_all-2-clause-fault : goal.returns-in_err-push_all-2-clause-fault
returns-in_err-push_all-2-clause-fault c =
    let told = err_from_is_err_and c.from_residual-in_err-push_all-2.result c.from_residual-in_err-push_all-2.ensures.1 in
    rw (told.1, told.2) (stops-behind c.args.cutter.now c.push_all.new.cutter c.args.front.now c.args.back.now c.in_err-push_all-2.field-0.0 c.push_all-2.new.cutter.filled
    c.in_ok-push_all.ensures.pushed c.in_ok-push_all.ensures.plans c.in_err-push_all-2.ensures.fault)

pub returns-in_err-push_all-clause-scarce : goal.returns-in_err-push_all-clause-scarce
returns-in_err-push_all-clause-scarce c =
    let told = err_from_is_err_and c.from_residual.result c.from_residual.ensures.1 in
    rw (told.1, told.2) (λ none. wants-front c.args.cutter.now.rendition c.args.cutter.now.settings c.args.cutter.now.list c.args.front.now c.args.back.now (c.in_err-push_all.ensures.scarce none))

pub returns-in_err-push_all-2-clause-scarce : goal.returns-in_err-push_all-2-clause-scarce
returns-in_err-push_all-2-clause-scarce c =
    let told = err_from_is_err_and c.from_residual-in_err-push_all-2.result c.from_residual-in_err-push_all-2.ensures.1 in
    rw (told.1, told.2) (λ none. wants-behind c.args.cutter.now c.push_all.new.cutter c.args.front.now c.args.back.now
    c.in_ok-push_all.ensures.pushed (c.in_err-push_all-2.ensures.scarce none))

pub returns-in_err-push_all-clause-part : goal.returns-in_err-push_all-clause-part
returns-in_err-push_all-clause-part c =
    let told = err_from_is_err_and c.from_residual.result c.from_residual.ensures.1 in
    rw told.1 (part-front c.args.cutter.now.rendition c.args.cutter.now.settings c.args.cutter.now.list c.args.front.now c.args.back.now c.args.cutter.now.filled c.push_all.new.cutter.filled
    c.in_err-push_all.ensures.part)

pub returns-in_err-push_all-2-clause-part : goal.returns-in_err-push_all-2-clause-part
returns-in_err-push_all-2-clause-part c =
    let told = err_from_is_err_and c.from_residual-in_err-push_all-2.result c.from_residual-in_err-push_all-2.ensures.1 in
    rw told.1 (part-behind c.args.cutter.now c.push_all.new.cutter c.args.front.now c.args.back.now c.push_all-2.new.cutter.filled
    c.in_ok-push_all.ensures.pushed c.in_ok-push_all.ensures.plans c.in_err-push_all-2.ensures.part)
