use Rattle.std.proofs.Common.{get_or, rules, subst}
use Rattle.std.proofs.lemmas.List.{take_all}
use Rattle.read_ahead.proofs.Lists.{zip_more}
use Rattle.read_ahead.proofs.backlogs.files_of.Goals as goal

pub loop-input-preserved : goal.loop-input-preserved
loop-input-preserved g c =
    let plain = g.I.Input.plain in
    let inputs = c.args.inputs.now in
    let input = c.input-item.result in
    rw c.in_ok-push.ensures.items (zip_more plain inputs c.loop-input.files.items c.loop-input.input-index input c.is_file.result c.loop-input-test.true c.loop-input.invariant
    (subst (λ x. plain x c.is_file.result) c.input-item.is c.is_file.ensures))

pub returns-clause-ok : goal.returns-clause-ok
returns-clause-ok g c = rw (take_all c.loop-input.input-index c.args.inputs.now (search rules)) at c.loop-input.invariant
