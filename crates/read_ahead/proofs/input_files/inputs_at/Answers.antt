use Rattle.std.proofs.Common.{ap₂, refl, rules}
use Rattle.std.proofs.lemmas.List.{take_all}
use Rattle.read_ahead.proofs.Lists.{zip_maps, zip_more}
use Rattle.read_ahead.proofs.input_files.inputs_at.Goals as goal

pub loop-path-preserved : goal.loop-path-preserved
loop-path-preserved g c =
    rw c.in_ok-push.ensures.items (zip_more _ c.args.paths.now c.loop-path.inputs.items c.loop-path.path-index _ _ c.loop-path-test.true c.loop-path.invariant (refl, c.in_ok-path.ensures.ok))

pub returns-clause-each : goal.returns-clause-each
returns-clause-each g c = rw (take_all c.loop-path.path-index c.args.paths.now (search rules)) at c.loop-path.invariant

pub returns-clause-ok : goal.returns-clause-ok
returns-clause-ok g c =
    let holds = g.F.InputFiles.holds in
    zip_maps _ _ _ c.args.paths.now c.loop-path.inputs.items (λ path input at. ap₂ holds at.0 at.1) (rw (take_all c.loop-path.path-index c.args.paths.now (search rules)) at c.loop-path.invariant)
