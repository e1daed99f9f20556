use Rattle.std.proofs.Common.{◌^◌}
use Rattle.std.proofs.KnownBytes.{Keeps-refl}
use Rattle.std.proofs.lemmas.Result.{IfErr-at_err, IfOk-at_ok}
use Rattle.ladder_items.specs.Runs.{run_of}
use Rattle.packing.proofs.LadderEnds.{summary-fits, summary-heard, summary-unheld, summary-unwritten}
use Rattle.packing.proofs.ladder_packing.pack.Goals as goal

pub returns-in-Err-clause-breach : goal.returns-in-Err-clause-breach
returns-in-Err-clause-breach g c = IfErr-at_err _ c.in-Err.is (rw (c.run_setup-run.ensures.settings, c.run_setup-run.ensures.workers) at c.pack_heralded-sources.ensures.breach)

pub returns-clause-fault : goal.returns-clause-fault
returns-clause-fault g c =
    summary-unwritten _ _ _ _ _ _ _ c.in-Ok.report (IfOk-at_ok _ c.in-Ok.is (rw (c.run_setup-run.ensures.settings, c.run_setup-run.ensures.workers) at c.pack_heralded-sources.ensures.ok)) c.write_summary.result c.write_summary.ensures.fault

pub returns-clause-breach : goal.returns-clause-breach
returns-clause-breach g c =
    let run = run_of g.S.Source.input g.O.Outlet.output (2 ^ 40) c.args.sources.items c.pack_heralded-sources.result.sources.items c.args.outlet c.pack_heralded-sources.result.outlet in
    summary-fits run c.args.setup.now.settings.now c.args.setup.now.pool.workers c.args.publisher.list c.pack_heralded-sources.result.publisher.list _ _ c.in-Ok.report (IfOk-at_ok _ c.in-Ok.is (rw (c.run_setup-run.ensures.settings, c.run_setup-run.ensures.workers) at c.pack_heralded-sources.ensures.fits)) c.write_summary.result c.write_summary.ensures.fault

pub returns-in-Err-clause-never_held : goal.returns-in-Err-clause-never_held
returns-in-Err-clause-never_held g c = IfErr-at_err _ c.in-Err.is c.pack_heralded-sources.ensures.held

pub returns-clause-never_held : goal.returns-clause-never_held
returns-clause-never_held g c = summary-unheld _ _ _ c.in-Ok.report c.write_summary.result c.write_summary.ensures.fault

pub returns-in-Err-clause-told : goal.returns-in-Err-clause-told
returns-in-Err-clause-told g c = IfErr-at_err _ c.in-Err.is c.pack_heralded-sources.ensures.told

pub returns-clause-told : goal.returns-clause-told
returns-clause-told g c = summary-heard _ _ _ _ c.in-Ok.report c.write_summary.result c.write_summary.ensures.fault

pub returns-in-Err-clause-fault : goal.returns-in-Err-clause-fault
returns-in-Err-clause-fault g c = (IfErr-at_err _ c.in-Err.is (rw (c.run_setup-run.ensures.settings, c.run_setup-run.ensures.workers) at c.pack_heralded-sources.ensures.fault), Keeps-refl _)

pub returns-clause-unwritten : goal.returns-clause-unwritten
returns-clause-unwritten g c = λ is. (c.in-Ok.report, c.write_summary.ensures.unwritten is)
