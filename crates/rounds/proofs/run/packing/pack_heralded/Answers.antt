use Rattle.std.proofs.Common.{sym, subst, Result}
use Rattle.std.specs.Prelude.{IfErr}
use Rattle.ladder_items.specs.declared.fault.PackFault.{PackFault}
use Rattle.ladder_items.specs.declared.report.Report.{Report}
use Rattle.rounds.specs.Shown.{EndsAway, start_at}
use Rattle.rounds.proofs.Answered.{fault-told}
use Rattle.rounds.proofs.Permitting.{through-unshown}
use Rattle.rounds.proofs.Gates.{unheld-word}
use Rattle.rounds.proofs.run.packing.pack_heralded.Goals as goal

pub returns-in-Err-clause-breach : goal.returns-in-Err-clause-breach
returns-in-Err-clause-breach g c =
    let start = start_at c.args.endpoints in
    subst (λ (r : Result Report PackFault). IfErr r (EndsAway g.S.Source.input g.O.Outlet.output c.args.setup.now.settings.now c.args.setup.now.workers start c.turn_away.result)) (sym c.turn_away.ensures.answer)
    c.turn_away.ensures.breach

pub returns-in-Err-clause-held : goal.returns-in-Err-clause-held
returns-in-Err-clause-held g c = fault-told _ _ _ c.turn_away.ensures.answer (unheld-word _ _ c.turn_away.ensures.unheld)

pub returns-in-Err-clause-ok : goal.returns-in-Err-clause-ok
returns-in-Err-clause-ok g c = rw c.turn_away.ensures.answer tt

pub returns-in-Err-clause-fits : goal.returns-in-Err-clause-fits
returns-in-Err-clause-fits g c = rw c.turn_away.ensures.answer tt

pub returns-in-Err-clause-left : goal.returns-in-Err-clause-left
returns-in-Err-clause-left g c = rw c.turn_away.ensures.answer tt

pub returns-in-Ok-clause-ok : goal.returns-in-Ok-clause-ok
returns-in-Ok-clause-ok g c = c.pack_fitted.ensures.ok

pub returns-in-Ok-clause-fault : goal.returns-in-Ok-clause-fault
returns-in-Ok-clause-fault g c = c.pack_fitted.ensures.fault

pub returns-in-Ok-clause-board : goal.returns-in-Ok-clause-board
returns-in-Ok-clause-board g c = c.pack_fitted.ensures.board

pub returns-in-Ok-clause-held : goal.returns-in-Ok-clause-held
returns-in-Ok-clause-held g c = c.pack_fitted.ensures.held

pub returns-in-Ok-clause-left : goal.returns-in-Ok-clause-left
returns-in-Ok-clause-left g c = c.pack_fitted.ensures.left

pub returns-in-Ok-clause-told : goal.returns-in-Ok-clause-told
returns-in-Ok-clause-told g c = c.pack_fitted.ensures.told

pub returns-in-Err-clause-let_through : goal.returns-in-Err-clause-let_through
returns-in-Err-clause-let_through g c = through-unshown (g.G.Gate.lets c.args.setup.now.gate.now) c.args.endpoints.publisher.list c.turn_away.result.publisher.list c.turn_away.ensures.shown

pub returns-in-Ok-clause-let_through : goal.returns-in-Ok-clause-let_through
returns-in-Ok-clause-let_through g c = c.pack_fitted.ensures.let_through
