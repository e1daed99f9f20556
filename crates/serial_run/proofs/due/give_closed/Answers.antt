use Rattle.std.proofs.Common.{inl, inr, refl, subst, List, ◌∙◌, sym}
use Rattle.std.proofs.lemmas.Result.{err_from_is_err_and}
use Rattle.cutter.specs.Plans.{SegmentPlan}
use Rattle.ladder_items.specs.Leaving.{LeavesRows}
use Rattle.ladder_items.specs.Items.{Part}
use Rattle.ladder_items.specs.Giving.{AreNextPlans}
use Rattle.serial_run.proofs.Dues.{none-closed, rows-left}
use Rattle.serial_run.proofs.due.give_closed.Goals as goal

pub returns-then-plans-eq0-clause-ok : goal.returns-then-plans-eq0-clause-ok
returns-then-plans-eq0-clause-ok g c parts next =
    none-closed _ c.args.rendition.settings.now c.args.rendition.number parts _ c.args.playlists.now.items c.args.intake.now.filled (sym c.plans.ensures ∙ c.if-plans-eq0.true) next.goes_on

pub returns-in_err-turn_out-clause-left : goal.returns-in_err-turn_out-clause-left
returns-in_err-turn_out-clause-left g c =
    let told = err_from_is_err_and c.from_residual.result c.from_residual.ensures.1 in
    rw told.1 (λ parts next. rows-left _ c.args.rendition.settings.now c.args.rendition.number parts c.args.outlet.now c.args.intake.now.filled (λ none. c.if-plans-eq0.false (c.plans.ensures ∙ none)))

pub returns-in_err-turn_out-clause-stopped : goal.returns-in_err-turn_out-clause-stopped
returns-in_err-turn_out-clause-stopped g c =
    let told = err_from_is_err_and c.from_residual.result c.from_residual.ensures.1 in
    rw told.1 (λ parts next. inl (refl, c.in_err-turn_out.ensures.kept, refl))

pub returns-in_err-give_segments-clause-stopped : goal.returns-in_err-give_segments-clause-stopped
returns-in_err-give_segments-clause-stopped g c =
    let told = err_from_is_err_and c.from_residual-in_err-give_segments.result c.from_residual-in_err-give_segments.ensures.1 in
    rw told.1 (λ parts next. inr (
      c.in_ok-turn_out.ensures.turned,
      subst (λ (plans : List SegmentPlan). (parts : List Part) → AreNextPlans c.args.rendition.settings.now c.args.rendition.number parts c.args.playlists.now.items plans
          → LeavesRows g.O.Outlet.output c.args.outlet.now c.give_segments.new.outlet c.args.rendition.settings.now c.args.rendition.number parts plans c.give_segments.new.playlists.items)
          c.in_ok-turn_out.ensures.full c.in_err-give_segments.ensures.stopped parts next,
    ))
