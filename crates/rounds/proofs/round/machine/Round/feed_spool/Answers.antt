use Rattle.std.proofs.Common.{◌+◌, ap, subst, arith, drop, length}
use Rattle.std.specs.List.{slice_set}
use Rattle.std.proofs.lemmas.List.{drop_all, set-set}
use Rattle.std.proofs.lemmas.Option.{slice_get_within}
use Rattle.std.proofs.lemmas.Result.{err_from_is_err_and}
use Rattle.cutter.specs.Lent.{lent}
use Rattle.rounds.specs.Rounds.{InRound}
use Rattle.rounds.proofs.Running.{reads-then}
use Rattle.rounds.proofs.Expecting.{next-unfed}
use Rattle.rounds.proofs.round.machine.Round.feed_spool.Goals as goal

pub feed_plan-requires-clause-somewhere : goal.feed_plan-requires-clause-somewhere
feed_plan-requires-clause-somewhere g c κs within =
    let some = c.requires.somewhere in
    let r = c.args.r in
    let i = c.loop-i.i in
    let spool = c.args.spool.now in (
      some.0,
      slice_set some.1 r (drop i spool),
      drop (i + 1) spool,
      c.loop-i.invariant.ok some.0 some.1 some.3 some.2,
      next-unfed some.1 r i spool (lent c.in-Some.plan) (omega (arith, c.requires.within, some.2.all)) c.in-Some.ensures.some,
    )

pub returns-in_err-feed_plan-clause-err : goal.returns-in_err-feed_plan-clause-err
returns-in_err-feed_plan-clause-err g c =
    let told = err_from_is_err_and c.from_residual.result c.from_residual.ensures.1 in
    rw (told.1, told.2) (λ start unfed is now. c.in_err-feed_plan.ensures.err start (slice_set unfed c.args.r (drop c.loop-i.i c.args.spool.now)) (c.loop-i.invariant.ok start unfed is now))

pub loop-i-preserved : goal.loop-i-preserved
loop-i-preserved g c =
    let r = c.args.r in
    let i = c.loop-i.i in
    let spool = c.args.spool.now in
    record {
      ok = λ start unfed is old.
          let next = next-unfed unfed r i spool (lent c.in-Some.plan) (omega (arith, c.requires.within, old.all)) c.in-Some.ensures.some in
          subst (λ u. InRound g.S.Source.input g.O.Outlet.output c.args.settings.now start u c.feed_plan.new.self.broadcast.course c.feed_plan.new.self.broadcast.held.publisher c.feed_plan.new.self.collector) (set-set unfed r (drop i spool) (drop (i + 1) spool))
          (c.in_ok-feed_plan.ensures.ok start (slice_set unfed r (drop i spool)) (drop (i + 1) spool) next (c.loop-i.invariant.ok start unfed is old));
      none_read = reads-then _ _ _ c.loop-i.invariant.none_read c.in_ok-feed_plan.ensures.none_read;
      fair = omega (arith, c.loop-i.invariant.fair, c.in_ok-feed_plan.ensures.fair);
      due = omega (arith, c.loop-i.invariant.due, c.in_ok-feed_plan.ensures.due);
    }

pub returns-in_err-feed_plan-clause-held : goal.returns-in_err-feed_plan-clause-held
returns-in_err-feed_plan-clause-held g c =
    let told = err_from_is_err_and c.from_residual.result c.from_residual.ensures.1 in
    rw (told.1, told.2) c.in_err-feed_plan.ensures.held

pub returns-in_err-feed_plan-clause-none : goal.returns-in_err-feed_plan-clause-none
returns-in_err-feed_plan-clause-none g c =
    let told = err_from_is_err_and c.from_residual.result c.from_residual.ensures.1 in
    let within = slice_get_within c.args.spool.now c.loop-i.i _ c.in-Some.ensures.some in
    rw told.1 (λ is. absurd (omega (arith, within, ap length is)))

pub returns-in_err-feed_plan-clause-short : goal.returns-in_err-feed_plan-clause-short
returns-in_err-feed_plan-clause-short g c =
    let told = err_from_is_err_and c.from_residual.result c.from_residual.ensures.1 in
    let within = slice_get_within c.args.spool.now c.loop-i.i _ c.in-Some.ensures.some in
    rw (told.1, told.2) (λ unheld. omega (arith, within, c.loop-i.invariant.due, c.in_err-feed_plan.ensures.short unheld))

pub returns-in_err-feed_plan-clause-ok : goal.returns-in_err-feed_plan-clause-ok
returns-in_err-feed_plan-clause-ok g c =
    let told = err_from_is_err_and c.from_residual.result c.from_residual.ensures.1 in
    rw told.1 tt

pub returns-in_err-feed_plan-clause-due : goal.returns-in_err-feed_plan-clause-due
returns-in_err-feed_plan-clause-due g c =
    let told = err_from_is_err_and c.from_residual.result c.from_residual.ensures.1 in
    rw told.1 tt

pub returns-in_err-feed_plan-clause-fair : goal.returns-in_err-feed_plan-clause-fair
returns-in_err-feed_plan-clause-fair g c =
    let told = err_from_is_err_and c.from_residual.result c.from_residual.ensures.1 in
    rw told.1 tt

pub returns-clause-ok : goal.returns-clause-ok
returns-clause-ok g c start unfed is old =
    let past = drop_all c.loop-i.i c.args.spool.now (omega (arith, c.loop-i-test.false, c.plans-i-end.ensures)) in
    subst (λ l. InRound g.S.Source.input g.O.Outlet.output c.args.settings.now start (slice_set unfed c.args.r l) c.loop-i.self.broadcast.course c.loop-i.self.broadcast.held.publisher c.loop-i.self.collector) past
    (c.loop-i.invariant.ok start unfed is old)

pub returns-clause-none_read : goal.returns-clause-none_read
returns-clause-none_read g c = c.loop-i.invariant.none_read

pub returns-clause-fair : goal.returns-clause-fair
returns-clause-fair g c = c.loop-i.invariant.fair

pub returns-clause-due : goal.returns-clause-due
returns-clause-due g c = omega (arith, c.loop-i.invariant.due, c.loop-i-test.false, c.loop-i.auto.i-end, c.plans-i-end.ensures)

pub returns-in_err-feed_plan-clause-none_read : goal.returns-in_err-feed_plan-clause-none_read
returns-in_err-feed_plan-clause-none_read g c = reads-then _ _ _ c.loop-i.invariant.none_read c.in_err-feed_plan.ensures.none_read
