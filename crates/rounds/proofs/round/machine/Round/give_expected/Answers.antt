use Rattle.std.proofs.Common.{◌∙◌, ap, arith}
use Rattle.std.proofs.lemmas.Result.{err_from_is_err_and}
use Rattle.flow_core.specs.Gatherings.{awaited}
use Rattle.rounds.specs.declared.round.machine.Round.{Round}
use Rattle.rounds.proofs.Gates.{own-then}
use Rattle.rounds.proofs.Running.{reads-then}
use Rattle.rounds.proofs.round.machine.Round.give_expected.Goals as goal

pub wait_and_give-requires : goal.wait_and_give-requires
wait_and_give-requires g c = let some = c.requires.somewhere in (c.type_bounds.send-G-File, (c.requires.only, (some.0, some.1, c.loop.invariant.ok some.0 some.1 some.2)))

pub returns-in_err-wait_and_give-clause-err : goal.returns-in_err-wait_and_give-clause-err
returns-in_err-wait_and_give-clause-err g c =
    let told = err_from_is_err_and c.from_residual.result c.from_residual.ensures.1 in
    rw (told.1, told.2) (λ start unfed now. c.in_err-wait_and_give.ensures.err start unfed (c.loop.invariant.ok start unfed now))

pub returns-in_err-wait_and_give-clause-held : goal.returns-in_err-wait_and_give-clause-held
returns-in_err-wait_and_give-clause-held g c =
    let told = err_from_is_err_and c.from_residual.result c.from_residual.ensures.1 in
    rw (told.1, told.2) c.in_err-wait_and_give.ensures.held

pub returns-in_err-wait_and_give-clause-none : goal.returns-in_err-wait_and_give-clause-none
returns-in_err-wait_and_give-clause-none g c =
    let told = err_from_is_err_and c.from_residual.result c.from_residual.ensures.1 in
    rw told.1 (λ has.
    let same = c.loop.invariant.idle has in
    let left = ap (λ (s : Round _ _ _ _ _ _). awaited s.collector.sequences) same in
    absurd (omega (arith, has, left, c.awaited.ensures, c.if-awaited-eq0.false)))

pub loop-preserved : goal.loop-preserved
loop-preserved g c = record {
  ok = λ start unfed now. c.in_ok-wait_and_give.ensures.ok start unfed (c.loop.invariant.ok start unfed now);
  none_read = reads-then _ _ _ c.loop.invariant.none_read c.in_ok-wait_and_give.ensures.none_read;
  fair = omega (arith, c.loop.invariant.fair, c.in_ok-wait_and_give.ensures.fair);
  due = c.in_ok-wait_and_give.ensures.due ∙ c.loop.invariant.due;
  fewer = omega (arith, c.loop.invariant.fewer, c.in_ok-wait_and_give.ensures.fewer);
  idle = λ has.
      let same = c.loop.invariant.idle has in
      let left = ap (λ (s : Round _ _ _ _ _ _). awaited s.collector.sequences) same in
      absurd (omega (arith, has, left, c.awaited.ensures, c.if-awaited-eq0.false));
}

pub returns-in_err-wait_and_give-clause-told : goal.returns-in_err-wait_and_give-clause-told
returns-in_err-wait_and_give-clause-told g c =
    let told = err_from_is_err_and c.from_residual.result c.from_residual.ensures.1 in
    rw (told.1, told.2) (own-then (g.G.Gate.lets c.args.sealer.now.gate.now) (g.G.Gate.stops c.args.sealer.now.gate.now) c.args.self.now.collector c.loop.self.collector c.wait_and_give.new.self.collector _ c.loop.invariant.fewer c.in_err-wait_and_give.ensures.told)

pub returns-in_err-wait_and_give-clause-short : goal.returns-in_err-wait_and_give-clause-short
returns-in_err-wait_and_give-clause-short g c =
    let told = err_from_is_err_and c.from_residual.result c.from_residual.ensures.1 in
    rw (told.1, told.2) (λ unheld. omega (arith, c.loop.invariant.due, c.in_err-wait_and_give.ensures.short unheld))

pub returns-in_err-wait_and_give-clause-ok : goal.returns-in_err-wait_and_give-clause-ok
returns-in_err-wait_and_give-clause-ok g c =
    let told = err_from_is_err_and c.from_residual.result c.from_residual.ensures.1 in
    rw told.1 tt

pub returns-in_err-wait_and_give-clause-due : goal.returns-in_err-wait_and_give-clause-due
returns-in_err-wait_and_give-clause-due g c =
    let told = err_from_is_err_and c.from_residual.result c.from_residual.ensures.1 in
    rw told.1 tt

pub returns-in_err-wait_and_give-clause-fair : goal.returns-in_err-wait_and_give-clause-fair
returns-in_err-wait_and_give-clause-fair g c =
    let told = err_from_is_err_and c.from_residual.result c.from_residual.ensures.1 in
    rw told.1 tt

pub returns-in_err-wait_and_give-clause-all : goal.returns-in_err-wait_and_give-clause-all
returns-in_err-wait_and_give-clause-all g c =
    let told = err_from_is_err_and c.from_residual.result c.from_residual.ensures.1 in
    rw told.1 tt

pub returns-in_err-wait_and_give-clause-none_read : goal.returns-in_err-wait_and_give-clause-none_read
returns-in_err-wait_and_give-clause-none_read g c = reads-then _ _ _ c.loop.invariant.none_read c.in_err-wait_and_give.ensures.none_read

pub returns-clause-ok : goal.returns-clause-ok
returns-clause-ok g c = c.loop.invariant.ok

pub returns-clause-none_read : goal.returns-clause-none_read
returns-clause-none_read g c = c.loop.invariant.none_read

pub returns-clause-due : goal.returns-clause-due
returns-clause-due g c = c.loop.invariant.due

pub returns-clause-fair : goal.returns-clause-fair
returns-clause-fair g c = c.loop.invariant.fair
