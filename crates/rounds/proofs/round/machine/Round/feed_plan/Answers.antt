use mir.Syntax.{of_param}
use Rattle.std.proofs.Common.{◌≡◌, ◌∙◌, refl, ap, sym, subst, arith}
use Rattle.std.proofs.lemmas.Result.{err_from_is_err_and}
use Rattle.cutter.specs.Lent.{lent}
use Rattle.ingest.proofs.Ordered.{made_of-at}
use Rattle.flow_core.specs.Sequences.{following, with_plan}
use Rattle.flow_core.specs.Gatherings.{sequence_at, with_sequence}
use Rattle.ladder_items.proofs.Worlds.{InOrder}
use Rattle.rounds.proofs.Gates.{none-word, offered-sudden, offered-word}
use Rattle.rounds.proofs.Rounding.{in-keeps, in-stopped}
use Rattle.rounds.proofs.Collecting.{keeps-awaited}
use Rattle.rounds.proofs.Dues.{expects-awaited}
use Rattle.rounds.proofs.Expecting.{plan-follows, in-expect, expects-gathered}
use Rattle.rounds.proofs.round.machine.Round.feed_plan.Goals as goal

pub make_room-requires : goal.make_room-requires
make_room-requires g c = let some = c.requires.somewhere in (c.type_bounds.send-G-File, (c.requires.only, (some.0, some.1, some.3)))

pub returns-in_err-make_room-clause-err : goal.returns-in_err-make_room-clause-err
returns-in_err-make_room-clause-err g c =
    let told = err_from_is_err_and c.from_residual.result c.from_residual.ensures.1 in
    rw (told.1, told.2) c.in_err-make_room.ensures.err

pub expect-requires-clause-rendition : goal.expect-requires-clause-rendition
expect-requires-clause-rendition g c =
    let some = c.requires.somewhere in
    let order : InOrder c.args.settings.now = λ stop r. made_of-at stop r c.args.settings.now.cut in
    let now = c.in_ok-make_room.ensures.ok some.0 some.1 some.3 in
    let p = plan-follows _ _ _ _ _ some.0 some.1 _ _ _ now c.args.r c.requires.within (lent c.args.plan) some.2 some.4 order in
    omega (arith, p.rendition, c.requires.within, now.each)

pub expect-requires-clause-number : goal.expect-requires-clause-number
expect-requires-clause-number g c =
    let some = c.requires.somewhere in
    let order : InOrder c.args.settings.now = λ stop r. made_of-at stop r c.args.settings.now.cut in
    let now = c.in_ok-make_room.ensures.ok some.0 some.1 some.3 in
    let p = plan-follows _ _ _ _ _ some.0 some.1 _ _ _ now c.args.r c.requires.within (lent c.args.plan) some.2 some.4 order in
    p.number ∙ ap (λ k. following (sequence_at c.make_room.new.self.collector k)) (sym p.rendition)

pub expect-requires-clause-low : goal.expect-requires-clause-low
expect-requires-clause-low g c =
    let some = c.requires.somewhere in
    let order : InOrder c.args.settings.now = λ stop r. made_of-at stop r c.args.settings.now.cut in
    let now = c.in_ok-make_room.ensures.ok some.0 some.1 some.3 in
    let p = plan-follows _ _ _ _ _ some.0 some.1 _ _ _ now c.args.r c.requires.within (lent c.args.plan) some.2 some.4 order in
    omega (arith, p.number, p.below)

pub returns-in_err-expect-clause-err : goal.returns-in_err-expect-clause-err
returns-in_err-expect-clause-err g c =
    let told = err_from_is_err_and c.from_residual-in_err-expect.result c.from_residual-in_err-expect.ensures.1 in
    rw (told.1, told.2) (λ start unfed now. in-stopped _ _ _ _ _ start unfed _ _ _ _ (rw c.in_err-expect.ensures.fault refl) (c.in_ok-make_room.ensures.ok start unfed now))

pub offer-requires : goal.offer-requires
offer-requires g c =
    let some = c.requires.somewhere in
    let order : InOrder c.args.settings.now = λ stop r. made_of-at stop r c.args.settings.now.cut in
    let now = c.in_ok-make_room.ensures.ok some.0 some.1 some.3 in
    let p = plan-follows _ _ _ _ _ some.0 some.1 _ _ _ now c.args.r c.requires.within (lent c.args.plan) some.2 some.4 order in
    let made = subst (λ k. c.expect.new.collector ≡ with_sequence c.make_room.new.self.collector k (with_plan (sequence_at c.make_room.new.self.collector k) (lent c.args.plan))) p.rendition c.in_ok-expect.ensures.ok in
    let there = in-expect _ _ _ _ _ some.0 some.1 _ _ _ now c.args.r c.requires.within (lent c.args.plan) some.2 some.4 _ made in
    (record { owned = λ x. c.type_bounds.send-G-File.owned x; leaving = λ k. c.type_bounds.send-G-File.leaving (λ t. k (of_param 5)) }, (c.requires.only, (c.requires.planned, record { each = there.each; keys = there.keys })))

pub returns-in_err-fed-clause-err : goal.returns-in_err-fed-clause-err
returns-in_err-fed-clause-err g c =
    let told = err_from_is_err_and c.from_residual-in_err-fed.result c.from_residual-in_err-fed.ensures.1 in
    rw (told.1, told.2) (λ start unfed now. in-stopped _ _ _ _ _ start unfed _ _ _ _
    (offered-sudden (g.G.Gate.lets c.args.sealer.now.gate.now) (g.G.Gate.stops c.args.sealer.now.gate.now) (lent c.args.plan) _ (g.O.Outlet.output.failures c.make_room.new.self.broadcast.course.outlet) c.in_err-fed.ensures.fault) (c.in_ok-make_room.ensures.ok start unfed now))

pub returns-clause-ok : goal.returns-clause-ok
returns-clause-ok g c start unfed left is old =
    let order : InOrder c.args.settings.now = λ stop r. made_of-at stop r c.args.settings.now.cut in
    let now = c.in_ok-make_room.ensures.ok start unfed old in
    let p = plan-follows _ _ _ _ _ start unfed _ _ _ now c.args.r c.requires.within (lent c.args.plan) left is order in
    let made = subst (λ k. c.expect.new.collector ≡ with_sequence c.make_room.new.self.collector k (with_plan (sequence_at c.make_room.new.self.collector k) (lent c.args.plan))) p.rendition c.in_ok-expect.ensures.ok in
    in-keeps _ _ _ _ _ start _ _ _ _ _ c.in_ok-fed.ensures.keeps (in-expect _ _ _ _ _ start unfed _ _ _ now c.args.r c.requires.within (lent c.args.plan) left is _ made)

pub returns-clause-fair : goal.returns-clause-fair
returns-clause-fair g c =
    let some = c.requires.somewhere in
    let order : InOrder c.args.settings.now = λ stop r. made_of-at stop r c.args.settings.now.cut in
    let now = c.in_ok-make_room.ensures.ok some.0 some.1 some.3 in
    let p = plan-follows _ _ _ _ _ some.0 some.1 _ _ _ now c.args.r c.requires.within (lent c.args.plan) some.2 some.4 order in
    let same = expects-gathered _ _ _ _ (omega (arith, p.rendition, c.requires.within, now.each)) c.in_ok-expect.ensures.ok in
    omega (arith, c.in_ok-make_room.ensures.fair, same, c.in_ok-fed.ensures.more)

pub returns-in_err-make_room-clause-held : goal.returns-in_err-make_room-clause-held
returns-in_err-make_room-clause-held g c =
    let told = err_from_is_err_and c.from_residual.result c.from_residual.ensures.1 in
    rw (told.1, told.2) c.in_err-make_room.ensures.held

pub returns-in_err-expect-clause-held : goal.returns-in_err-expect-clause-held
returns-in_err-expect-clause-held g c =
    let told = err_from_is_err_and c.from_residual-in_err-expect.result c.from_residual-in_err-expect.ensures.1 in
    rw (told.1, told.2) (none-word _ _ c.in_err-expect.ensures.fault)

pub returns-in_err-fed-clause-held : goal.returns-in_err-fed-clause-held
returns-in_err-fed-clause-held g c =
    let told = err_from_is_err_and c.from_residual-in_err-fed.result c.from_residual-in_err-fed.ensures.1 in
    rw (told.1, told.2) (offered-word (g.G.Gate.lets c.args.sealer.now.gate.now) _ (lent c.args.plan) _ c.in_err-fed.ensures.fault)

pub returns-clause-due : goal.returns-clause-due
returns-clause-due g c =
    let some = c.requires.somewhere in
    let order : InOrder c.args.settings.now = λ stop r. made_of-at stop r c.args.settings.now.cut in
    let now = c.in_ok-make_room.ensures.ok some.0 some.1 some.3 in
    let p = plan-follows _ _ _ _ _ some.0 some.1 _ _ _ now c.args.r c.requires.within (lent c.args.plan) some.2 some.4 order in
    let one = expects-awaited _ _ _ _ (omega (arith, p.rendition, c.requires.within, now.each)) c.in_ok-expect.ensures.ok in
    omega (arith, c.in_ok-make_room.ensures.due, one, keeps-awaited _ _ c.in_ok-fed.ensures.keeps)

pub returns-in_err-make_room-clause-short : goal.returns-in_err-make_room-clause-short
returns-in_err-make_room-clause-short g c =
    let told = err_from_is_err_and c.from_residual.result c.from_residual.ensures.1 in
    rw (told.1, told.2) (λ unheld. omega (arith, c.in_err-make_room.ensures.short unheld))

pub returns-in_err-expect-clause-short : goal.returns-in_err-expect-clause-short
returns-in_err-expect-clause-short g c =
    let told = err_from_is_err_and c.from_residual-in_err-expect.result c.from_residual-in_err-expect.ensures.1 in
    rw (told.1, told.2) (λ unheld. omega (arith, c.in_ok-make_room.ensures.due))

pub returns-in_err-fed-clause-short : goal.returns-in_err-fed-clause-short
returns-in_err-fed-clause-short g c =
    let told = err_from_is_err_and c.from_residual-in_err-fed.result c.from_residual-in_err-fed.ensures.1 in
    rw (told.1, told.2) (λ unheld. omega (arith, c.in_ok-make_room.ensures.due))

pub returns-in_err-make_room-clause-ok : goal.returns-in_err-make_room-clause-ok
returns-in_err-make_room-clause-ok g c =
    let told = err_from_is_err_and c.from_residual.result c.from_residual.ensures.1 in
    rw told.1 tt

pub returns-in_err-make_room-clause-handed : goal.returns-in_err-make_room-clause-handed
returns-in_err-make_room-clause-handed g c =
    let told = err_from_is_err_and c.from_residual.result c.from_residual.ensures.1 in
    rw told.1 tt

pub returns-in_err-make_room-clause-due : goal.returns-in_err-make_room-clause-due
returns-in_err-make_room-clause-due g c =
    let told = err_from_is_err_and c.from_residual.result c.from_residual.ensures.1 in
    rw told.1 tt

pub returns-in_err-make_room-clause-fair : goal.returns-in_err-make_room-clause-fair
returns-in_err-make_room-clause-fair g c =
    let told = err_from_is_err_and c.from_residual.result c.from_residual.ensures.1 in
    rw told.1 tt

pub returns-in_err-expect-clause-ok : goal.returns-in_err-expect-clause-ok
returns-in_err-expect-clause-ok g c =
    let told = err_from_is_err_and c.from_residual-in_err-expect.result c.from_residual-in_err-expect.ensures.1 in
    rw told.1 tt

pub returns-in_err-expect-clause-handed : goal.returns-in_err-expect-clause-handed
returns-in_err-expect-clause-handed g c =
    let told = err_from_is_err_and c.from_residual-in_err-expect.result c.from_residual-in_err-expect.ensures.1 in
    rw told.1 tt

pub returns-in_err-expect-clause-due : goal.returns-in_err-expect-clause-due
returns-in_err-expect-clause-due g c =
    let told = err_from_is_err_and c.from_residual-in_err-expect.result c.from_residual-in_err-expect.ensures.1 in
    rw told.1 tt

pub returns-in_err-expect-clause-fair : goal.returns-in_err-expect-clause-fair
returns-in_err-expect-clause-fair g c =
    let told = err_from_is_err_and c.from_residual-in_err-expect.result c.from_residual-in_err-expect.ensures.1 in
    rw told.1 tt

pub returns-in_err-fed-clause-ok : goal.returns-in_err-fed-clause-ok
returns-in_err-fed-clause-ok g c =
    let told = err_from_is_err_and c.from_residual-in_err-fed.result c.from_residual-in_err-fed.ensures.1 in
    rw told.1 tt

pub returns-in_err-fed-clause-handed : goal.returns-in_err-fed-clause-handed
returns-in_err-fed-clause-handed g c =
    let told = err_from_is_err_and c.from_residual-in_err-fed.result c.from_residual-in_err-fed.ensures.1 in
    rw told.1 tt

pub returns-in_err-fed-clause-due : goal.returns-in_err-fed-clause-due
returns-in_err-fed-clause-due g c =
    let told = err_from_is_err_and c.from_residual-in_err-fed.result c.from_residual-in_err-fed.ensures.1 in
    rw told.1 tt

pub returns-in_err-fed-clause-fair : goal.returns-in_err-fed-clause-fair
returns-in_err-fed-clause-fair g c =
    let told = err_from_is_err_and c.from_residual-in_err-fed.result c.from_residual-in_err-fed.ensures.1 in
    rw told.1 tt
