use mir.Syntax.{of_param}
use Rattle.std.proofs.Common.{inl, arith}
use Rattle.std.proofs.lemmas.Result.{err_from_is_err_and}
use Rattle.rounds.proofs.Collecting.{got-on, keeps-awaited}
use Rattle.rounds.proofs.Gates.{awaited-own, awaited-sudden, awaited-word, left-awaited}
use Rattle.rounds.proofs.Rounding.{in-keeps, in-stopped}
use Rattle.rounds.proofs.round.machine.Round.wait_and_give.Goals as goal

pub wait_or_seal-requires : goal.wait_or_seal-requires
wait_or_seal-requires g c =
    let some = c.requires.somewhere in
    (record { owned = λ x. c.type_bounds.send-G-File.owned x; leaving = λ k. c.type_bounds.send-G-File.leaving (λ t. k (of_param 5)) }, (c.requires.only, record { each = some.2.each; keys = some.2.keys }))

pub returns-in_err-wait_or_seal-clause-err : goal.returns-in_err-wait_or_seal-clause-err
returns-in_err-wait_or_seal-clause-err g c =
    let told = err_from_is_err_and c.from_residual.result c.from_residual.ensures.1 in
    rw (told.1, told.2) (λ start unfed now. in-stopped _ _ _ _ _ start unfed _ _ _ _
    (awaited-sudden (g.G.Gate.lets c.args.sealer.now.gate.now) (g.G.Gate.stops c.args.sealer.now.gate.now) c.wait_or_seal.new.collector _ (g.O.Outlet.output.failures c.args.self.now.broadcast.course.outlet) c.in_err-wait_or_seal.ensures.fault) now)

pub take_and_give-requires : goal.take_and_give-requires
take_and_give-requires g c = let some = c.requires.somewhere in (c.type_bounds.send-G-File, (c.requires.only, (some.0, some.1, in-keeps _ _ _ _ _ some.0 some.1 _ _ _ _ c.in_ok-wait_or_seal.ensures.keeps some.2)))

pub returns-in_err-take_and_give-clause-err : goal.returns-in_err-take_and_give-clause-err
returns-in_err-take_and_give-clause-err g c =
    let told = err_from_is_err_and c.from_residual-in_err-take_and_give.result c.from_residual-in_err-take_and_give.ensures.1 in
    rw (told.1, told.2) (λ start unfed now. c.in_err-take_and_give.ensures.err start unfed (in-keeps _ _ _ _ _ start unfed _ _ _ _ c.in_ok-wait_or_seal.ensures.keeps now))

pub returns-clause-ok : goal.returns-clause-ok
returns-clause-ok g c start unfed now = c.in_ok-take_and_give.ensures.ok start unfed (in-keeps _ _ _ _ _ start unfed _ _ _ _ c.in_ok-wait_or_seal.ensures.keeps now)

pub returns-in_err-wait_or_seal-clause-held : goal.returns-in_err-wait_or_seal-clause-held
returns-in_err-wait_or_seal-clause-held g c =
    let told = err_from_is_err_and c.from_residual.result c.from_residual.ensures.1 in
    rw (told.1, told.2) (awaited-word (g.G.Gate.lets c.args.sealer.now.gate.now) _ c.wait_or_seal.new.collector _ c.in_err-wait_or_seal.ensures.fault)

pub returns-in_err-take_and_give-clause-held : goal.returns-in_err-take_and_give-clause-held
returns-in_err-take_and_give-clause-held g c =
    let told = err_from_is_err_and c.from_residual-in_err-take_and_give.result c.from_residual-in_err-take_and_give.ensures.1 in
    rw (told.1, told.2) c.in_err-take_and_give.ensures.held

pub returns-clause-further : goal.returns-clause-further
returns-clause-further g c =
    let kept = c.in_ok-take_and_give.ensures.kept in
    got-on _ _ _ c.wait_or_seal.new.collector c.take_and_give.new.self.collector kept.0 kept.1 c.in_ok-wait_or_seal.ensures.further

pub returns-clause-fewer : goal.returns-clause-fewer
returns-clause-fewer g c = omega (arith, keeps-awaited _ _ c.in_ok-wait_or_seal.ensures.keeps, c.in_ok-take_and_give.ensures.fewer)

pub returns-in_err-wait_or_seal-clause-told : goal.returns-in_err-wait_or_seal-clause-told
returns-in_err-wait_or_seal-clause-told g c =
    let told = err_from_is_err_and c.from_residual.result c.from_residual.ensures.1 in
    rw (told.1, told.2) (awaited-own (g.G.Gate.lets c.args.sealer.now.gate.now) (g.G.Gate.stops c.args.sealer.now.gate.now) c.args.self.now.collector c.wait_or_seal.new.collector _ c.in_err-wait_or_seal.ensures.fault)

pub returns-in_err-take_and_give-clause-told : goal.returns-in_err-take_and_give-clause-told
returns-in_err-take_and_give-clause-told g c =
    let told = err_from_is_err_and c.from_residual-in_err-take_and_give.result c.from_residual-in_err-take_and_give.ensures.1 in
    rw (told.1, told.2) (λ unheld. inl (omega (arith, keeps-awaited _ _ c.in_ok-wait_or_seal.ensures.keeps, c.in_err-take_and_give.ensures.told unheld)))

pub returns-clause-due : goal.returns-clause-due
returns-clause-due g c = omega (arith, keeps-awaited _ _ c.in_ok-wait_or_seal.ensures.keeps, c.in_ok-take_and_give.ensures.due)

pub returns-in_err-wait_or_seal-clause-short : goal.returns-in_err-wait_or_seal-clause-short
returns-in_err-wait_or_seal-clause-short g c =
    let told = err_from_is_err_and c.from_residual.result c.from_residual.ensures.1 in
    rw (told.1, told.2) (λ unheld.
    let some = left-awaited (g.G.Gate.lets c.args.sealer.now.gate.now) (g.G.Gate.stops c.args.sealer.now.gate.now) c.wait_or_seal.new.collector _ c.in_err-wait_or_seal.ensures.fault unheld in
    omega (arith, some, keeps-awaited _ _ c.in_err-wait_or_seal.ensures.keeps))

pub returns-in_err-take_and_give-clause-short : goal.returns-in_err-take_and_give-clause-short
returns-in_err-take_and_give-clause-short g c =
    let told = err_from_is_err_and c.from_residual-in_err-take_and_give.result c.from_residual-in_err-take_and_give.ensures.1 in
    rw (told.1, told.2) (λ unheld. omega (arith, keeps-awaited _ _ c.in_ok-wait_or_seal.ensures.keeps, c.in_err-take_and_give.ensures.short unheld))

pub returns-in_err-wait_or_seal-clause-ok : goal.returns-in_err-wait_or_seal-clause-ok
returns-in_err-wait_or_seal-clause-ok g c =
    let told = err_from_is_err_and c.from_residual.result c.from_residual.ensures.1 in
    rw told.1 tt

pub returns-in_err-wait_or_seal-clause-due : goal.returns-in_err-wait_or_seal-clause-due
returns-in_err-wait_or_seal-clause-due g c =
    let told = err_from_is_err_and c.from_residual.result c.from_residual.ensures.1 in
    rw told.1 tt

pub returns-in_err-wait_or_seal-clause-fair : goal.returns-in_err-wait_or_seal-clause-fair
returns-in_err-wait_or_seal-clause-fair g c =
    let told = err_from_is_err_and c.from_residual.result c.from_residual.ensures.1 in
    rw told.1 tt

pub returns-in_err-wait_or_seal-clause-further : goal.returns-in_err-wait_or_seal-clause-further
returns-in_err-wait_or_seal-clause-further g c =
    let told = err_from_is_err_and c.from_residual.result c.from_residual.ensures.1 in
    rw told.1 tt

pub returns-in_err-wait_or_seal-clause-dry : goal.returns-in_err-wait_or_seal-clause-dry
returns-in_err-wait_or_seal-clause-dry g c =
    let told = err_from_is_err_and c.from_residual.result c.from_residual.ensures.1 in
    rw told.1 tt

pub returns-in_err-wait_or_seal-clause-fewer : goal.returns-in_err-wait_or_seal-clause-fewer
returns-in_err-wait_or_seal-clause-fewer g c =
    let told = err_from_is_err_and c.from_residual.result c.from_residual.ensures.1 in
    rw told.1 tt

pub returns-in_err-take_and_give-clause-ok : goal.returns-in_err-take_and_give-clause-ok
returns-in_err-take_and_give-clause-ok g c =
    let told = err_from_is_err_and c.from_residual-in_err-take_and_give.result c.from_residual-in_err-take_and_give.ensures.1 in
    rw told.1 tt

pub returns-in_err-take_and_give-clause-due : goal.returns-in_err-take_and_give-clause-due
returns-in_err-take_and_give-clause-due g c =
    let told = err_from_is_err_and c.from_residual-in_err-take_and_give.result c.from_residual-in_err-take_and_give.ensures.1 in
    rw told.1 tt

pub returns-in_err-take_and_give-clause-fair : goal.returns-in_err-take_and_give-clause-fair
returns-in_err-take_and_give-clause-fair g c =
    let told = err_from_is_err_and c.from_residual-in_err-take_and_give.result c.from_residual-in_err-take_and_give.ensures.1 in
    rw told.1 tt

pub returns-in_err-take_and_give-clause-further : goal.returns-in_err-take_and_give-clause-further
returns-in_err-take_and_give-clause-further g c =
    let told = err_from_is_err_and c.from_residual-in_err-take_and_give.result c.from_residual-in_err-take_and_give.ensures.1 in
    rw told.1 tt

pub returns-in_err-take_and_give-clause-dry : goal.returns-in_err-take_and_give-clause-dry
returns-in_err-take_and_give-clause-dry g c =
    let told = err_from_is_err_and c.from_residual-in_err-take_and_give.result c.from_residual-in_err-take_and_give.ensures.1 in
    rw told.1 tt

pub returns-in_err-take_and_give-clause-fewer : goal.returns-in_err-take_and_give-clause-fewer
returns-in_err-take_and_give-clause-fewer g c =
    let told = err_from_is_err_and c.from_residual-in_err-take_and_give.result c.from_residual-in_err-take_and_give.ensures.1 in
    rw told.1 tt
