use Rattle.std.proofs.Common.{ap, arith}
use Rattle.std.proofs.lemmas.Result.{err_from_is_err_and}
use Rattle.rounds.proofs.Collecting.{keeps-awaited}
use Rattle.rounds.proofs.Gates.{held-own, held-sudden, held-word, unheld-word}
use Rattle.rounds.proofs.Rounding.{in-keeps, in-stopped}
use Rattle.rounds.proofs.round.machine.Round.take_and_give.Goals as goal

pub returns-in_err-seen-clause-err : goal.returns-in_err-seen-clause-err
returns-in_err-seen-clause-err g c =
    let told = err_from_is_err_and c.from_residual.result c.from_residual.ensures.1 in
    rw (told.1, told.2) (λ start unfed now. in-stopped _ _ _ _ _ start unfed _ _ _ _ (held-sudden (g.G.Gate.stops c.args.sealer.now.gate.now) _ (g.O.Outlet.output.failures c.args.self.now.broadcast.course.outlet) c.in_err-seen.ensures.fault) now)

pub give_all_ready-requires : goal.give_all_ready-requires
give_all_ready-requires g c = let some = c.requires.somewhere in record { none_done = c.in_ok-seen.ensures.none; somewhere = (some.0, some.1, in-keeps _ _ _ _ _ some.0 some.1 _ _ _ _ c.in_ok-seen.ensures.keeps some.2) }

pub returns-in_err-give_all_ready-clause-err : goal.returns-in_err-give_all_ready-clause-err
returns-in_err-give_all_ready-clause-err g c =
    let told = err_from_is_err_and c.from_residual-in_err-give_all_ready.result c.from_residual-in_err-give_all_ready.ensures.1 in
    rw (told.1, told.2) (λ start unfed now. c.in_err-give_all_ready.ensures.err start unfed (in-keeps _ _ _ _ _ start unfed _ _ _ _ c.in_ok-seen.ensures.keeps now))

pub returns-clause-ok : goal.returns-clause-ok
returns-clause-ok g c start unfed now = c.in_ok-give_all_ready.ensures.ok start unfed (in-keeps _ _ _ _ _ start unfed _ _ _ _ c.in_ok-seen.ensures.keeps now)

pub returns-in_err-seen-clause-held : goal.returns-in_err-seen-clause-held
returns-in_err-seen-clause-held g c =
    let told = err_from_is_err_and c.from_residual.result c.from_residual.ensures.1 in
    rw (told.1, told.2) (held-word _ _ c.in_err-seen.ensures.fault)

pub returns-in_err-give_all_ready-clause-held : goal.returns-in_err-give_all_ready-clause-held
returns-in_err-give_all_ready-clause-held g c =
    let told = err_from_is_err_and c.from_residual-in_err-give_all_ready.result c.from_residual-in_err-give_all_ready.ensures.1 in
    rw (told.1, told.2) (unheld-word _ _ c.in_err-give_all_ready.ensures.unheld)

pub returns-clause-exact : goal.returns-clause-exact
returns-clause-exact g c =
    let counts = c.in_ok-give_all_ready.ensures.counts in
    omega (arith, c.in_ok-seen.ensures.fair, counts.0, ap (λ t. t.right) counts.2)

pub returns-clause-kept : goal.returns-clause-kept
returns-clause-kept g c =
    let counts = c.in_ok-give_all_ready.ensures.counts in
    (omega (arith, c.in_ok-seen.ensures.more, ap (λ t. t.pass.count) counts.2), omega (arith, c.in_ok-seen.ensures.rest, counts.1))

pub returns-clause-fewer : goal.returns-clause-fewer
returns-clause-fewer g c = omega (arith, keeps-awaited _ _ c.in_ok-seen.ensures.keeps, c.in_ok-give_all_ready.ensures.fewer)

pub returns-in_err-seen-clause-told : goal.returns-in_err-seen-clause-told
returns-in_err-seen-clause-told g c =
    let told = err_from_is_err_and c.from_residual.result c.from_residual.ensures.1 in
    rw (told.1, told.2) (held-own (g.G.Gate.stops c.args.sealer.now.gate.now) _ _ c.in_err-seen.ensures.fault)

pub returns-in_err-give_all_ready-clause-told : goal.returns-in_err-give_all_ready-clause-told
returns-in_err-give_all_ready-clause-told g c =
    let told = err_from_is_err_and c.from_residual-in_err-give_all_ready.result c.from_residual-in_err-give_all_ready.ensures.1 in
    rw (told.1, told.2) (λ unheld. omega (arith, keeps-awaited _ _ c.in_ok-seen.ensures.keeps, c.in_err-give_all_ready.ensures.fell))

pub returns-clause-due : goal.returns-clause-due
returns-clause-due g c = omega (arith, keeps-awaited _ _ c.in_ok-seen.ensures.keeps, c.in_ok-give_all_ready.ensures.due)

pub returns-in_err-seen-clause-short : goal.returns-in_err-seen-clause-short
returns-in_err-seen-clause-short g c =
    let told = err_from_is_err_and c.from_residual.result c.from_residual.ensures.1 in
    rw (told.1, told.2) (held-own (g.G.Gate.stops c.args.sealer.now.gate.now) _ _ c.in_err-seen.ensures.fault)

pub returns-in_err-give_all_ready-clause-short : goal.returns-in_err-give_all_ready-clause-short
returns-in_err-give_all_ready-clause-short g c =
    let told = err_from_is_err_and c.from_residual-in_err-give_all_ready.result c.from_residual-in_err-give_all_ready.ensures.1 in
    rw (told.1, told.2) (λ unheld. omega (arith, keeps-awaited _ _ c.in_ok-seen.ensures.keeps, c.in_err-give_all_ready.ensures.short))

pub returns-in_err-seen-clause-ok : goal.returns-in_err-seen-clause-ok
returns-in_err-seen-clause-ok g c =
    let told = err_from_is_err_and c.from_residual.result c.from_residual.ensures.1 in
    rw told.1 tt

pub returns-in_err-seen-clause-due : goal.returns-in_err-seen-clause-due
returns-in_err-seen-clause-due g c =
    let told = err_from_is_err_and c.from_residual.result c.from_residual.ensures.1 in
    rw told.1 tt

pub returns-in_err-seen-clause-exact : goal.returns-in_err-seen-clause-exact
returns-in_err-seen-clause-exact g c =
    let told = err_from_is_err_and c.from_residual.result c.from_residual.ensures.1 in
    rw told.1 tt

pub returns-in_err-seen-clause-kept : goal.returns-in_err-seen-clause-kept
returns-in_err-seen-clause-kept g c =
    let told = err_from_is_err_and c.from_residual.result c.from_residual.ensures.1 in
    rw told.1 tt

pub returns-in_err-seen-clause-dry : goal.returns-in_err-seen-clause-dry
returns-in_err-seen-clause-dry g c =
    let told = err_from_is_err_and c.from_residual.result c.from_residual.ensures.1 in
    rw told.1 tt

pub returns-in_err-seen-clause-fewer : goal.returns-in_err-seen-clause-fewer
returns-in_err-seen-clause-fewer g c =
    let told = err_from_is_err_and c.from_residual.result c.from_residual.ensures.1 in
    rw told.1 tt

pub returns-in_err-give_all_ready-clause-ok : goal.returns-in_err-give_all_ready-clause-ok
returns-in_err-give_all_ready-clause-ok g c =
    let told = err_from_is_err_and c.from_residual-in_err-give_all_ready.result c.from_residual-in_err-give_all_ready.ensures.1 in
    rw told.1 tt

pub returns-in_err-give_all_ready-clause-due : goal.returns-in_err-give_all_ready-clause-due
returns-in_err-give_all_ready-clause-due g c =
    let told = err_from_is_err_and c.from_residual-in_err-give_all_ready.result c.from_residual-in_err-give_all_ready.ensures.1 in
    rw told.1 tt

pub returns-in_err-give_all_ready-clause-exact : goal.returns-in_err-give_all_ready-clause-exact
returns-in_err-give_all_ready-clause-exact g c =
    let told = err_from_is_err_and c.from_residual-in_err-give_all_ready.result c.from_residual-in_err-give_all_ready.ensures.1 in
    rw told.1 tt

pub returns-in_err-give_all_ready-clause-kept : goal.returns-in_err-give_all_ready-clause-kept
returns-in_err-give_all_ready-clause-kept g c =
    let told = err_from_is_err_and c.from_residual-in_err-give_all_ready.result c.from_residual-in_err-give_all_ready.ensures.1 in
    rw told.1 tt

pub returns-in_err-give_all_ready-clause-dry : goal.returns-in_err-give_all_ready-clause-dry
returns-in_err-give_all_ready-clause-dry g c =
    let told = err_from_is_err_and c.from_residual-in_err-give_all_ready.result c.from_residual-in_err-give_all_ready.ensures.1 in
    rw told.1 tt

pub returns-in_err-give_all_ready-clause-fewer : goal.returns-in_err-give_all_ready-clause-fewer
returns-in_err-give_all_ready-clause-fewer g c =
    let told = err_from_is_err_and c.from_residual-in_err-give_all_ready.result c.from_residual-in_err-give_all_ready.ensures.1 in
    rw told.1 tt

pub returns-clause-dry : goal.returns-clause-dry
returns-clause-dry g c = c.in_ok-give_all_ready.ensures.dry
