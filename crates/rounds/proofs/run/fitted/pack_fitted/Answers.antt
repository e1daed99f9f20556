use Rattle.std.proofs.Common.{◌∙◌, ap, sym, arith, length}
use Rattle.std.proofs.lemmas.Result.{IfErr-at_err, IfErr-weaker, IfOk-at_ok}
use Rattle.live_board.specs.Snapshots.{Known}
use Rattle.ladder_items.proofs.Blocks.{shown-going, shown-each}
use Rattle.ladder_items.proofs.Worlds.{parts-of, parts-length}
use Rattle.rounds.specs.Courses.{Start}
use Rattle.rounds.specs.Shown.{start_at}
use Rattle.rounds.proofs.Answered.{ok-weaker}
use Rattle.rounds.proofs.Ending.{all-left, stopped-shown, told-shown, packed-shown}
use Rattle.rounds.proofs.Telling.{heard-answered, heard-sudden}
use Rattle.rounds.proofs.Permitting.{through-as}
use Rattle.rounds.proofs.Gates.{answered-unheld, unheld-word}
use Rattle.rounds.proofs.run.fitted.pack_fitted.Goals as goal

pub run_rounds-between-requires-clause-on : goal.run_rounds-between-requires-clause-on
run_rounds-between-requires-clause-on g c κs within = (start_at c.args.endpoints, c.set_out-between.ensures.on c.args.setup.now.settings.now c.args.setup.now.workers c.requires.fits c.requires.begun)

pub returns-in-Err-clause-fault : goal.returns-in-Err-clause-fault
returns-in-Err-clause-fault g c =
    let start : Start _ _ = start_at c.args.endpoints in
    let on = c.set_out-between.ensures.on c.args.setup.now.settings.now c.args.setup.now.workers c.requires.fits c.requires.begun in
    rw (c.give_back.ensures.answer, c.give_back.ensures.sources, c.give_back.ensures.outlet, c.give_back.ensures.publisher)
    (stopped-shown _ _ _ _ _ start _ _ c.args.setup.now.workers c.in-Err.fault (IfErr-at_err _ c.in-Err.is c.run_rounds-between.ensures.err start on))

pub returns-in-Err-clause-board : goal.returns-in-Err-clause-board
returns-in-Err-clause-board g c =
    let start : Start _ _ = start_at c.args.endpoints in
    let on = c.set_out-between.ensures.on c.args.setup.now.settings.now c.args.setup.now.workers c.requires.fits c.requires.begun in
    ap (λ (k : Known). k.board) c.give_back.ensures.publisher ∙ (IfErr-at_err _ c.in-Err.is c.run_rounds-between.ensures.err start on).board

pub answer_of-answer-requires-clause-each : goal.answer_of-answer-requires-clause-each
answer_of-answer-requires-clause-each g c =
    let start : Start _ _ = start_at c.args.endpoints in
    let on = c.set_out-between.ensures.on c.args.setup.now.settings.now c.args.setup.now.workers c.requires.fits c.requires.begun in
    let done = IfOk-at_ok _ c.in_default.is c.run_rounds-between.ensures.ok start on in
    let parts = parts-of c.args.setup.now.settings.now done.world.events in
    let each = parts-length c.args.setup.now.settings.now done.world.events in
    ap length c.deref-2.ensures.value ∙ (done.world.same_lanes ∙ (sym (shown-each c.args.setup.now.settings.now parts _ each done.world.shown_are) ∙ ap length (sym c.deref-3.ensures.value)))

pub answer_of-answer-requires-clause-going : goal.answer_of-answer-requires-clause-going
answer_of-answer-requires-clause-going g c =
    let start : Start _ _ = start_at c.args.endpoints in
    let on = c.set_out-between.ensures.on c.args.setup.now.settings.now c.args.setup.now.workers c.requires.fits c.requires.begun in
    let done = IfOk-at_ok _ c.in_default.is c.run_rounds-between.ensures.ok start on in
    let parts = parts-of c.args.setup.now.settings.now done.world.events in
    let each = parts-length c.args.setup.now.settings.now done.world.events in
    shown-going c.args.setup.now.settings.now parts c.deref-3.result.now each (c.deref-3.ensures.value ∙ done.world.shown_are)

pub answer_of-answer-requires-clause-few : goal.answer_of-answer-requires-clause-few
answer_of-answer-requires-clause-few g c =
    let start : Start _ _ = start_at c.args.endpoints in
    let on = c.set_out-between.ensures.on c.args.setup.now.settings.now c.args.setup.now.workers c.requires.fits c.requires.begun in
    let done = IfOk-at_ok _ c.in_default.is c.run_rounds-between.ensures.ok start on in
    let parts = parts-of c.args.setup.now.settings.now done.world.events in
    let each = parts-length c.args.setup.now.settings.now done.world.events in
    let size = shown-each c.args.setup.now.settings.now parts c.deref-3.result.now each (c.deref-3.ensures.value ∙ done.world.shown_are) in
    let few = c.requires.fits.0.within.renditions.1 in
    omega (arith, size, few)

pub returns-clause-ok : goal.returns-clause-ok
returns-clause-ok g c =
    let start : Start _ _ = start_at c.args.endpoints in
    let on = c.set_out-between.ensures.on c.args.setup.now.settings.now c.args.setup.now.workers c.requires.fits c.requires.begun in
    let done = IfOk-at_ok _ c.in_default.is c.run_rounds-between.ensures.ok start on in
    let all = IfOk-at_ok _ c.in_default.is c.run_rounds-between.ensures.all in
    rw (c.give_back-2.ensures.answer, c.give_back-2.ensures.sources, c.give_back-2.ensures.outlet, c.give_back-2.ensures.publisher)
    (ok-weaker c.answer_of-answer.result _ _ (λ report told.
    packed-shown _ _ _ _ _ start _ _ done all c.args.setup.now.workers c.run_rounds-between.result.0.books report (IfOk-at_ok _ c.in_default.is c.run_rounds-between.ensures.workers) (rw (← c.deref-2.ensures.value, ← c.deref-3.ensures.value) told))
    c.answer_of-answer.ensures.ok)

pub returns-clause-fault : goal.returns-clause-fault
returns-clause-fault g c =
    let start : Start _ _ = start_at c.args.endpoints in
    let on = c.set_out-between.ensures.on c.args.setup.now.settings.now c.args.setup.now.workers c.requires.fits c.requires.begun in
    let done = IfOk-at_ok _ c.in_default.is c.run_rounds-between.ensures.ok start on in
    let all = IfOk-at_ok _ c.in_default.is c.run_rounds-between.ensures.all in
    rw (c.give_back-2.ensures.answer, c.give_back-2.ensures.sources, c.give_back-2.ensures.outlet, c.give_back-2.ensures.publisher)
    (IfErr-weaker c.answer_of-answer.result _ _ (λ fault told.
    told-shown _ _ _ _ _ start _ _ done all c.args.setup.now.workers fault (rw (← c.deref-2.ensures.value) told))
    c.answer_of-answer.ensures.fault)

pub returns-clause-board : goal.returns-clause-board
returns-clause-board g c =
    let start : Start _ _ = start_at c.args.endpoints in
    let on = c.set_out-between.ensures.on c.args.setup.now.settings.now c.args.setup.now.workers c.requires.fits c.requires.begun in
    ap (λ (k : Known). k.board) c.give_back-2.ensures.publisher ∙ (IfOk-at_ok _ c.in_default.is c.run_rounds-between.ensures.ok start on).board

pub returns-in-Err-clause-held : goal.returns-in-Err-clause-held
returns-in-Err-clause-held g c = rw c.give_back.ensures.answer (IfErr-at_err _ c.in-Err.is c.run_rounds-between.ensures.held)

pub returns-clause-held : goal.returns-clause-held
returns-clause-held g c =
    rw c.give_back-2.ensures.answer
    (IfErr-weaker c.answer_of-answer.result _ _ (λ fault told. unheld-word _ _ (answered-unheld _ _ told)) c.answer_of-answer.ensures.fault)

pub run_rounds-between-requires-clause-keys : goal.run_rounds-between-requires-clause-keys
run_rounds-between-requires-clause-keys g c κs within = c.deref.ensures.value ∙ (ap (λ k. k.items) c.set_out-between.ensures.keys ∙ c.requires.begun.keys)

pub returns-in-Err-clause-left : goal.returns-in-Err-clause-left
returns-in-Err-clause-left g c = rw c.give_back.ensures.answer tt

pub returns-clause-left : goal.returns-clause-left
returns-clause-left g c =
    let start : Start _ _ = start_at c.args.endpoints in
    let on = c.set_out-between.ensures.on c.args.setup.now.settings.now c.args.setup.now.workers c.requires.fits c.requires.begun in
    let done = IfOk-at_ok _ c.in_default.is c.run_rounds-between.ensures.ok start on in
    let all = IfOk-at_ok _ c.in_default.is c.run_rounds-between.ensures.all in
    rw (c.give_back-2.ensures.answer, c.give_back-2.ensures.sources)
    (ok-weaker c.answer_of-answer.result _ _ (λ report told. all-left _ _ _ _ _ start _ _ done all) c.answer_of-answer.ensures.ok)

pub returns-in-Err-clause-told : goal.returns-in-Err-clause-told
returns-in-Err-clause-told g c =
    let start : Start _ _ = start_at c.args.endpoints in
    let on = c.set_out-between.ensures.on c.args.setup.now.settings.now c.args.setup.now.workers c.requires.fits c.requires.begun in
    rw c.give_back.ensures.answer (heard-sudden (g.H.Herald.was_told c.args.herald.now) c.in-Err.fault _ _ (IfErr-at_err _ c.in-Err.is c.run_rounds-between.ensures.err start on).says)

pub returns-clause-told : goal.returns-clause-told
returns-clause-told g c =
    let all = IfOk-at_ok _ c.in_default.is c.run_rounds-between.ensures.told in
    rw c.give_back-2.ensures.answer
    (IfErr-weaker c.answer_of-answer.result _ _ (λ fault told. heard-answered (g.H.Herald.was_told c.args.herald.now) _ fault all (rw (← c.deref-2.ensures.value) told)) c.answer_of-answer.ensures.fault)

pub returns-in-Err-clause-let_through : goal.returns-in-Err-clause-let_through
returns-in-Err-clause-let_through g c =
    through-as (g.G.Gate.lets c.args.setup.now.gate.now) c.args.endpoints.publisher c.set_out-between.result.0.broadcast.held.publisher c.run_rounds-between.result.0.broadcast.held.publisher c.give_back.result.publisher
    c.set_out-between.ensures.shown c.give_back.ensures.publisher c.run_rounds-between.ensures.let_through

pub returns-clause-let_through : goal.returns-clause-let_through
returns-clause-let_through g c =
    through-as (g.G.Gate.lets c.args.setup.now.gate.now) c.args.endpoints.publisher c.set_out-between.result.0.broadcast.held.publisher c.run_rounds-between.result.0.broadcast.held.publisher c.give_back-2.result.publisher
    c.set_out-between.ensures.shown c.give_back-2.ensures.publisher c.run_rounds-between.ensures.let_through
