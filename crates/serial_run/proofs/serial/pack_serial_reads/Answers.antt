use Rattle.std.proofs.Common.{◌≡◌, ◌∙◌, length, refl, ap, sym, rules, arith}
use Rattle.std.proofs.lemmas.Result.{IfOk-weaker, IfErr-weaker, err_from_is_err_and}
use Rattle.ingest.proofs.Ordered.{closed_of-none}
use Rattle.ladder_items.specs.Ladder.{IsAllowed}
use Rattle.ladder_items.proofs.Blocks.{shown-going, shown-each}
use Rattle.ladder_items.proofs.Worlds.{nothing-given, parts-of, parts-length}
use Rattle.serial_run.proofs.Stepping.{due-first}
use Rattle.ladder_items.proofs.Endings.{at-once}
use Rattle.ladder_items.proofs.Unheld.{sudden-unheld}
use Rattle.serial_run.proofs.Answering.{answered, answered-unheld, answered-at-once, packed}
use Rattle.serial_run.proofs.AtOnce.{none-at-once}
use Rattle.serial_run.proofs.Leaving.{all-left, on-ok}
use Rattle.serial_run.proofs.serial.pack_serial_reads.Goals as goal

pub returns-in_err-lanes-clause-fault : goal.returns-in_err-lanes-clause-fault
returns-in_err-lanes-clause-fault g c =
    let told = err_from_is_err_and c.from_residual.result c.from_residual.ensures.1 in
    rw (told.1, told.2) ((nothing-given _ _ _ _ _ _ _ _ (λ k. closed_of-none k c.args.settings.now.cut)).0.cut, refl)

pub returns-in_err-playlists-clause-fault : goal.returns-in_err-playlists-clause-fault
returns-in_err-playlists-clause-fault g c =
    let told = err_from_is_err_and c.from_residual-in_err-playlists.result c.from_residual-in_err-playlists.ensures.1 in
    rw (told.1, told.2) ((nothing-given _ _ _ _ _ _ _ _ (λ k. closed_of-none k c.args.settings.now.cut)).0.cut, refl)

pub turns-requires-clause-start : goal.turns-requires-clause-start
turns-requires-clause-start g c =
    let allowed : IsAllowed c.args.settings.now × (c.len.result ≡ length c.args.settings.now.renditions) = search rules in
    let whole : c.len.result ≡ length c.args.sources.now.items = search rules in
    due-first _ _ _ _ _ _ _ _ _ _ (sym whole ∙ allowed.1) c.in_ok-lanes.ensures.each c.in_ok-lanes.ensures.first c.in_ok-playlists.ensures
    (λ k. closed_of-none k c.args.settings.now.cut)

pub answer_of-requires-clause-each : goal.answer_of-requires-clause-each
answer_of-requires-clause-each g c =
    let w = c.in_ok-turns.ensures.ok.2.world in
    let each = shown-each c.args.settings.now (parts-of c.args.settings.now w.events) _ (parts-length c.args.settings.now w.events) w.shown_are in
    ap length c.deref.ensures.value ∙ (w.same_lanes ∙ (sym each ∙ ap length (sym c.deref-2.ensures.value)))

pub answer_of-requires-clause-going : goal.answer_of-requires-clause-going
answer_of-requires-clause-going g c =
    let w = c.in_ok-turns.ensures.ok.2.world in
    shown-going c.args.settings.now (parts-of c.args.settings.now w.events) c.deref-2.result.now (parts-length c.args.settings.now w.events) (c.deref-2.ensures.value ∙ w.shown_are)

pub answer_of-requires-clause-few : goal.answer_of-requires-clause-few
answer_of-requires-clause-few g c =
    let allowed : IsAllowed c.args.settings.now × (c.len.result ≡ length c.args.settings.now.renditions) = search rules in
    let w = c.in_ok-turns.ensures.ok.2.world in
    let each = shown-each c.args.settings.now (parts-of c.args.settings.now w.events) c.deref-2.result.now (parts-length c.args.settings.now w.events) (c.deref-2.ensures.value ∙ w.shown_are) in
    (c.args.settings.now, allowed.0, each)

pub returns-clause-ok : goal.returns-clause-ok
returns-clause-ok g c =
    let ok = c.in_ok-turns.ensures.ok in
    IfOk-weaker c.answer_of.result _ _ (λ report is.
    packed _ _ _ _ _ _ ok.0 _ _ _ _ _ _ report ok.1 ok.2 (rw (c.deref.ensures.value, c.deref-2.ensures.value) at is)) c.answer_of.ensures.ok

pub returns-clause-fault : goal.returns-clause-fault
returns-clause-fault g c =
    let allowed : IsAllowed c.args.settings.now × (c.len.result ≡ length c.args.settings.now.renditions) = search rules in
    let ok = c.in_ok-turns.ensures.ok in
    IfErr-weaker c.answer_of.result _ _ (λ fault is.
    answered _ _ _ _ _ _ ok.0 _ _ _ _ _ _ fault ok.1 allowed.0 ok.2 ok.3 c.in_ok-turns.ensures.failures (rw c.deref.ensures.value at is)) c.answer_of.ensures.fault

pub returns-in_err-lanes-clause-at_once : goal.returns-in_err-lanes-clause-at_once
returns-in_err-lanes-clause-at_once g c =
    let allowed : IsAllowed c.args.settings.now × (c.len.result ≡ length c.args.settings.now.renditions) = search rules in
    let whole : c.len.result ≡ length c.args.sources.now.items = search rules in
    let told = err_from_is_err_and c.from_residual.result c.from_residual.ensures.1 in
    rw told.1 (λ sudden. none-at-once _ _ _ _ _ _ _ _ (omega (arith, allowed.0.within.renditions.0, allowed.1, whole))
    (λ k. closed_of-none k c.args.settings.now.cut))

pub returns-in_err-playlists-clause-at_once : goal.returns-in_err-playlists-clause-at_once
returns-in_err-playlists-clause-at_once g c =
    let allowed : IsAllowed c.args.settings.now × (c.len.result ≡ length c.args.settings.now.renditions) = search rules in
    let whole : c.len.result ≡ length c.args.sources.now.items = search rules in
    let told = err_from_is_err_and c.from_residual-in_err-playlists.result c.from_residual-in_err-playlists.ensures.1 in
    rw told.1 (λ sudden. none-at-once _ _ _ _ _ _ _ _ (omega (arith, allowed.0.within.renditions.0, allowed.1, whole))
    (λ k. closed_of-none k c.args.settings.now.cut))

pub returns-clause-at_once : goal.returns-clause-at_once
returns-clause-at_once g c =
    let allowed : IsAllowed c.args.settings.now × (c.len.result ≡ length c.args.settings.now.renditions) = search rules in
    let ok = c.in_ok-turns.ensures.ok in
    IfErr-weaker c.answer_of.result _ _ (λ fault is. answered-at-once _ _ _ _ _ _ ok.0 _ _ _ _ _ _ fault ok.1 allowed.0 ok.2 (rw c.deref.ensures.value at is)) c.answer_of.ensures.fault

pub returns-in_err-turns-clause-fault : goal.returns-in_err-turns-clause-fault
returns-in_err-turns-clause-fault g c =
    let told = err_from_is_err_and c.from_residual-in_err-turns.result c.from_residual-in_err-turns.ensures.1 in
    rw (told.1, told.2) (at-once _ _ _ _ _ _ _ _ _ _ _ c.in_err-turns.ensures.fault c.in_err-turns.ensures.err.cut)

pub returns-in_err-turns-clause-at_once : goal.returns-in_err-turns-clause-at_once
returns-in_err-turns-clause-at_once g c =
    let told = err_from_is_err_and c.from_residual-in_err-turns.result c.from_residual-in_err-turns.ensures.1 in
    rw told.1 (λ sudden. c.in_err-turns.ensures.err)

pub returns-in_err-turns-clause-never_held : goal.returns-in_err-turns-clause-never_held
returns-in_err-turns-clause-never_held g c =
    let told = err_from_is_err_and c.from_residual-in_err-turns.result c.from_residual-in_err-turns.ensures.1 in
    rw (told.1, told.2) (λ r n is. sudden-unheld _ _ _ r n c.in_err-turns.ensures.fault is)

pub returns-clause-never_held : goal.returns-clause-never_held
returns-clause-never_held g c =
    IfErr-weaker c.answer_of.result _ _ (λ fault is r n. answered-unheld c.deref.result.now fault r n is) c.answer_of.ensures.fault

pub returns-clause-alone : goal.returns-clause-alone
returns-clause-alone g c = IfOk-weaker c.answer_of.result _ _ (λ report is. is.alone) c.answer_of.ensures.ok

pub turns-requires-clause-going : goal.turns-requires-clause-going
turns-requires-clause-going g c k lane at = (c.in_ok-lanes.ensures.first k lane at).stop

pub returns-clause-left : goal.returns-clause-left
returns-clause-left g c =
    let w = c.in_ok-turns.ensures.ok.2.world in
    on-ok _ c.answer_of.result c.answer_of.ensures.ok (λ report is.
    all-left g.S.Source.input _ _ _ (w.same_before ∙ sym w.same_now) (w.same_lanes ∙ sym w.same_now) c.in_ok-turns.ensures.left (rw c.deref.ensures.value at is.good))
