use Rattle.std.proofs.Common.{inl, inr, ◌∙◌, arith, rules}
use Rattle.std.proofs.lemmas.Result.{err_from_is_err_and}
use Rattle.ladder_items.specs.Weave.{after_all}
use Rattle.ladder_items.specs.Giving.{rows}
use Rattle.ladder_items.proofs.Leaving.{part-of}
use Rattle.ladder_items.proofs.Blocks.{shown-each}
use Rattle.serial_run.proofs.Dues.{going-on, gave-rows, gave-end, cut-rows, cut-end, left-rows, left-end}
use Rattle.serial_run.proofs.due.give_due.Goals as goal

pub returns-in_err-give_closed-clause-err : goal.returns-in_err-give_closed-clause-err
returns-in_err-give_closed-clause-err g c =
    let told = err_from_is_err_and c.from_residual.result c.from_residual.ensures.1 in
    rw told.1 (λ parts next. cut-rows _ c.args.rendition.settings.now c.args.rendition.number parts _ _ c.args.lane.now (c.in_err-give_closed.ensures.err parts next))

pub give_end-requires-clause-within : goal.give_end-requires-clause-within
give_end-requires-clause-within g c =
    let parts = c.requires.next.0 in
    let next = c.requires.next.1 in
    let ps = c.args.lane.now.intake.filled in
    let now = c.in_ok-give_closed.ensures.ok parts next in
    let h = going-on c.args.rendition.settings.now c.args.rendition.number parts c.args.playlists.now.items c.deref.result.now ps next.goes_on (c.deref.ensures.value ∙ now.1) in
    let each = shown-each c.args.rendition.settings.now (after_all parts (rows c.args.rendition.number ps)) c.deref.result.now h.each h.shown_are in
    omega (arith, each, h.within, h.each)

pub returns-in_err-give_end-clause-err : goal.returns-in_err-give_end-clause-err
returns-in_err-give_end-clause-err g c =
    let told = err_from_is_err_and c.from_residual-in_err-give_end.result c.from_residual-in_err-give_end.ensures.1 in
    let ps = c.args.lane.now.intake.filled in
    rw told.1 (λ parts next.
    let now = c.in_ok-give_closed.ensures.ok parts next in
    let h = going-on c.args.rendition.settings.now c.args.rendition.number parts c.args.playlists.now.items c.deref.result.now ps next.goes_on (c.deref.ensures.value ∙ now.1) in
    cut-end _ c.args.rendition.settings.now c.args.rendition.number parts _ _ _ c.args.lane.now (search rules) now.0 (c.in_err-give_end.ensures.err (after_all parts (rows c.args.rendition.number ps)) h))

pub returns-then-not-is_good-clause-ok : goal.returns-then-not-is_good-clause-ok
returns-then-not-is_good-clause-ok g c parts next =
    gave-rows _ c.args.rendition.settings.now c.args.rendition.number parts _ _ _ c.args.lane.now (search rules) (c.in_ok-give_closed.ensures.ok parts next)

pub returns-clause-ok : goal.returns-clause-ok
returns-clause-ok g c parts next =
    let ps = c.args.lane.now.intake.filled in
    let now = c.in_ok-give_closed.ensures.ok parts next in
    let h = going-on c.args.rendition.settings.now c.args.rendition.number parts c.args.playlists.now.items c.deref.result.now ps next.goes_on (c.deref.ensures.value ∙ now.1) in
    gave-end _ c.args.rendition.settings.now c.args.rendition.number parts _ _ _ c.args.playlists.now.items _ c.args.lane.now (search rules) next.goes_on now
    (c.in_ok-give_end.ensures.ok (after_all parts (rows c.args.rendition.number ps)) h)

pub returns-in_err-give_closed-clause-left : goal.returns-in_err-give_closed-clause-left
returns-in_err-give_closed-clause-left g c =
    let told = err_from_is_err_and c.from_residual.result c.from_residual.ensures.1 in
    rw told.1 (λ parts next. left-rows _ c.args.rendition.settings.now c.args.rendition.number parts _ _ c.args.lane.now (c.in_err-give_closed.ensures.left parts next))

pub returns-in_err-give_end-clause-left : goal.returns-in_err-give_end-clause-left
returns-in_err-give_end-clause-left g c =
    let told = err_from_is_err_and c.from_residual-in_err-give_end.result c.from_residual-in_err-give_end.ensures.1 in
    let ps = c.args.lane.now.intake.filled in
    rw told.1 (λ parts next.
    let now = c.in_ok-give_closed.ensures.ok parts next in
    let h = going-on c.args.rendition.settings.now c.args.rendition.number parts c.args.playlists.now.items c.deref.result.now ps next.goes_on (c.deref.ensures.value ∙ now.1) in
    left-end _ c.args.rendition.settings.now c.args.rendition.number parts _ _ _ c.args.lane.now (search rules) now.0 (c.in_err-give_end.ensures.left (after_all parts (rows c.args.rendition.number ps)) h))

pub returns-in_err-give_closed-clause-stopped : goal.returns-in_err-give_closed-clause-stopped
returns-in_err-give_closed-clause-stopped g c =
    let told = err_from_is_err_and c.from_residual.result c.from_residual.ensures.1 in
    rw told.1 (λ parts next. inl (c.in_err-give_closed.ensures.stopped parts next))

pub returns-in_err-give_end-clause-stopped : goal.returns-in_err-give_end-clause-stopped
returns-in_err-give_end-clause-stopped g c =
    let told = err_from_is_err_and c.from_residual-in_err-give_end.result c.from_residual-in_err-give_end.ensures.1 in
    let ps = c.args.lane.now.intake.filled in
    rw told.1 (λ parts next.
    let now = c.in_ok-give_closed.ensures.ok parts next in
    let h = going-on c.args.rendition.settings.now c.args.rendition.number parts c.args.playlists.now.items c.deref.result.now ps next.goes_on (c.deref.ensures.value ∙ now.1) in
    inr (record {
      good = search rules;
      intake = c.in_ok-give_closed.ensures.intake;
      shown = now.1;
      put = part-of _ c.args.outlet.now c.give_closed.new.outlet c.give_end.new.outlet _ _ now.0 (c.in_err-give_end.ensures.left (after_all parts (rows c.args.rendition.number ps)) h);
    }))
