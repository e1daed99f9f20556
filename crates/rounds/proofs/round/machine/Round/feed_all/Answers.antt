use Rattle.std.proofs.Common.{◌∙◌, ◌+◌, ◌<◌, ◌≤◌, ap, sym, subst, arith, rules, [], length}
use Rattle.std.specs.List.{slice_set}
use Rattle.std.proofs.lemmas.List.{get_or_default}
use Rattle.std.proofs.lemmas.Result.{err_from_is_err_and}
use Rattle.rounds.specs.Permitted.{AreAllPlanned}
use Rattle.rounds.proofs.Dues.{plans-all, plans-front, plans-more}
use Rattle.rounds.proofs.Running.{reads-then}
use Rattle.rounds.proofs.Expecting.{fed-before, unfed-behind, all-fed}
use Rattle.rounds.proofs.round.machine.Round.feed_all.Goals as goal

pub feed_spool-requires-clause-somewhere : goal.feed_spool-requires-clause-somewhere
feed_spool-requires-clause-somewhere g c κs within =
    let some = c.requires.somewhere in
    let now = c.loop-r.invariant.ok some.0 some.1 in
    (some.0, now.0, now.1, now.3 c.loop-r.r (omega arith) ∙ (get_or_default c.args.spools.now c.loop-r.r [] c.index-spools-r.result (search rules) ∙ sym c.index-spools-r.is))

pub feed_spool-requires-clause-planned : goal.feed_spool-requires-clause-planned
feed_spool-requires-clause-planned g c κs within =
    subst (AreAllPlanned g.P.Permit.plans) (get_or_default c.args.spools.now c.loop-r.r [] c.index-spools-r.result (search rules) ∙ sym c.index-spools-r.is) (c.requires.planned c.loop-r.r)

pub returns-in_err-feed_spool-clause-err : goal.returns-in_err-feed_spool-clause-err
returns-in_err-feed_spool-clause-err g c =
    let told = err_from_is_err_and c.from_residual.result c.from_residual.ensures.1 in
    rw (told.1, told.2) (λ start old.
    let now = c.loop-r.invariant.ok start old in
    c.in_err-feed_spool.ensures.err start now.0 (now.3 c.loop-r.r (omega arith) ∙ (get_or_default c.args.spools.now c.loop-r.r [] c.index-spools-r.result (search rules) ∙ sym c.index-spools-r.is)) now.1)

pub loop-r-preserved : goal.loop-r-preserved
loop-r-preserved g c =
    let r = c.loop-r.r in
    let spools = c.args.spools.now in
    let within : r < length spools = search rules in
    record {
      ok = λ start old.
          let now = c.loop-r.invariant.ok start old in
          let left = now.0 in (
            slice_set left r [],
            c.in_ok-feed_spool.ensures.ok start left (now.3 r (omega arith) ∙ (get_or_default spools r [] c.index-spools-r.result (search rules) ∙ sym c.index-spools-r.is)) now.1,
            fed-before left r (omega (arith, now.1.all, old.all, within)) now.2,
            unfed-behind left spools r now.3,
          );
      none_read = reads-then _ _ _ c.loop-r.invariant.none_read c.in_ok-feed_spool.ensures.none_read;
      fair = omega (arith, c.loop-r.invariant.fair, c.in_ok-feed_spool.ensures.fair);
      due =
          let here = ap length (get_or_default spools r [] c.index-spools-r.result (search rules) ∙ sym c.index-spools-r.is) in
          omega (arith, c.loop-r.invariant.due, c.in_ok-feed_spool.ensures.due, plans-more spools r within, here);
    }

pub returns-clause-ok : goal.returns-clause-ok
returns-clause-ok g c start old =
    let now = c.loop-r.invariant.ok start old in
    let done : length c.args.spools.now ≤ c.loop-r.r = search rules in
    (now.0, now.1, all-fed now.0 c.loop-r.r (omega (arith, now.1.all, old.all, done)) now.2)

pub returns-in_err-feed_spool-clause-held : goal.returns-in_err-feed_spool-clause-held
returns-in_err-feed_spool-clause-held g c =
    let told = err_from_is_err_and c.from_residual.result c.from_residual.ensures.1 in
    rw (told.1, told.2) c.in_err-feed_spool.ensures.held

pub returns-in_err-feed_spool-clause-none : goal.returns-in_err-feed_spool-clause-none
returns-in_err-feed_spool-clause-none g c =
    let told = err_from_is_err_and c.from_residual.result c.from_residual.ensures.1 in
    let here = get_or_default c.args.spools.now c.loop-r.r [] c.index-spools-r.result (search rules) ∙ sym c.index-spools-r.is in
    rw told.1 (c.loop-r.r, λ none. c.in_err-feed_spool.ensures.none (sym here ∙ none))

pub returns-clause-due : goal.returns-clause-due
returns-clause-due g c =
    let done : length c.args.spools.now ≤ c.loop-r.r = search rules in
    omega (arith, c.loop-r.invariant.due, plans-all c.args.spools.now c.loop-r.r done)

pub returns-in_err-feed_spool-clause-short : goal.returns-in_err-feed_spool-clause-short
returns-in_err-feed_spool-clause-short g c =
    let told = err_from_is_err_and c.from_residual.result c.from_residual.ensures.1 in
    let r = c.loop-r.r in
    let spools = c.args.spools.now in
    let within : r < length spools = search rules in
    let here = ap length (get_or_default spools r [] c.index-spools-r.result (search rules) ∙ sym c.index-spools-r.is) in
    rw (told.1, told.2) (λ unheld.
    omega (arith, c.loop-r.invariant.due, c.in_err-feed_spool.ensures.short unheld, plans-more spools r within, plans-front spools (r + 1), here))

pub returns-in_err-feed_spool-clause-ok : goal.returns-in_err-feed_spool-clause-ok
returns-in_err-feed_spool-clause-ok g c =
    let told = err_from_is_err_and c.from_residual.result c.from_residual.ensures.1 in
    rw told.1 tt

pub returns-in_err-feed_spool-clause-due : goal.returns-in_err-feed_spool-clause-due
returns-in_err-feed_spool-clause-due g c =
    let told = err_from_is_err_and c.from_residual.result c.from_residual.ensures.1 in
    rw told.1 tt

pub returns-in_err-feed_spool-clause-fair : goal.returns-in_err-feed_spool-clause-fair
returns-in_err-feed_spool-clause-fair g c =
    let told = err_from_is_err_and c.from_residual.result c.from_residual.ensures.1 in
    rw told.1 tt

pub returns-clause-none_read : goal.returns-clause-none_read
returns-clause-none_read g c = c.loop-r.invariant.none_read

pub returns-clause-fair : goal.returns-clause-fair
returns-clause-fair g c = c.loop-r.invariant.fair

pub returns-in_err-feed_spool-clause-none_read : goal.returns-in_err-feed_spool-clause-none_read
returns-in_err-feed_spool-clause-none_read g c = reads-then _ _ _ c.loop-r.invariant.none_read c.in_err-feed_spool.ensures.none_read
