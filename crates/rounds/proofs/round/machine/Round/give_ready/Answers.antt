use Rattle.std.proofs.Common.{◌∙◌, sym, subst, arith}
use Rattle.std.proofs.lemmas.Result.{err_from_is_err_and}
use Rattle.rounds.specs.Rounds.{IsDry}
use Rattle.rounds.proofs.Running.{reads-then}
use Rattle.rounds.proofs.round.machine.Round.give_ready.Goals as goal

pub give_next-requires : goal.give_next-requires
give_next-requires g c = let some = c.requires.somewhere in record { somewhere = (some.0, some.1, c.loop.invariant.ok some.0 some.1 some.2) }

pub returns-in_err-give_next-clause-err : goal.returns-in_err-give_next-clause-err
returns-in_err-give_next-clause-err g c =
    let told = err_from_is_err_and c.from_residual.result c.from_residual.ensures.1 in
    rw (told.1, told.2) (λ start unfed now. c.in_err-give_next.ensures.err start unfed (c.loop.invariant.ok start unfed now))

pub returns-in_err-give_next-clause-unheld : goal.returns-in_err-give_next-clause-unheld
returns-in_err-give_next-clause-unheld g c =
    let told = err_from_is_err_and c.from_residual.result c.from_residual.ensures.1 in
    rw (told.1, told.2) c.in_err-give_next.ensures.unheld

pub returns-in_err-give_next-clause-none : goal.returns-in_err-give_next-clause-none
returns-in_err-give_next-clause-none g c =
    let told = err_from_is_err_and c.from_residual.result c.from_residual.ensures.1 in
    rw told.1 (λ dry. c.in_err-give_next.ensures.none (subst (IsDry c.args.r) (sym (c.loop.invariant.idle dry)) dry))

pub returns-in_err-give_next-clause-fell : goal.returns-in_err-give_next-clause-fell
returns-in_err-give_next-clause-fell g c =
    let told = err_from_is_err_and c.from_residual.result c.from_residual.ensures.1 in
    rw told.1 (omega (arith, c.loop.invariant.fewer, c.in_err-give_next.ensures.fell))

pub returns-in_err-give_next-clause-short : goal.returns-in_err-give_next-clause-short
returns-in_err-give_next-clause-short g c =
    let told = err_from_is_err_and c.from_residual.result c.from_residual.ensures.1 in
    rw told.1 (omega (arith, c.loop.invariant.due, c.in_err-give_next.ensures.short))

pub loop-preserved : goal.loop-preserved
loop-preserved g c =
    let e = c.in_ok-give_next.ensures in
    let i = c.loop.invariant in
    record {
      ok = λ start unfed now. e.ok start unfed (i.ok start unfed now);
      none_read = reads-then _ _ _ i.none_read e.none_read;
      counts = (e.counts.0 ∙ i.counts.0, e.counts.1 ∙ i.counts.1, e.counts.2 ∙ i.counts.2);
      idle = λ dry. absurd (e.stood c.if-branch.true (subst (IsDry c.args.r) (sym (i.idle dry)) dry));
      fewer = omega (arith, i.fewer, e.fewer c.if-branch.true);
      others = λ k other. e.others k other ∙ i.others k other;
      due = e.due ∙ i.due;
    }

pub returns-in_err-give_next-clause-ok : goal.returns-in_err-give_next-clause-ok
returns-in_err-give_next-clause-ok g c =
    let told = err_from_is_err_and c.from_residual.result c.from_residual.ensures.1 in
    rw told.1 tt

pub returns-in_err-give_next-clause-due : goal.returns-in_err-give_next-clause-due
returns-in_err-give_next-clause-due g c =
    let told = err_from_is_err_and c.from_residual.result c.from_residual.ensures.1 in
    rw told.1 tt

pub returns-in_err-give_next-clause-counts : goal.returns-in_err-give_next-clause-counts
returns-in_err-give_next-clause-counts g c =
    let told = err_from_is_err_and c.from_residual.result c.from_residual.ensures.1 in
    rw told.1 tt

pub returns-in_err-give_next-clause-dry : goal.returns-in_err-give_next-clause-dry
returns-in_err-give_next-clause-dry g c =
    let told = err_from_is_err_and c.from_residual.result c.from_residual.ensures.1 in
    rw told.1 tt

pub returns-in_err-give_next-clause-others : goal.returns-in_err-give_next-clause-others
returns-in_err-give_next-clause-others g c =
    let told = err_from_is_err_and c.from_residual.result c.from_residual.ensures.1 in
    rw told.1 tt

pub returns-in_err-give_next-clause-idle : goal.returns-in_err-give_next-clause-idle
returns-in_err-give_next-clause-idle g c =
    let told = err_from_is_err_and c.from_residual.result c.from_residual.ensures.1 in
    rw told.1 tt

pub returns-in_err-give_next-clause-fewer : goal.returns-in_err-give_next-clause-fewer
returns-in_err-give_next-clause-fewer g c =
    let told = err_from_is_err_and c.from_residual.result c.from_residual.ensures.1 in
    rw told.1 tt

pub returns-in_err-give_next-clause-none_read : goal.returns-in_err-give_next-clause-none_read
returns-in_err-give_next-clause-none_read g c = reads-then _ _ _ c.loop.invariant.none_read c.in_err-give_next.ensures.none_read

pub returns-clause-ok : goal.returns-clause-ok
returns-clause-ok g c start unfed now = c.in_ok-give_next.ensures.ok start unfed (c.loop.invariant.ok start unfed now)

pub returns-clause-none_read : goal.returns-clause-none_read
returns-clause-none_read g c = reads-then _ _ _ c.loop.invariant.none_read c.in_ok-give_next.ensures.none_read

pub returns-clause-due : goal.returns-clause-due
returns-clause-due g c = c.in_ok-give_next.ensures.due ∙ c.loop.invariant.due

pub returns-clause-counts : goal.returns-clause-counts
returns-clause-counts g c =
    let e = c.in_ok-give_next.ensures.counts in
    let i = c.loop.invariant.counts in
    (e.0 ∙ i.0, e.1 ∙ i.1, e.2 ∙ i.2)

pub returns-clause-dry : goal.returns-clause-dry
returns-clause-dry g c = c.in_ok-give_next.ensures.dry c.if-branch.false

pub returns-clause-others : goal.returns-clause-others
returns-clause-others g c k other = c.in_ok-give_next.ensures.others k other ∙ c.loop.invariant.others k other

pub returns-clause-idle : goal.returns-clause-idle
returns-clause-idle g c dry = c.in_ok-give_next.ensures.idle c.if-branch.false ∙ c.loop.invariant.idle dry
