use Rattle.std.proofs.Common.{rules, inl, inr, ◌≤◌, ◌∙◌, ap, sym, subst, arith, length, ℕ}
use Rattle.std.proofs.lemmas.Bool.{cases_eq}
use Rattle.std.proofs.lemmas.Result.{err_from_is_err_and}
use Rattle.flow_core.specs.Sequences.{SequenceValue}
use Rattle.flow_core.specs.Slots.{leading}
use Rattle.rounds.specs.Rounds.{IsDry}
use Rattle.rounds.proofs.Running.{reads-then}
use Rattle.rounds.proofs.Rounding.{none-ready}
use Rattle.rounds.proofs.round.machine.Round.give_all_ready.Goals as goal

pub give_ready-requires : goal.give_ready-requires
give_ready-requires g c = let some = c.requires.somewhere in record { somewhere = (some.0, some.1, c.loop-r.invariant.ok some.0 some.1 some.2) }

pub returns-in_err-give_ready-clause-err : goal.returns-in_err-give_ready-clause-err
returns-in_err-give_ready-clause-err g c =
    let told = err_from_is_err_and c.from_residual.result c.from_residual.ensures.1 in
    rw (told.1, told.2) (λ start unfed now. c.in_err-give_ready.ensures.err start unfed (c.loop-r.invariant.ok start unfed now))

pub returns-clause-dry : goal.returns-clause-dry
returns-clause-dry g c =
    let some = c.requires.somewhere in
    let now = c.loop-r.invariant.ok some.0 some.1 some.2 in
    let done : length c.args.settings.now.renditions ≤ c.loop-r.r = search rules in
    none-ready c.loop-r.self.collector c.loop-r.r (omega (arith, now.each, done)) c.loop-r.invariant.dry

pub returns-in_err-give_ready-clause-unheld : goal.returns-in_err-give_ready-clause-unheld
returns-in_err-give_ready-clause-unheld g c =
    let told = err_from_is_err_and c.from_residual.result c.from_residual.ensures.1 in
    rw (told.1, told.2) c.in_err-give_ready.ensures.unheld

pub returns-in_err-give_ready-clause-none : goal.returns-in_err-give_ready-clause-none
returns-in_err-give_ready-clause-none g c =
    let told = err_from_is_err_and c.from_residual.result c.from_residual.ensures.1 in
    rw told.1 (λ dry. c.in_err-give_ready.ensures.none (subst (IsDry c.loop-r.r) (sym (c.loop-r.invariant.idle dry)) (dry c.loop-r.r)))

pub returns-in_err-give_ready-clause-fell : goal.returns-in_err-give_ready-clause-fell
returns-in_err-give_ready-clause-fell g c =
    let told = err_from_is_err_and c.from_residual.result c.from_residual.ensures.1 in
    rw told.1 (omega (arith, c.loop-r.invariant.fewer, c.in_err-give_ready.ensures.fell))

pub loop-r-preserved : goal.loop-r-preserved
loop-r-preserved g c =
    let e = c.in_ok-give_ready.ensures in
    let i = c.loop-r.invariant in
    record {
      ok = λ start unfed now. e.ok start unfed (i.ok start unfed now);
      none_read = reads-then _ _ _ i.none_read e.none_read;
      counts = (e.counts.0 ∙ i.counts.0, e.counts.1 ∙ i.counts.1, e.counts.2 ∙ i.counts.2);
      idle = λ none.
          let same = i.idle none in
          e.idle (subst (IsDry c.loop-r.r) (sym same) (none c.loop-r.r)) ∙ same;
      fewer = omega (arith, i.fewer, e.fewer);
      due = e.due ∙ i.due;
      dry = λ k below.
          elim (cases_eq k c.loop-r.r) as (λ _. IsDry k c.give_ready.new.self) [
            | inl q ↦ subst (λ (j : ℕ). IsDry j c.give_ready.new.self) (sym q) e.dry
            | inr q ↦ ap (λ (l : SequenceValue). leading l.slots) (e.others k q) ∙ i.dry k (omega (arith, below, q))
          ];
    }

pub returns-in_err-give_ready-clause-short : goal.returns-in_err-give_ready-clause-short
returns-in_err-give_ready-clause-short g c =
    let told = err_from_is_err_and c.from_residual.result c.from_residual.ensures.1 in
    rw told.1 (omega (arith, c.loop-r.invariant.due, c.in_err-give_ready.ensures.short))

pub returns-in_err-give_ready-clause-ok : goal.returns-in_err-give_ready-clause-ok
returns-in_err-give_ready-clause-ok g c =
    let told = err_from_is_err_and c.from_residual.result c.from_residual.ensures.1 in
    rw told.1 tt

pub returns-in_err-give_ready-clause-due : goal.returns-in_err-give_ready-clause-due
returns-in_err-give_ready-clause-due g c =
    let told = err_from_is_err_and c.from_residual.result c.from_residual.ensures.1 in
    rw told.1 tt

pub returns-in_err-give_ready-clause-counts : goal.returns-in_err-give_ready-clause-counts
returns-in_err-give_ready-clause-counts g c =
    let told = err_from_is_err_and c.from_residual.result c.from_residual.ensures.1 in
    rw told.1 tt

pub returns-in_err-give_ready-clause-dry : goal.returns-in_err-give_ready-clause-dry
returns-in_err-give_ready-clause-dry g c =
    let told = err_from_is_err_and c.from_residual.result c.from_residual.ensures.1 in
    rw told.1 tt

pub returns-in_err-give_ready-clause-fewer : goal.returns-in_err-give_ready-clause-fewer
returns-in_err-give_ready-clause-fewer g c =
    let told = err_from_is_err_and c.from_residual.result c.from_residual.ensures.1 in
    rw told.1 tt

pub returns-clause-ok : goal.returns-clause-ok
returns-clause-ok g c = c.loop-r.invariant.ok

pub returns-clause-none_read : goal.returns-clause-none_read
returns-clause-none_read g c = c.loop-r.invariant.none_read

pub returns-clause-due : goal.returns-clause-due
returns-clause-due g c = c.loop-r.invariant.due

pub returns-clause-counts : goal.returns-clause-counts
returns-clause-counts g c = c.loop-r.invariant.counts

pub returns-clause-fewer : goal.returns-clause-fewer
returns-clause-fewer g c = c.loop-r.invariant.fewer

pub returns-in_err-give_ready-clause-none_read : goal.returns-in_err-give_ready-clause-none_read
returns-in_err-give_ready-clause-none_read g c = reads-then _ _ _ c.loop-r.invariant.none_read c.in_err-give_ready.ensures.none_read
