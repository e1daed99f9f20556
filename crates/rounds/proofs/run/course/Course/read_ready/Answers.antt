use Rattle.std.proofs.Common.{◌∙◌, ℕ, ◌<◌, inl, refl, ap, sym, subst, arith, rules, length}
use Rattle.std.specs.List.{slice_get}
use Rattle.std.proofs.lemmas.Option.{slice_get_within}
use Rattle.std.proofs.lemmas.Result.{err_from_is_err_and}
use Rattle.ladder_items.proofs.Elsewhere.{some-at}
use Rattle.rounds.specs.declared.run.course.Course.{Course}
use Rattle.rounds.specs.Courses.{HasTurns, turns_in}
use Rattle.rounds.proofs.Soon.{had-none, most-then, none-there, one-then, rest-then, turns-behind, waits-not}
use Rattle.rounds.proofs.Turning.{had-then, more-none, more-then, none-had}
use Rattle.rounds.proofs.run.course.Course.read_ready.Goals as goal

pub read_one-requires-clause-on : goal.read_one-requires-clause-on
read_one-requires-clause-on g c = let some = c.requires.on in (some.0, some.1, some.2, some.3, c.loop-r.invariant.ok some.0 some.1 some.2 some.3 some.4)

pub returns-in_err-any-clause-err : goal.returns-in_err-any-clause-err
returns-in_err-any-clause-err g c =
    let told = err_from_is_err_and c.from_residual.result c.from_residual.ensures.1 in
    rw told.1 (λ ladder start shows waiting on. c.in_err-any.ensures.err ladder start shows waiting (c.loop-r.invariant.ok ladder start shows waiting on))

pub loop-r-preserved : goal.loop-r-preserved
loop-r-preserved g c = record {
  ok = λ ladder start shows waiting on. c.in_ok-any.ensures.ok ladder start shows waiting (c.loop-r.invariant.ok ladder start shows waiting on);
  same = c.in_ok-any.ensures.same
      ∙ ap (λ (d : Course _ _). record d { sources = c.read_one.new.self.sources; lanes = c.read_one.new.self.lanes; turns = c.read_one.new.self.turns }) c.loop-r.invariant.same;
  count = c.in_ok-any.ensures.count ∙ c.loop-r.invariant.count;
  further = more-then _ _ _ c.loop-r.invariant.further c.in_ok-any.ensures.further;
  told = had-then _ _ _ _ _ c.loop-r.invariant.further.more c.in_ok-any.ensures.further.more c.loop-r.invariant.told c.in_ok-any.ensures.told;
  once = omega (arith, c.loop-r.invariant.once, c.in_ok-any.ensures.once);
  each = most-then _ c.loop-r.r _ _ _ c.loop-r.invariant.each c.loop-r.invariant.rest c.in_ok-any.ensures.one c.in_ok-any.ensures.others;
  had = λ k source below at tells turns.
      one-then _ c.loop-r.r k _ _ _ below (λ before. c.loop-r.invariant.had k source before at tells turns) (c.loop-r.invariant.rest c.loop-r.r (omega arith))
      (λ here. c.in_ok-any.ensures.had source (ap (λ (j : ℕ). slice_get c.loop-r.self.sources.items j) (sym here) ∙ ((c.loop-r.invariant.rest k (omega (arith, here))).sources ∙ at)) tells
      (turns-behind _ _ _ (c.loop-r.invariant.rest c.loop-r.r (omega arith)) (ap (λ (d : Course _ _). d.reads) c.loop-r.invariant.same)
      (subst (λ (j : ℕ). HasTurns j c.args.self.now) here turns)))
      c.in_ok-any.ensures.others;
  idle = λ none k. none-there c.loop-r.r k _ _ _ _ _ c.loop-r.invariant.idle c.in_ok-any.ensures.idle c.in_ok-any.ensures.others none;
  rest = rest-then c.loop-r.r _ _ _ c.loop-r.invariant.rest c.in_ok-any.ensures.others;
  buffer = search rules;
}

pub loop-r-init : goal.loop-r-init
loop-r-init g c = record {
  ok = λ ladder start shows waiting on. on;
  same = refl;
  count = refl;
  further = more-none c.args.self.now;
  told = none-had (turns_in c.args.self.now);
  once = omega arith;
  each = λ k. inl (had-none k c.args.self.now);
  had = λ k source below at tells turns. absurd (omega (arith, below));
  idle = λ none k. had-none k c.args.self.now;
  rest = λ k above. had-none k c.args.self.now;
  buffer = refl;
}

pub returns-in_err-any-clause-none : goal.returns-in_err-any-clause-none
returns-in_err-any-clause-none g c =
    let told = err_from_is_err_and c.from_residual.result c.from_residual.ensures.1 in
    let r = c.loop-r.r in
    let within : r < length c.loop-r.self.lanes.items = search rules in
    let some = some-at c.loop-r.self.lanes.items r within in
    let was = c.loop-r.invariant.rest r (omega arith) in
    rw told.1 (λ rests.
    let all = rests r some.0 (sym was.lanes ∙ some.1) (c.in_err-any.ensures.none some.0 some.1) in
    absurd (omega (arith, all, was.turns, c.in_err-any.ensures.unread, ap (λ (d : Course _ _). d.reads) c.loop-r.invariant.same)))

pub returns-in_err-any-clause-broken : goal.returns-in_err-any-clause-broken
returns-in_err-any-clause-broken g c =
    let told = err_from_is_err_and c.from_residual.result c.from_residual.ensures.1 in
    rw told.1 c.in_err-any.ensures.broken

pub returns-clause-had : goal.returns-clause-had
returns-clause-had g c k source at tells turns =
    c.loop-r.invariant.had k source (omega (arith, slice_get_within c.args.self.now.lanes.items k turns.lane turns.there, c.loop-r-test.false, c.loop-r.auto.r-end)) at tells turns

pub returns-clause-idle : goal.returns-clause-idle
returns-clause-idle g c none k source at tells turns =
    let was = c.loop-r.invariant.idle none k in
    waits-not _ k _ _ was (ap (λ (d : Course _ _). d.reads) c.loop-r.invariant.same) turns (λ had.
    c.loop-r.invariant.had k source (omega (arith, slice_get_within c.args.self.now.lanes.items k had.lane had.there, c.loop-r-test.false, c.loop-r.auto.r-end))
    (sym was.sources ∙ at) tells had)

pub returns-in_err-any-clause-ok : goal.returns-in_err-any-clause-ok
returns-in_err-any-clause-ok g c =
    let told = err_from_is_err_and c.from_residual.result c.from_residual.ensures.1 in
    rw told.1 tt

pub returns-in_err-any-clause-same : goal.returns-in_err-any-clause-same
returns-in_err-any-clause-same g c =
    let told = err_from_is_err_and c.from_residual.result c.from_residual.ensures.1 in
    rw told.1 tt

pub returns-in_err-any-clause-further : goal.returns-in_err-any-clause-further
returns-in_err-any-clause-further g c =
    let told = err_from_is_err_and c.from_residual.result c.from_residual.ensures.1 in
    rw told.1 tt

pub returns-in_err-any-clause-told : goal.returns-in_err-any-clause-told
returns-in_err-any-clause-told g c =
    let told = err_from_is_err_and c.from_residual.result c.from_residual.ensures.1 in
    rw told.1 tt

pub returns-in_err-any-clause-once : goal.returns-in_err-any-clause-once
returns-in_err-any-clause-once g c =
    let told = err_from_is_err_and c.from_residual.result c.from_residual.ensures.1 in
    rw told.1 tt

pub returns-in_err-any-clause-each : goal.returns-in_err-any-clause-each
returns-in_err-any-clause-each g c =
    let told = err_from_is_err_and c.from_residual.result c.from_residual.ensures.1 in
    rw told.1 tt

pub returns-in_err-any-clause-had : goal.returns-in_err-any-clause-had
returns-in_err-any-clause-had g c =
    let told = err_from_is_err_and c.from_residual.result c.from_residual.ensures.1 in
    rw told.1 tt

pub returns-in_err-any-clause-idle : goal.returns-in_err-any-clause-idle
returns-in_err-any-clause-idle g c =
    let told = err_from_is_err_and c.from_residual.result c.from_residual.ensures.1 in
    rw told.1 tt
