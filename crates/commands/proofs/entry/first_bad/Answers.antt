use Rattle.std.proofs.Common.{[], arith, map}
use Rattle.std.proofs.lemmas.List.{length-map}
use Rattle.commands.specs.Entries.{IsGood}
use Rattle.commands.proofs.TextFacts.{there, one-further}
use Rattle.commands.proofs.entry.first_bad.Goals as goal

pub returns-then-not-is_good-clause-some : goal.returns-then-not-is_good-clause-some
returns-then-not-is_good-clause-some c = record {
  within = omega (arith, length-map c.args.texts.now (λ t. t.now), c.loop-place-test.true);
  before = λ k below. c.loop-place.invariant k [] below;
  bad = there (λ text. ¬ IsGood text) c.args.texts.now c.loop-place.place _ [] c.loop-place-test.true (λ good. cc (c.is_good.ensures.1 good, c.if-not-is_good.true));
}

pub returns-clause-none : goal.returns-clause-none
returns-clause-none c = λ none k d below. c.loop-place.invariant k d (omega (arith, below, length-map c.args.texts.now (λ t. t.now), c.loop-place-test.false))

pub loop-place-preserved : goal.loop-place-preserved
loop-place-preserved c = one-further IsGood (map (λ t. t.now) c.args.texts.now) c.loop-place.place c.loop-place.invariant
    (λ d. there IsGood c.args.texts.now c.loop-place.place _ d c.loop-place-test.true (c.is_good.ensures.0 c.if-not-is_good.false))
