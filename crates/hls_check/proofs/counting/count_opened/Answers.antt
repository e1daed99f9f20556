use Rattle.std.proofs.Common.{◌∙◌, [], length, ap, arith, sym, subst, inl, rules}
use Rattle.std.proofs.lemmas.Option.{MatchOption-at_some}
use Rattle.hls_check.specs.Unpacking.{BeginsWithHead}
use Rattle.hls_check.proofs.Wanting.{memory-told}
use Rattle.media_reading.proofs.Found.{MatchOption-none}
use Rattle.hls_check.proofs.TheHead.{begins-long}
use Rattle.hls_check.proofs.Counted.{past, headless-here, counted-here}
use Rattle.hls_check.proofs.counting.count_opened.Goals as goal

pub returns-in_default-clause-err : goal.returns-in_default-clause-err
returns-in_default-clause-err c = inl (record {
  entry = c.loop-i-test.true;
  without = MatchOption-none _ _ _ c.in_default.not-Some c.in_ok-text.ensures.found;
  before = λ j lt. (_, (c.loop-i.invariant.opens j lt).seals);
})

pub loop-i-preserved-then-is_some : goal.loop-i-preserved-then-is_some
loop-i-preserved-then-is_some c =
    past _ _ _ c.in-Some.text.items (MatchOption-at_some _ _ _ c.in-Some.is c.in_ok-text.ensures.found) c.loop-i.headless (sym c.is_some.ensures ∙ c.if-is_some.true) c.loop-i.invariant

pub loop-i-preserved-in_default-2 : goal.loop-i-preserved-in_default-2
loop-i-preserved-in_default-2 c =
    let without = subst (λ t. (rest : _) → ¬ BeginsWithHead t rest) c.deref.ensures.value (MatchOption-none _ _ _ c.in_default-2.not-Some c.in_ok-rest.ensures.found) in
    headless-here _ _ _ c.in-Some.text.items (MatchOption-at_some _ _ _ c.in-Some.is c.in_ok-text.ensures.found) c.loop-i.headless (sym c.is_some.ensures ∙ c.if-is_some.false) without c.loop-i.invariant

pub loop-i-preserved : goal.loop-i-preserved
loop-i-preserved c =
    let begins = subst (λ t. BeginsWithHead t c.in-Some-2.rest.now) c.deref.ensures.value (MatchOption-at_some _ _ _ c.in-Some-2.is c.in_ok-rest.ensures.found) in
    counted-here _ _ _ c.in-Some.text.items (MatchOption-at_some _ _ _ c.in-Some.is c.in_ok-text.ensures.found) c.loop-i.headless c.in-Some-2.rest.now _ (sym c.is_some.ensures ∙ c.if-is_some.false) begins (search rules)
    c.loop-i.invariant

pub returns-in_err-text-clause-err : goal.returns-in_err-text-clause-err
returns-in_err-text-clause-err c = memory-told c.from_residual.result _ c.from_residual.ensures.1 (inl (record {
  place = c.loop-i.i;
  entry = c.loop-i-test.true;
  opens = c.in_err-text.ensures.memory;
  before = λ j lt. (_, (c.loop-i.invariant.opens j lt).seals);
}))

pub returns-in_err-rest-clause-err : goal.returns-in_err-rest-clause-err
returns-in_err-rest-clause-err c = memory-told c.from_residual-in_err-rest.result _ c.from_residual-in_err-rest.ensures.1 (inl (record {
  place = c.loop-i.i;
  entry = c.loop-i-test.true;
  opens = (_, (MatchOption-at_some _ _ _ c.in-Some.is c.in_ok-text.ensures.found).seals);
  before = λ j lt. (_, (c.loop-i.invariant.opens j lt).seals);
}))

pub returns-in_default-checked_add-clause-err : goal.returns-in_default-checked_add-clause-err
returns-in_default-checked_add-clause-err c = inl (record {
  place = c.loop-i.i;
  entry = c.loop-i-test.true;
  opens = (_, (MatchOption-at_some _ _ _ c.in-Some.is c.in_ok-text.ensures.found).seals);
  before = λ j lt. (_, (c.loop-i.invariant.opens j lt).seals);
})

pub returns-in_err-text-clause-scarce : goal.returns-in_err-text-clause-scarce
returns-in_err-text-clause-scarce c = λ _. record {
  place = c.loop-i.i;
  entry = c.loop-i-test.true;
  opens = c.in_err-text.ensures.memory;
  some = c.in_err-text.ensures.some;
  before = λ j lt. (_, (c.loop-i.invariant.opens j lt).seals);
}

pub returns-in_err-rest-clause-scarce : goal.returns-in_err-rest-clause-scarce
returns-in_err-rest-clause-scarce c = λ _.
    let opened = MatchOption-at_some _ _ _ c.in-Some.is c.in_ok-text.ensures.found in
    record {
      place = c.loop-i.i;
      entry = c.loop-i-test.true;
      opens = (_, opened.seals);
      some = λ none. absurd (omega (arith, ap length (opened.only [] none), ap length c.deref.ensures.value, c.in_err-rest.ensures.memory.0));
      before = λ j lt. (_, (c.loop-i.invariant.opens j lt).seals);
    }

pub returns-in_default-checked_add-clause-scarce : goal.returns-in_default-checked_add-clause-scarce
returns-in_default-checked_add-clause-scarce c = λ _.
    let opened = MatchOption-at_some _ _ _ c.in-Some.is c.in_ok-text.ensures.found in
    let long = begins-long _ c.in-Some-2.rest.now (MatchOption-at_some _ _ _ c.in-Some-2.is c.in_ok-rest.ensures.found) in
    record {
      place = c.loop-i.i;
      entry = c.loop-i-test.true;
      opens = (_, opened.seals);
      some = λ none. absurd (omega (arith, ap length (opened.only [] none), ap length c.deref.ensures.value, long));
      before = λ j lt. (_, (c.loop-i.invariant.opens j lt).seals);
    }
