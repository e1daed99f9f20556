use Rattle.std.proofs.Common.{◌∙◌, ◌++◌, map, get_or, [], ◌∷◌, sym, ap, arith, append-nil, subst, length-append}
use Rattle.std.specs.List.{concat}
use Rattle.std.proofs.lemmas.List.{length-map}
use Rattle.std.proofs.lemmas.List.Folds.{concat-append}
use Rattle.std.proofs.lemmas.Option.{MatchOption-at_some}
use Rattle.hls_check.specs.Heads.{MayHoldHead}
use Rattle.hls_check.specs.Unpacking.{BeginsWithHead}
use Rattle.hls_check.proofs.Growing.{each-more, items_at}
use Rattle.hls_check.proofs.TheHead.{begins-holds}
use Rattle.hls_check.proofs.Wanting.{memory-told}
use Rattle.media_reading.proofs.Found.{MatchOption-none}
use Rattle.hls_check.proofs.unpacking.join_rests.Goals as goal

pub returns-in_default-clause-err : goal.returns-in_default-clause-err
returns-in_default-clause-err c =
    let none = MatchOption-none _ _ _ c.in_default.not-Some c.in_ok-rest.ensures.found in
    let text = c.deref.ensures.value ∙ items_at c.args.texts.now c.index-texts-i.result c.loop-i.i c.loop-i-test.true c.index-texts-i.is in
    record {
      text = omega (arith, c.loop-i-test.true, length-map c.args.texts.now (λ t. t.items));
      without = λ rest begins. none rest (subst (λ t. BeginsWithHead t rest) (sym text) begins);
      before = λ j lt. (get_or c.loop-i.invariant.rests j [], c.loop-i.invariant.begins j lt);
    }

pub loop-i-preserved : goal.loop-i-preserved
loop-i-preserved c =
    let texts = map (λ t. t.items) c.args.texts.now in
    let held = c.loop-i.invariant in
    let rest = c.in-Some.rest.now in
    let text = c.deref.ensures.value ∙ items_at c.args.texts.now c.index-texts-i.result c.loop-i.i c.loop-i-test.true c.index-texts-i.is in
    let begins = subst (λ t. BeginsWithHead t rest) text (MatchOption-at_some _ _ _ c.in-Some.is c.in_ok-rest.ensures.found) in
    record {
      rests = held.rests ++ rest ∷ [];
      each_one = omega (arith, length-append held.rests (rest ∷ []), held.each_one);
      begins = each-more (λ j r. BeginsWithHead (get_or texts j []) r) held.rests rest c.loop-i.i held.each_one held.begins begins;
      joined =
          c.in_ok-extend_from_slice.ensures.items ∙ ap (λ x. x ++ rest) held.joined ∙ ap (λ x. concat held.rests ++ x) (sym (append-nil rest))
          ∙ sym (concat-append held.rests (rest ∷ []));
    }

pub returns-in_err-rest-clause-err : goal.returns-in_err-rest-clause-err
returns-in_err-rest-clause-err c =
    let text = c.deref.ensures.value ∙ items_at c.args.texts.now c.index-texts-i.result c.loop-i.i c.loop-i-test.true c.index-texts-i.is in
    memory-told c.from_residual.result _ c.from_residual.ensures.1 (record {
      place = c.loop-i.i;
      text = omega (arith, c.loop-i-test.true, length-map c.args.texts.now (λ t. t.items));
      holds = subst MayHoldHead text c.in_err-rest.ensures.memory;
      before = λ j lt. (get_or c.loop-i.invariant.rests j [], c.loop-i.invariant.begins j lt);
    })

pub returns-in_err-extend_from_slice-clause-err : goal.returns-in_err-extend_from_slice-clause-err
returns-in_err-extend_from_slice-clause-err c =
    let text = c.deref.ensures.value ∙ items_at c.args.texts.now c.index-texts-i.result c.loop-i.i c.loop-i-test.true c.index-texts-i.is in
    let holds = begins-holds _ c.in-Some.rest.now (MatchOption-at_some _ _ _ c.in-Some.is c.in_ok-rest.ensures.found) in
    memory-told c.from_residual-in_err-extend_from_slice.result _ c.from_residual-in_err-extend_from_slice.ensures.1 (record {
      place = c.loop-i.i;
      text = omega (arith, c.loop-i-test.true, length-map c.args.texts.now (λ t. t.items));
      holds = subst MayHoldHead text holds;
      before = λ j lt. (get_or c.loop-i.invariant.rests j [], c.loop-i.invariant.begins j lt);
    })
