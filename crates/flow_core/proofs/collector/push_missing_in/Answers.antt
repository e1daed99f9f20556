use Rattle.std.proofs.Common.{◌≡◌, ◌+◌, ◌++◌, List, [], ◌∷◌, drop, refl, sym, ap, ◌∙◌}
use Rattle.std.proofs.lemmas.List.{append-nil, append_assoc, at_drop_more, at_drop_all}
use Rattle.flow_core.specs.Slots.{lacking}
use Rattle.flow_core.specs.Gatherings.{missing_in}
use Rattle.flow_core.proofs.collector.push_missing_in.Goals as goal

-- what is joined to no elements is none
none-behind : {X : Type 0} → (xs ys : List X) → xs ++ ys ≡ [] → ys ≡ []
none-behind [] ys h = h
none-behind (x ∷ xs) ys h = cc

pub loop-sequence-init : goal.loop-sequence-init
loop-sequence-init c = record {
  all = refl;
  front = ([], sym (append-nil c.args.plans.now.items));
  none = λ h. h;
}

pub loop-sequence-preserved : goal.loop-sequence-preserved
loop-sequence-preserved c =
    let i = c.loop-sequence.sequence-index in
    let here = c.sequence-item.result in
    let lacks = lacking here.slots in
    let behind = drop (i + 1) c.args.sequences.now in
    let before = c.loop-sequence.plans.items in
    let pushed = c.in_ok-push_missing.ensures.all in
    let step : missing_in (drop i c.args.sequences.now) ≡ lacks ++ missing_in behind
    = at_drop_more missing_in c.args.sequences.now i here c.loop-sequence-test.true ∙ ap (λ s. missing_in (s ∷ behind)) (sym c.sequence-item.is) in
    record {
      all = ap (λ p. p ++ missing_in behind) pushed ∙ append_assoc before lacks (missing_in behind) ∙ ap (λ p. before ++ p) (sym step) ∙ c.loop-sequence.invariant.all;
      front = (
        c.loop-sequence.invariant.front.0 ++ lacks,
        pushed ∙ ap (λ p. p ++ lacks) c.loop-sequence.invariant.front.1 ∙ append_assoc c.args.plans.now.items c.loop-sequence.invariant.front.0 lacks,
      );
      none = λ h. none-behind lacks (missing_in behind) (sym step ∙ c.loop-sequence.invariant.none h);
    }

pub returns-clause-all : goal.returns-clause-all
returns-clause-all c =
    let none = at_drop_all missing_in c.args.sequences.now c.loop-sequence.sequence-index c.loop-sequence-test.false in
    sym (append-nil c.loop-sequence.plans.items) ∙ ap (λ p. c.loop-sequence.plans.items ++ p) (sym none) ∙ c.loop-sequence.invariant.all

pub returns-clause-front : goal.returns-clause-front
returns-clause-front c = c.loop-sequence.invariant.front

pub returns-clause-none : goal.returns-clause-none
returns-clause-none c = λ h. refl
