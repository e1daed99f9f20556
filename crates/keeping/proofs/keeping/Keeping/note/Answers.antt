use Rattle.std.proofs.Common.{arith, rules, ◌⊎◌, ◌^◌, inl, inr, ◌≡◌, ℕ, ◌<◌, ◌≤◌, [], ◌∷◌, ◌++◌, length, sym, subst}
use Rattle.retention.specs.Steps.{first_of}
use Rattle.retention.proofs.Stepping.{AreSteps-more, MayGo-append}
use Rattle.keeping.specs.State.{IsTied}
use Rattle.std.proofs.lemmas.Result.{err_from_is_err_and}
use Rattle.keeping.proofs.Noting.{no_next, same_fault}
use Rattle.keeping.proofs.keeping.Keeping.note.Goals as goal
use Rattle.keeping.proofs.keeping.Keeping.note.Goals.{then-step-first_listed-via-then-step-first_listed, then-step-first_listed-via-else-step-first_listed+then-step-count, then-step-first_listed-via-else-step-first_listed+else-step-count+then-count}

pub returns-in_err-step-clause-refused : goal.returns-in_err-step-clause-refused
returns-in_err-step-clause-refused c =
    let p = err_from_is_err_and c.from_residual.result c.from_residual.ensures.1 in
    rw (p.1, p.2, sym c.self.view_is) (λ is next. c.in_err-step.ensures.refused (same_fault _ _ is) next.step next.is_step)

pub invariant_of-self-2 : goal.invariant_of-self-2
invariant_of-self-2 c =
    let kept = c.self.inside.kept in
    let step = c.in_ok-step.step in
    let is : c.push.new.self ≡ record kept { steps = kept.steps ++ step ∷ [] } = c.in_ok-push.ensures.ok in
    let listed : step.first ≤ length kept.steps = search rules in
    let low : c.first_listed.result ≤ step.first = search rules in
    let rises : (i : ℕ) → i < length kept.steps → first_of kept.steps i ≤ step.first = λ i within. omega (arith, c.first_listed.ensures.rises i within, low) in
    subst (λ k. IsTied (record { name = c.self.inside.name; base = c.self.inside.base; gone = c.self.inside.gone; kept = k; before = c.self.inside.before; older = c.self.inside.older; swept = c.self.inside.swept })) (sym is)
    (record {
      are = AreSteps-more kept.steps step c.self.invariant.are listed rises;
      may_go = λ n lower. MayGo-append kept.least kept.steps (step ∷ []) n c.self.invariant.are (c.self.invariant.may_go n lower);
      swept = c.self.invariant.swept;
      earlier = c.self.invariant.earlier;
    })

pub returns-then-step-first_listed-clause-refused : goal.returns-then-step-first_listed-clause-refused
returns-then-step-first_listed-clause-refused c _ next =
    let steps = c.args.self.now.kept.steps in
    let step = c.in_ok-step.step in
    let count : c.count-count.result ≡ length steps = rw (sym c.self.view_is) c.count-count.ensures in
    let why : (step.first < c.first_listed.result) ⊎ (length steps < step.first) ⊎ (2 ^ 52 ≤ length steps) =
    elim c.then-step-first_listed.branch [
      | then-step-first_listed-via-then-step-first_listed w ↦ inl w.if-step-first_listed.true
      | then-step-first_listed-via-else-step-first_listed+then-step-count w ↦ inr (inl (omega (arith, count, w.if-step-count.true)))
      | then-step-first_listed-via-else-step-first_listed+else-step-count+then-count w ↦ inr (inr (omega (arith, count, w.if-count.true)))
    ] in
    no_next c.args.self.now c.args.text.now step c.first_listed.result (rw (sym c.self.view_is) c.in_ok-step.ensures.one) (rw (sym c.self.view_is) c.first_listed.ensures.is) why next

pub returns-in_err-step-clause-scarce : goal.returns-in_err-step-clause-scarce
returns-in_err-step-clause-scarce c =
    let p = err_from_is_err_and c.from_residual.result c.from_residual.ensures.1 in
    rw (p.1, p.2) (λ is. inl (c.in_err-step.ensures.scarce (same_fault _ _ is)))
