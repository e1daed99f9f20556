use Rattle.std.proofs.Common.{is_ok, ap, inl, inr}
use Rattle.std.proofs.lemmas.Bool.{cases_Bool, false≢true}
use Rattle.std.proofs.lemmas.Result.{err_from_is_err_and}
use Rattle.cutter.proofs.cutter.Cutter.push.Goals as goal

pub returns-in_err-closed-clause-memory : goal.returns-in_err-closed-clause-memory
returns-in_err-closed-clause-memory c =
    let told = err_from_is_err_and c.from_residual.result c.from_residual.ensures.1 in
    rw (told.1, told.2, ← c.self.view_is, ← (c.self.invariant c.if-self.false).list) c.in_err-closed.ensures.memory

pub returns-in_err-plan-clause-memory : goal.returns-in_err-plan-clause-memory
returns-in_err-plan-clause-memory c =
    let told = err_from_is_err_and c.from_residual-in_err-plan.result c.from_residual-in_err-plan.ensures.1 in
    rw (told.1, told.2, ← c.self.view_is, ← (c.self.invariant c.if-self.false).list) (λ _. inl (elim (cases_Bool c.in_ok-closed.closed) [
      | inl closed ↦ c.in_ok-closed.ensures.accepted closed
      | inr not_closed ↦ absurd (false≢true (ap is_ok (c.in_err-plan.ensures.none not_closed)))
    ]))

pub returns-in_err-closed-clause-body : goal.returns-in_err-closed-clause-body
returns-in_err-closed-clause-body c =
    let told = err_from_is_err_and c.from_residual.result c.from_residual.ensures.1 in
    rw (told.1, told.2, ← c.self.view_is, ← (c.self.invariant c.if-self.false).list) c.in_err-closed.ensures.body

pub returns-in_err-plan-clause-body : goal.returns-in_err-plan-clause-body
returns-in_err-plan-clause-body c =
    let told = err_from_is_err_and c.from_residual-in_err-plan.result c.from_residual-in_err-plan.ensures.1 in
    rw (told.1, told.2, ← c.self.view_is, ← (c.self.invariant c.if-self.false).list) (λ _. inl (elim (cases_Bool c.in_ok-closed.closed) [
      | inl closed ↦ c.in_ok-closed.ensures.next closed
      | inr not_closed ↦ absurd (false≢true (ap is_ok (c.in_err-plan.ensures.none not_closed)))
    ]))

pub returns-clause-accepted : goal.returns-clause-accepted
returns-clause-accepted c = λ some.
    rw (← c.self.view_is, ← (c.self.invariant c.if-self.false).list) (elim (cases_Bool c.in_ok-closed.closed) [
      | inl closed ↦ c.in_ok-closed.ensures.accepted closed
      | inr not_closed ↦ absurd (some (let is = c.in_ok-plan.ensures.none not_closed in cc))
    ])

pub returns-clause-next : goal.returns-clause-next
returns-clause-next c = λ some.
    rw (← c.self.view_is, ← (c.self.invariant c.if-self.false).list) (elim (cases_Bool c.in_ok-closed.closed) [
      | inl closed ↦ c.in_ok-closed.ensures.next closed
      | inr not_closed ↦ absurd (some (let is = c.in_ok-plan.ensures.none not_closed in cc))
    ])
