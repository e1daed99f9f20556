use Rattle.std.proofs.Common.{sym}
use Rattle.std.proofs.lemmas.Result.{err_from_is_err_and}
use Rattle.keeping.proofs.Noting.{no_earlier, same_fault}
use Rattle.keeping.proofs.keeping.Keeping.check.Goals as goal

pub returns-in_err-step-clause-refused : goal.returns-in_err-step-clause-refused
returns-in_err-step-clause-refused c =
    let p = err_from_is_err_and c.from_residual.result c.from_residual.ensures.1 in
    rw (p.1, p.2, sym c.self.view_is) (λ is on. c.in_err-step.ensures.refused (same_fault _ _ is) on.step on.is_step)

pub returns-then-step-first_listed-clause-refused : goal.returns-then-step-first_listed-clause-refused
returns-then-step-first_listed-clause-refused c _ on =
    no_earlier c.args.self.now c.args.text.now c.in_ok-step.step c.first_listed.result (rw (sym c.self.view_is) c.in_ok-step.ensures.one) (rw (sym c.self.view_is) c.first_listed.ensures.is) c.if-step-first_listed.true on

pub returns-in_err-step-clause-scarce : goal.returns-in_err-step-clause-scarce
returns-in_err-step-clause-scarce c =
    let p = err_from_is_err_and c.from_residual.result c.from_residual.ensures.1 in
    rw (p.1, p.2) (λ is. c.in_err-step.ensures.scarce (same_fault _ _ is))
