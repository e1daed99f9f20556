use Rattle.std.proofs.Common.{length, arith, ap, inl, inr}
use Rattle.std.proofs.lemmas.Result.{err_from_is_err_and}
use Rattle.psi_tables.proofs.assembler.Assembler.push.Goals as goal

pub returns-in_err-append-clause-carried : goal.returns-in_err-append-clause-carried
returns-in_err-append-clause-carried c =
    let told = err_from_is_err_and c.from_residual-in_err-append.result c.from_residual-in_err-append.ensures.1 in
    rw told.1 (elim c.in_ok-next.ensures.some [
      | inl none ↦ absurd (omega (arith, c.in_err-append.ensures.full, c.in_ok-next.next.found.ok.0, c.args.out.now.ok.1, ap length none))
      | inr carried ↦ carried
    ])

pub returns-in_err-append-clause-idle : goal.returns-in_err-append-clause-idle
returns-in_err-append-clause-idle c =
    let told = err_from_is_err_and c.from_residual-in_err-append.result c.from_residual-in_err-append.ensures.1 in
    rw told.1 (elim c.in_ok-next.ensures.none [
      | inl none ↦ absurd (omega (arith, c.in_err-append.ensures.full, c.in_ok-next.next.found.ok.0, c.args.out.now.ok.1, ap length none))
      | inr brings ↦ brings
    ])
