use Rattle.std.proofs.Common.{length, arith, ap}
use Rattle.std.proofs.lemmas.Result.{err_from_is_err_and}
use Rattle.psi_tables.proofs.gather.copied.Goals as goal

pub returns-in_err-extend_from_slice-clause-some : goal.returns-in_err-extend_from_slice-clause-some
returns-in_err-extend_from_slice-clause-some c =
    let told = err_from_is_err_and c.from_residual.result c.from_residual.ensures.1 in
    rw told.1 (λ none. omega (arith, c.in_err-extend_from_slice.ensures.full, c.new-copy.result.ok.1, ap length none))
