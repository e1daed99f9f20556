use Rattle.std.proofs.Common.{sym, subst}
use Rattle.std.proofs.lemmas.Result.{err_from_is_err_and}
use Rattle.hls_check.specs.Unpacking.{IsTold}
use Rattle.hls_check.proofs.checking.check_listing.Goals as goal

pub returns-in_err-bytes-clause-err : goal.returns-in_err-bytes-clause-err
returns-in_err-bytes-clause-err c =
    let told = err_from_is_err_and c.from_residual.result c.from_residual.ensures.1 in
    rw told.1 (rw (sym c.listing.view_is) (rw (sym c.deref.ensures.value) (subst (IsTold _) (sym told.2) c.in_err-bytes.ensures.err)))

pub returns-in_err-bytes-clause-scarce : goal.returns-in_err-bytes-clause-scarce
returns-in_err-bytes-clause-scarce c = λ is.
    let told = err_from_is_err_and c.from_residual.result c.from_residual.ensures.1 in
    rw (sym c.listing.view_is) (rw (sym c.deref.ensures.value) (c.in_err-bytes.ensures.scarce (cc (is, told.1, told.2))))
