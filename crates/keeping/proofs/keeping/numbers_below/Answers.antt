use Rattle.std.proofs.Common.{arith, get_or}
use Rattle.std.proofs.lemmas.Result.{err_from_is_err_and}
use Rattle.std.proofs.lemmas.List.{get_or_default}
use Rattle.keeping.proofs.keeping.numbers_below.Goals as goal

pub returns-in_err-push : goal.returns-in_err-push
returns-in_err-push c =
    let xs = c.args.numbers.now in
    let i = c.loop-number.number-index in
    let told = err_from_is_err_and c.from_residual.result c.from_residual.ensures.1 in
    rw told.1 (i, get_or xs i 0, c.loop-number-test.true, get_or_default xs i _ _ c.loop-number-test.true, omega (arith, c.if-number-base.true))
