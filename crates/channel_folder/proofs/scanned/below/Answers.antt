use Rattle.std.proofs.Common.{arith, get_or}
use Rattle.std.proofs.lemmas.Result.{err_from_is_err_and}
use Rattle.std.proofs.lemmas.List.{get_or_default}
use Rattle.channel_folder.proofs.scanned.below.Goals as goal

pub returns-in_err-push : goal.returns-in_err-push
returns-in_err-push c =
    let xs = c.args.numbers.now in
    let i = c.loop-n.n-index in
    let told = err_from_is_err_and c.from_residual.result c.from_residual.ensures.1 in
    rw told.1 (i, get_or xs i 0, c.loop-n-test.true, get_or_default xs i _ _ c.loop-n-test.true, omega (arith, c.if-n-base.false))
