use Rattle.std.proofs.lemmas.Result.{err_from_is_err_and}
use Rattle.ladder_items.proofs.Puts.{fewer-none, grows-none}
use Rattle.ladder_items.proofs.put.put_bytes.Goals as goal

pub returns-in_err-clone-clause-left : goal.returns-in_err-clone-clause-left
returns-in_err-clone-clause-left g c =
    let told = err_from_is_err_and c.from_residual.result c.from_residual.ensures.1 in
    rw told.1 (fewer-none _ c.args.outlet.now c.args.outlet.now _ _ (grows-none _))
