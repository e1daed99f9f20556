use Rattle.std.proofs.Common.{inl, inr}
use Rattle.std.proofs.lemmas.Result.{err_from_is_err_and}
use Rattle.channel_folder.proofs.texts.read_both.Goals as goal

pub returns-in_err-first-clause-shut : goal.returns-in_err-first-clause-shut
returns-in_err-first-clause-shut g c =
    let told = err_from_is_err_and c.from_residual.result c.from_residual.ensures.1 in
    rw (told.1, told.2) (λ is. inl (c.in_err-first.ensures.shut is))

pub returns-in_err-second-clause-shut : goal.returns-in_err-second-clause-shut
returns-in_err-second-clause-shut g c =
    let told = err_from_is_err_and c.from_residual-in_err-second.result c.from_residual-in_err-second.ensures.1 in
    rw (told.1, told.2) (λ is. inr (_, c.in_ok-first.ensures.found, c.in_err-second.ensures.shut is))
