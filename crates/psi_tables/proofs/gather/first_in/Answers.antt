use Rattle.std.proofs.Common.{sym, ◌∙◌, inl, inr}
use Rattle.std.proofs.lemmas.Result.{err_from_is_err_and}
use Rattle.psi_tables.proofs.gather.first_in.Goals as goal

pub returns-in_err-from_slice-clause-some : goal.returns-in_err-from_slice-clause-some
returns-in_err-from_slice-clause-some c =
    let told = err_from_is_err_and c.from_residual.result c.from_residual.ensures.1 in
    rw told.1 (inl (sym c.is_whole.ensures ∙ c.if-is_whole.true))

pub returns-in_err-push-clause-some : goal.returns-in_err-push-clause-some
returns-in_err-push-clause-some c =
    let told = err_from_is_err_and c.from_residual-in_err-push.result c.from_residual-in_err-push.ensures.1 in
    rw told.1 (inl (sym c.is_whole.ensures ∙ c.if-is_whole.true))

pub returns-in_err-copied-clause-some : goal.returns-in_err-copied-clause-some
returns-in_err-copied-clause-some c =
    let told = err_from_is_err_and c.from_residual-in_err-copied.result c.from_residual-in_err-copied.ensures.1 in
    rw told.1 (inr (λ none. c.in_err-copied.ensures.some (c.open_front.ensures ∙ none)))
