use Rattle.std.proofs.lemmas.Result.{err_from_is_err_and}
use Rattle.playlist_text.specs.Numbers.{seconds}
use Rattle.playlist_text.proofs.Appending.{on-err, part-front, part-none, part-then}
use Rattle.playlist_text.proofs.number.push_seconds.Goals as goal

pub returns-in_err-push_decimal-clause-part : goal.returns-in_err-push_decimal-clause-part
unfolding seconds
returns-in_err-push_decimal-clause-part c =
    let told = err_from_is_err_and c.from_residual.result c.from_residual.ensures.1 in
    rw told.1 (part-front _ _ _ _ c.in_err-push_decimal.ensures.part)

pub returns-in_err-push-clause-part : goal.returns-in_err-push-clause-part
unfolding seconds
returns-in_err-push-clause-part c =
    let told = err_from_is_err_and c.from_residual-in_err-push.result c.from_residual-in_err-push.ensures.1 in
    rw told.1 (part-then _ _ _ _ _ c.in_ok-push_decimal.ensures.ok (part-none _ _ _ c.in_err-push.ensures.bytes))

pub returns-clause-part : goal.returns-clause-part
unfolding seconds lib.Utf8.encode
returns-clause-part c = on-err c.push_six_digits.result c.push_six_digits.ensures.part (λ p. part-then _ _ _ _ _ c.in_ok-push_decimal.ensures.ok (part-then _ _ _ _ _ c.in_ok-push.ensures.bytes p))
