use Rattle.std.proofs.lemmas.Result.{err_from_is_err_and}
use Rattle.playlist_text.specs.Attributes.{resolution}
use Rattle.playlist_text.proofs.TextLines.{append_then}
use Rattle.playlist_text.proofs.Appending.{on-err, part-front, part-none, part-then}
use Rattle.playlist_text.proofs.attribute.push_resolution.Goals as goal

pub returns-in_err-push_decimal-clause-part : goal.returns-in_err-push_decimal-clause-part
unfolding resolution
returns-in_err-push_decimal-clause-part c =
    let told = err_from_is_err_and c.from_residual.result c.from_residual.ensures.1 in
    rw told.1 (part-front _ _ _ _ (part-front _ _ _ _ (rw c.from.ensures at c.in_err-push_decimal.ensures.part)))

pub returns-in_err-push_str-clause-part : goal.returns-in_err-push_str-clause-part
unfolding resolution
returns-in_err-push_str-clause-part c =
    let told = err_from_is_err_and c.from_residual-in_err-push_str.result c.from_residual-in_err-push_str.ensures.1 in
    rw told.1 (part-front _ _ _ _ (part-then _ _ _ _ _ (rw c.from.ensures at c.in_ok-push_decimal.ensures.ok) (part-none _ _ _ c.in_err-push_str.ensures.bytes)))

pub returns-clause-part : goal.returns-clause-part
unfolding resolution
returns-clause-part c = on-err c.push_decimal-2.result c.push_decimal-2.ensures.part (λ p. part-then _ _ _ _ _ (append_then _ _ _ _ _ (rw c.from.ensures at c.in_ok-push_decimal.ensures.ok) c.in_ok-push_str.ensures.bytes) (rw c.from-2.ensures at p))
