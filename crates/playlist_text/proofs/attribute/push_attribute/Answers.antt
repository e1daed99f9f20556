use Rattle.std.proofs.lemmas.Result.{err_from_is_err_and}
use Rattle.playlist_text.proofs.TextLines.{append_then}
use Rattle.playlist_text.proofs.Appending.{on-err, part-front, part-none, part-then}
use Rattle.playlist_text.proofs.attribute.push_attribute.Goals as goal

pub returns-in_err-push_str-clause-part : goal.returns-in_err-push_str-clause-part
returns-in_err-push_str-clause-part c =
    let told = err_from_is_err_and c.from_residual.result c.from_residual.ensures.1 in
    rw told.1 (part-none _ _ _ c.in_err-push_str.ensures.bytes)

pub returns-in_err-push_str-2-clause-part : goal.returns-in_err-push_str-2-clause-part
returns-in_err-push_str-2-clause-part c =
    let told = err_from_is_err_and c.from_residual-in_err-push_str-2.result c.from_residual-in_err-push_str-2.ensures.1 in
    rw told.1 (part-front _ _ _ _ (part-then _ _ _ _ _ c.in_ok-push_str.ensures.bytes (part-none _ _ _ c.in_err-push_str-2.ensures.bytes)))

pub returns-clause-part : goal.returns-clause-part
returns-clause-part c = on-err c.push_value.result c.push_value.ensures.part (λ p. part-then _ _ _ _ _ (append_then _ _ _ _ _ c.in_ok-push_str.ensures.bytes c.in_ok-push_str-2.ensures.bytes) p)
