use Rattle.std.proofs.lemmas.Result.{err_from_is_err_and}
use Rattle.playlist_text.specs.Attributes.{quoted}
use Rattle.playlist_text.proofs.Appending.{last-or-none, on-err, part-none, part-then}
use Rattle.playlist_text.proofs.attribute.push_quoted.Goals as goal

pub returns-in_err-push_str-clause-part : goal.returns-in_err-push_str-clause-part
unfolding quoted
returns-in_err-push_str-clause-part c =
    let told = err_from_is_err_and c.from_residual.result c.from_residual.ensures.1 in
    rw told.1 (part-none _ _ _ c.in_err-push_str.ensures.bytes)

pub returns-in_err-push_str-2-clause-part : goal.returns-in_err-push_str-2-clause-part
unfolding quoted
returns-in_err-push_str-2-clause-part c =
    let told = err_from_is_err_and c.from_residual-in_err-push_str-2.result c.from_residual-in_err-push_str-2.ensures.1 in
    rw told.1 (part-then _ _ _ _ _ c.in_ok-push_str.ensures.bytes (part-none _ _ _ c.in_err-push_str-2.ensures.bytes))

pub returns-clause-part : goal.returns-clause-part
unfolding quoted
returns-clause-part c = on-err c.push_str-3.result (last-or-none c.push_str-3.result _ _ _ _ c.push_str-3.ensures.bytes) (λ p. part-then _ _ _ _ _ c.in_ok-push_str.ensures.bytes (part-then _ _ _ _ _ c.in_ok-push_str-2.ensures.bytes p))
