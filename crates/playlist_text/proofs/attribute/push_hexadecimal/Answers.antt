use Rattle.std.proofs.Common.{refl}
use Rattle.std.proofs.lemmas.Result.{err_from_is_err_and}
use Rattle.playlist_text.specs.Attributes.{hexadecimal}
use Rattle.playlist_text.proofs.Appending.{last-or-none, on-err, part-none, part-then}
use Rattle.playlist_text.proofs.attribute.push_hexadecimal.Goals as goal

pub returns-in_err-digits-clause-part : goal.returns-in_err-digits-clause-part
returns-in_err-digits-clause-part c =
    let told = err_from_is_err_and c.from_residual.result c.from_residual.ensures.1 in
    rw told.1 (part-none _ _ _ refl)

pub returns-in_err-push_str-clause-part : goal.returns-in_err-push_str-clause-part
returns-in_err-push_str-clause-part c =
    let told = err_from_is_err_and c.from_residual-in_err-push_str.result c.from_residual-in_err-push_str.ensures.1 in
    rw told.1 (part-none _ _ _ c.in_err-push_str.ensures.bytes)

pub returns-clause-part : goal.returns-clause-part
unfolding hexadecimal
returns-clause-part c = on-err c.push_str-2.result (last-or-none c.push_str-2.result _ _ _ _ c.push_str-2.ensures.bytes) (λ p. part-then _ _ _ _ _ c.in_ok-push_str.ensures.bytes p)
