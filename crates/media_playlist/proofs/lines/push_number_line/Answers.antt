use Rattle.std.proofs.lemmas.Result.{err_from_is_err_and}
use Rattle.playlist_text.proofs.Appending.{line-front, line-then, on-err, part-none, part-then}
use Rattle.playlist_text.proofs.TextLines.{append_then}
use Rattle.media_playlist.proofs.lines.push_number_line.Goals as goal

pub returns-in_err-push_str-clause-part : goal.returns-in_err-push_str-clause-part
returns-in_err-push_str-clause-part c =
    let told = err_from_is_err_and c.from_residual.result c.from_residual.ensures.1 in
    rw told.1 (line-front _ _ _ (part-none _ _ _ c.in_err-push_str.ensures.bytes))

pub returns-in_err-push_decimal-clause-part : goal.returns-in_err-push_decimal-clause-part
returns-in_err-push_decimal-clause-part c =
    let told = err_from_is_err_and c.from_residual-in_err-push_decimal.result c.from_residual-in_err-push_decimal.ensures.1 in
    rw told.1 (line-front _ _ _ (part-then _ _ _ _ _ c.in_ok-push_str.ensures.bytes c.in_err-push_decimal.ensures.part))

pub returns-clause-part : goal.returns-clause-part
returns-clause-part c = on-err c.push_line.result c.push_line.ensures.part (λ p.
    line-then _ _ _ _ (append_then _ _ _ _ _ c.in_ok-push_str.ensures.bytes c.in_ok-push_decimal.ensures.ok) p)
