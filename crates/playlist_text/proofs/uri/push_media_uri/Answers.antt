use Rattle.std.proofs.lemmas.Result.{err_from_is_err_and}
use Rattle.playlist_text.specs.Uris.{media_uri}
use Rattle.playlist_text.proofs.Appending.{last-or-none, on-err, part-front, part-then}
use Rattle.playlist_text.proofs.uri.push_media_uri.Goals as goal

pub returns-in_err-push_escaped-clause-part : goal.returns-in_err-push_escaped-clause-part
unfolding media_uri
returns-in_err-push_escaped-clause-part c =
    let told = err_from_is_err_and c.from_residual.result c.from_residual.ensures.1 in
    rw told.1 (part-front _ _ _ _ c.in_err-push_escaped.ensures.part)

pub returns-clause-part : goal.returns-clause-part
unfolding media_uri
returns-clause-part c = on-err c.push_str.result (last-or-none c.push_str.result _ _ _ _ c.push_str.ensures.bytes) (λ p. part-then _ _ _ _ _ c.in_ok-push_escaped.ensures.ok p)
