use Rattle.std.proofs.lemmas.Result.{err_from_is_err_and}
use Rattle.playlist_text.proofs.Appending.{line-front, line-then, on-err}
use Rattle.media_playlist.proofs.lines.push_segment.Goals as goal

pub returns-in_err-push_segment_uri-clause-part : goal.returns-in_err-push_segment_uri-clause-part
returns-in_err-push_segment_uri-clause-part c =
    let told = err_from_is_err_and c.from_residual.result c.from_residual.ensures.1 in
    rw told.1 (line-front _ _ _ c.in_err-push_segment_uri.ensures.part)

pub returns-clause-part : goal.returns-clause-part
returns-clause-part c = on-err c.push_line.result c.push_line.ensures.part (λ p. line-then _ _ _ _ c.in_ok-push_segment_uri.ensures.ok p)
