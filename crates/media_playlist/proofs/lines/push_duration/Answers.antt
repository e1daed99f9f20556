use Rattle.std.proofs.Common.{◌≡◌, ℕ, List, ◌++◌}
use Rattle.std.specs.Prelude.{codes}
use Rattle.std.specs.String.{string_bytes}
use Rattle.playlist_text.specs.Numbers.{seconds}
use Rattle.std.proofs.lemmas.Result.{err_from_is_err_and}
use Rattle.playlist_text.specs.MediaLines.{duration_line}
use Rattle.playlist_text.proofs.Appending.{line-front, line-behind, on-err, part-front, part-none, part-then}
use Rattle.playlist_text.proofs.TextLines.{append_then}
use Rattle.media_playlist.proofs.lines.push_duration.Goals as goal

pub returns-in_err-push_str-clause-part : goal.returns-in_err-push_str-clause-part
unfolding duration_line
returns-in_err-push_str-clause-part c =
    let told = err_from_is_err_and c.from_residual.result c.from_residual.ensures.1 in
    rw told.1 (line-front _ _ _ (part-none _ _ _ c.in_err-push_str.ensures.bytes))

pub returns-in_err-push_seconds-clause-part : goal.returns-in_err-push_seconds-clause-part
unfolding duration_line
returns-in_err-push_seconds-clause-part c =
    let told = err_from_is_err_and c.from_residual-in_err-push_seconds.result c.from_residual-in_err-push_seconds.ensures.1 in
    rw told.1 (line-front _ _ _ (part-then _ _ _ _ _ c.in_ok-push_str.ensures.bytes (part-front _ _ _ _ (rw c.from.ensures at c.in_err-push_seconds.ensures.part))))

pub returns-clause-part : goal.returns-clause-part
unfolding duration_line
returns-clause-part c =
    let tag : List ℕ = codes "#EXTINF:" in
    let time : string_bytes c.push_seconds.new.out ≡ string_bytes c.push_str.new.self ++ seconds c.args.micros = rw (← c.from.ensures) c.in_ok-push_seconds.ensures.ok in
    let front = append_then (string_bytes c.args.out.now) (string_bytes c.push_str.new.self) (string_bytes c.push_seconds.new.out) tag (seconds c.args.micros) c.in_ok-push_str.ensures.bytes time in
    on-err c.push_line.result c.push_line.ensures.part
    (λ p. line-behind (string_bytes c.args.out.now) (string_bytes c.push_seconds.new.out) (string_bytes c.push_line.new.out) (tag ++ seconds c.args.micros) (codes ",") front p)
