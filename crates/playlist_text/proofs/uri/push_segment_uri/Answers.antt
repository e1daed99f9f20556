use Rattle.std.proofs.Common.{◌≡◌, ◌++◌, string_bytes}
use Rattle.std.specs.Prelude.{codes}
use Rattle.std.specs.Fmt.{decimal}
use Rattle.std.proofs.lemmas.Result.{err_from_is_err_and}
use Rattle.playlist_text.specs.Uris.{escaped, segment_uri}
use Rattle.playlist_text.proofs.TextLines.{append_then}
use Rattle.playlist_text.proofs.Appending.{last-or-none, on-err, part-front, part-none, part-then}
use Rattle.playlist_text.proofs.uri.push_segment_uri.Goals as goal

pub returns-in_err-push_escaped-clause-part : goal.returns-in_err-push_escaped-clause-part
unfolding segment_uri
returns-in_err-push_escaped-clause-part c =
    let told = err_from_is_err_and c.from_residual.result c.from_residual.ensures.1 in
    rw told.1 (part-front _ _ _ _ (part-front _ _ _ _ (part-front _ _ _ _ (c.in_err-push_escaped.ensures.part))))

pub returns-in_err-push_str-clause-part : goal.returns-in_err-push_str-clause-part
unfolding segment_uri
returns-in_err-push_str-clause-part c =
    let told = err_from_is_err_and c.from_residual-in_err-push_str.result c.from_residual-in_err-push_str.ensures.1 in
    rw told.1 (part-front _ _ _ _ (part-front _ _ _ _ (part-then _ _ _ _ _ c.in_ok-push_escaped.ensures.ok (part-none _ _ _ c.in_err-push_str.ensures.bytes))))

pub returns-in_err-push_decimal-clause-part : goal.returns-in_err-push_decimal-clause-part
unfolding segment_uri
returns-in_err-push_decimal-clause-part c =
    let told = err_from_is_err_and c.from_residual-in_err-push_decimal.result c.from_residual-in_err-push_decimal.ensures.1 in
    rw told.1 (part-front _ _ _ _ (part-then _ _ _ _ _ (append_then _ _ _ _ _ c.in_ok-push_escaped.ensures.ok c.in_ok-push_str.ensures.bytes) (rw c.from.ensures at c.in_err-push_decimal.ensures.part)))

pub returns-clause-part : goal.returns-clause-part
unfolding segment_uri
returns-clause-part c =
    let dot = append_then (string_bytes c.args.out.now) (string_bytes c.push_escaped.new.out) (string_bytes c.push_str.new.self) (escaped c.args.name.now) (codes ".")
    c.in_ok-push_escaped.ensures.ok c.in_ok-push_str.ensures.bytes in
    let number : string_bytes c.push_decimal.new.out ≡ string_bytes c.push_str.new.self ++ decimal c.args.number = rw c.from.ensures at c.in_ok-push_decimal.ensures.ok in
    let all = append_then (string_bytes c.args.out.now) (string_bytes c.push_str.new.self) (string_bytes c.push_decimal.new.out) (escaped c.args.name.now ++ codes ".") (decimal c.args.number) dot number in
    on-err c.push_str-2.result (last-or-none c.push_str-2.result (string_bytes c.push_decimal.new.out) _ (codes ".ts") _ c.push_str-2.ensures.bytes)
    (λ p. part-then (string_bytes c.args.out.now) (string_bytes c.push_decimal.new.out) _ (escaped c.args.name.now ++ codes "." ++ decimal c.args.number) (codes ".ts") all p)
