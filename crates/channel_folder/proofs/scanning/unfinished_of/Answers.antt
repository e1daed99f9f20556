use Rattle.std.proofs.Common.{rules, arith, ◌≡◌, ◌<◌, ◌∙◌, inr, true, map, length, get_or, ap, sym}
use Rattle.std.specs.String.{string_bytes}
use Rattle.std.proofs.lemmas.Result.{err_from_is_err_and}
use Rattle.std.proofs.lemmas.List.{length-map, get_or-map}
use Rattle.channel_folder.specs.Scans.{is_unfinished}
use Rattle.channel_folder.proofs.scanning.unfinished_of.Goals as goal

pub returns-in_err-push-clause-scarce : goal.returns-in_err-push-clause-scarce
returns-in_err-push-clause-scarce c =
    let told = err_from_is_err_and c.from_residual-in_err-push.result c.from_residual-in_err-push.ensures.1 in
    let files = c.args.files.now in
    let i = c.loop-file.file-index in
    let file = c.file-item.result in
    let within : i < length (map string_bytes files) = omega (arith, c.loop-file-test.true, length-map files string_bytes) in
    let at : get_or (map string_bytes files) i (string_bytes file) ≡ string_bytes file = get_or-map string_bytes files i file (string_bytes file) c.loop-file-test.true ∙ ap string_bytes (sym c.file-item.is) in
    let is : is_unfinished (map (λ n. n.now) c.args.names.now) (string_bytes file) ≡ true = search rules in
    rw told.1 (inr (i, string_bytes file, within, at, is))
