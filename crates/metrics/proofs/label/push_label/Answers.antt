use Rattle.std.proofs.Common.{◌≡◌, ◌+◌, length, take, ap, arith, ◌∙◌, length-append}
use Rattle.std.proofs.lemmas.List.Folds.{length-flat_map-take}
use Rattle.std.proofs.lemmas.Result.{err_from_is_err_and}
use Rattle.metrics.specs.Format.{escaped, escaped_byte}
use Rattle.metrics.proofs.label.push_label.Goals as goal

pub returns-in_err-push_byte-clause-full : goal.returns-in_err-push_byte-clause-full
returns-in_err-push_byte-clause-full c =
    let told = err_from_is_err_and c.from_residual.result c.from_residual.ensures.1 in
    let i = c.loop-byte.byte-index in
    let below = rw c.as_bytes-byte-items.ensures.value at (length-flat_map-take escaped_byte c.as_bytes-byte-items.result.now i 0 c.loop-byte-test.true) in
    let full = rw c.as_bytes-byte-items.ensures.value at c.in_err-push_byte.ensures.full in
    let written : length c.loop-byte.out.items ≡ length c.args.out.now.items + length (escaped (take i c.args.text.now))
    = ap length c.loop-byte.invariant.written ∙ length-append c.args.out.now.items (escaped (take i c.args.text.now)) in
    rw told.1 (omega (arith, below, full, written, c.loop-byte.invariant.room, c.loop-byte.out.ok.0, c.args.out.now.ok.0))
