use Rattle.std.proofs.Common.{arith, ◌<◌, ◌++◌, ap, string_bytes, length, length-append}
use Rattle.std.proofs.lemmas.List.Elements.{All-from_get_or}
use Rattle.std.proofs.lemmas.Result.{err_from_is_err_and}
use Rattle.percent_encoding.specs.Iter.{encoded_text}
use Rattle.playlist_text.proofs.Appending.{part-none, part-of-whole}
use Rattle.playlist_text.proofs.Escapes.{percent_encode-escaped}
use Rattle.playlist_text.proofs.uri.push_escaped.Goals as goal

pub loop-piece-init : goal.loop-piece-init
loop-piece-init c =
    let small = All-from_get_or (λ b. b < 256) c.args.name.now 0 (λ i within. omega (arith, c.type_inv.name i)) in
    rw (← percent_encode-escaped _ small, ← c.utf8_percent_encode-piece-items.ensures.text) (record {
      written = ap (λ it. string_bytes c.args.out.now ++ encoded_text it) c.into_iter-piece-iterator.ensures.into_iter_gives;
      longer = omega arith;
      room = omega arith;
    })

pub returns-in_err-push_str-clause-full : goal.returns-in_err-push_str-clause-full
returns-in_err-push_str-clause-full c =
    let told = err_from_is_err_and c.from_residual.result c.from_residual.ensures.1 in
    let lengths = simp length-append at (ap length (rw c.in-Some.ensures.steps at c.loop-piece.invariant.written)) in
    rw told.1 (omega (arith, lengths, c.in_err-push_str.ensures.full, c.loop-piece.out.bytes.ok.0, c.args.out.now.bytes.ok.0))

pub returns-in_err-push_str-clause-part : goal.returns-in_err-push_str-clause-part
returns-in_err-push_str-clause-part c =
    let told = err_from_is_err_and c.from_residual.result c.from_residual.ensures.1 in
    rw told.1 (part-of-whole _ _ _ (encoded_text c.loop-piece.piece-iterator) _ c.loop-piece.invariant.written
    (omega (arith, c.loop-piece.invariant.longer, c.loop-piece.out.bytes.ok.0, c.args.out.now.bytes.ok.0)) (part-none _ _ _ c.in_err-push_str.ensures.bytes))
