use Rattle.std.proofs.Common.{◌+◌, ◌<◌, List, ℕ, ◌++◌, length, length-append, ap, sym, ◌∙◌, arith}
use Rattle.std.specs.List.{flat_map}
use Rattle.std.specs.String.{string_bytes, string_capacity, string_len}
use Rattle.playlist_text.specs.Lines.{text_of}
use Rattle.master_playlist.specs.MasterLines.{stream_lines}
use Rattle.std.proofs.lemmas.List.{append-nil, at_drop_more, at_drop_all}
use Rattle.master_playlist.proofs.Texts.{OnErr-fact, streams_text, streams_text-is}
use Rattle.master_playlist.proofs.text.push_streams.Goals as goal

pub returns-clause-ok : goal.returns-clause-ok
returns-clause-ok c =
    let none_left = at_drop_all streams_text c.args.variants.now c.loop-variant.variant-index c.loop-variant-test.false in
    sym (append-nil (string_bytes c.loop-variant.out))
    ∙ ap (λ (t : List ℕ). string_bytes c.loop-variant.out ++ t) (sym none_left)
    ∙ c.loop-variant.invariant.written
    ∙ ap (λ (t : List ℕ). string_bytes c.args.out.now ++ t) (sym (streams_text-is c.args.variants.now))

pub returns-in_err-push_stream-clause-full : goal.returns-in_err-push_stream-clause-full
returns-in_err-push_stream-clause-full c =
    let v = c.variant-item.result in
    let step = rw (← c.variant-item.is) at (at_drop_more (λ vs. length (streams_text vs)) c.args.variants.now c.loop-variant.variant-index v c.loop-variant-test.true) in
    let more = simp length-append at step in
    let all = simp length-append at (ap length c.loop-variant.invariant.written) in
    let whole = ap length (streams_text-is c.args.variants.now) in
    let full : string_capacity c.args.out.now < string_len c.args.out.now + length (text_of (flat_map stream_lines c.args.variants.now))
    = omega (arith, more, all, whole, c.in_err-push_stream.ensures.full, c.loop-variant.out.bytes.ok.0, c.args.out.now.bytes.ok.0) in
    OnErr-fact _ full
