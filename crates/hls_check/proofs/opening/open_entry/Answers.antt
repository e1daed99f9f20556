use Rattle.std.proofs.Common.{◌<◌, ◌∙◌, map, get_or, [], length, ap, arith, false}
use Rattle.std.proofs.lemmas.List.{get_or_read, length-map}
use Rattle.std.proofs.lemmas.Result.{IfOk-weaker}
use Rattle.playlist_text.specs.MediaLines.{Entry}
use Rattle.playlist_text.specs.Vectors.{salted_vector}
use Rattle.hls_check.specs.Unpacking.{packed}
use Rattle.hls_check.proofs.Openings.{entry-opened}
use Rattle.hls_check.proofs.Growing.{items_at}
use Rattle.hls_check.proofs.opening.open_entry.Goals as goal

pub returns-clause-found : goal.returns-clause-found
returns-clause-found c =
    let segments = map (λ s. s.items) c.args.segments.now in
    let p = packed c.args.salt c.args.entries.now segments c.args.keys.now in
    let entry = c.entry.view_is ∙ get_or_read c.args.entries.now c.args.i c.index-entries-i.result c.requires.entry c.index-entries-i.is (record { number = 0; key = 0; micros = 0; discontinuity = false }) in
    let lt : c.args.i < length c.args.segments.now = omega (arith, c.requires.there.segment, length-map c.args.segments.now (λ s. s.items)) in
    IfOk-weaker c.open_segment.result _ _ (λ found is. entry-opened p c.args.i _ _ _ found
    (ap (λ (e : Entry). get_or c.args.keys.now e.key []) entry)
    (c.salted_vector.ensures ∙ ap (λ (e : Entry). salted_vector c.args.salt e.number) entry)
    (c.deref.ensures.value ∙ items_at c.args.segments.now c.index-segments-i.result c.args.i lt c.index-segments-i.is) is)
    c.open_segment.ensures.found
