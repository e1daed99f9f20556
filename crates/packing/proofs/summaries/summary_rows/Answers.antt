use Rattle.std.proofs.Common.{◌≡◌, ◌∙◌, [], ◌∷◌, ◌++◌, map, get_or, ap, sym, arith}
use Rattle.std.proofs.lemmas.List.{get_or_default, map-append}
use Rattle.std.proofs.lemmas.List.FromFn.{map-range_with_len_more}
use Rattle.ladder_items.specs.Ladder.{RenditionValue, no_rendition}
use Rattle.packing.specs.SummaryLines.{told_value}
use Rattle.packing.specs.Summaries.{told_of}
use Rattle.packing.proofs.summaries.summary_rows.Goals as goal

pub loop-r-preserved : goal.loop-r-preserved
loop-r-preserved c =
    let report = c.args.report.now in
    let r = c.loop-r.r in
    let rendition : c.index-renditions-r.result ≡ get_or c.args.renditions.now r no_rendition =
    c.index-renditions-r.is ∙ get_or_default c.args.renditions.now r c.index-renditions-r.result no_rendition c.loop-r-test.true in
    let told : told_value c.summary_row.result ≡ told_of (get_or c.args.renditions.now r no_rendition) report r =
    c.summary_row.ensures ∙ ap (λ (x : RenditionValue). told_of x report r) rendition in
    ap (map told_value) c.in_ok-push.ensures.items ∙ map-append told_value c.loop-r.rows.items (c.summary_row.result ∷ [])
    ∙ (λ i. c.loop-r.invariant i ++ told i ∷ [])
    ∙ sym (map-range_with_len_more (λ r. told_of (get_or c.args.renditions.now r no_rendition) report r) 0 r r (omega arith))
