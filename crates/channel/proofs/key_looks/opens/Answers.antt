use Rattle.std.proofs.Common.{◌≡◌, ◌∙◌, ap, [], ◌∷◌, map}
use Rattle.std.proofs.lemmas.Result.{IfErr-weaker, on_ok_weaker}
use Rattle.ladder_items.specs.Ladder.{RenditionValue}
use Rattle.media_playlist.specs.Rows.{SegmentRow}
use Rattle.channel.proofs.Opened.{opened-alone, shut-alone}
use Rattle.channel.proofs.key_looks.opens.Goals as goal

pub returns-clause-ok : goal.returns-clause-ok
returns-clause-ok c =
    let segments : map (λ s. s.items) c.deref.result.now ≡ c.args.bytes.items ∷ [] = ap (λ l. map (λ s. s.items) l) c.deref.ensures.value ∙ c.in_ok-segments.ensures in
    let keys : c.all.result.now ≡ c.args.rendition.now.keys.keys = c.all.ensures ∙ ap (λ (r : RenditionValue). r.keys.keys) c.rendition.view_is in
    on_ok_weaker c.unpacks.result
    (λ is. opened-alone c.args.rendition.now c.args.row.now c.args.bytes.items c.in_ok-listing.listing.salt c.in_ok-listing.listing.entries (map (λ s. s.items) c.deref.result.now) c.all.result.now is.0
    c.in_ok-listing.ensures.salt c.in_ok-listing.ensures.entries segments keys is.1)
    c.unpacks.ensures.ok

pub returns-clause-err : goal.returns-clause-err
returns-clause-err c =
    let segments : map (λ s. s.items) c.deref.result.now ≡ c.args.bytes.items ∷ [] = ap (λ l. map (λ s. s.items) l) c.deref.ensures.value ∙ c.in_ok-segments.ensures in
    let keys : c.all.result.now ≡ c.args.rendition.now.keys.keys = c.all.ensures ∙ ap (λ (r : RenditionValue). r.keys.keys) c.rendition.view_is in
    let key : c.row.inside.key ≡ c.args.row.now.key = ap (λ (r : SegmentRow). r.key) c.row.view_is in
    IfErr-weaker c.unpacks.result _ _
    (λ kept is. shut-alone c.args.rendition.now c.args.row.now c.args.bytes.items c.in_ok-listing.listing.salt c.in_ok-listing.listing.entries (map (λ s. s.items) c.deref.result.now) c.all.result.now
    c.args.r c.row.inside.key kept.fault c.in_ok-listing.ensures.salt c.in_ok-listing.ensures.entries segments keys key is)
    c.unpacks.ensures.err
