use Rattle.std.proofs.Common.{◌≡◌, ◌<◌, ◌∙◌, [], ◌∷◌, ap, arith, get_or, length, length-append}
use Rattle.playlist_text.specs.MediaLines.{Entry, Listing}
use Rattle.commands.specs.Checking.{segment_path}
use Rattle.commands.proofs.SegmentFiles.{path-more}
use Rattle.commands.proofs.checking.segment_room.Goals as goal

pub loop-entry-preserved : goal.loop-entry-preserved
loop-entry-preserved c =
    let playlist = c.args.playlist.now in
    let listing = c.args.listing.now in
    let i = c.loop-entry.entry-index in
    let e = c.entry-item.result in
    let entries : c.deref-entry-items.result.now ≡ listing.entries = c.deref-entry-items.ensures.value ∙ ap (λ (l : Listing). l.entries) c.listing.view_is in
    let below : i < length listing.entries = omega (arith, c.loop-entry-test.true, ap length entries) in
    let number : c.entry.inside.number ≡ (get_or listing.entries i e).number = ap (λ (x : Entry). x.number) (c.entry.view_is ∙ c.entry-item.is ∙ ap (λ xs. get_or xs i e) entries) in
    let name : c.deref.result.now ≡ listing.name = c.deref.ensures ∙ ap (λ (l : Listing). l.name) c.listing.view_is in
    record {
      paths = path-more playlist listing i e c.loop-entry.paths.items c.push.new.self.items c.in_ok-path.path below c.loop-entry.invariant.paths c.in_ok-push.ensures.items
          (c.in_ok-path.ensures ∙ ap (λ n. segment_path playlist n c.entry.inside.number) name ∙ ap (segment_path playlist listing.name) number);
      places = omega (
        arith,
        c.loop-entry.invariant.places,
        ap length c.in_ok-push.ensures.items ∙ length-append c.loop-entry.paths.items (c.in_ok-path.path ∷ []),
        ap length c.in_ok-push-2.ensures.items ∙ length-append c.loop-entry.segments.items (c.new.result ∷ []),
      );
    }
