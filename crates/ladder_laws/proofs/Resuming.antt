-- What a run shows that goes on behind another one.
use Rattle.std.proofs.Common.{◌≡◌, ◌∙◌, ℕ, ◌+◌, ◌<◌, Bool, true, false, List, [], ◌∷◌, ◌++◌, map, length, take, refl, ap, sym, subst, arith, length-take-le}
use Rattle.std.specs.Prelude.{◌||◌, ◌==◌, nat_lt}
use Rattle.std.proofs.lemmas.Bool.Decides.{nat_tests}
use Rattle.std.proofs.lemmas.List.{length-drop, length-map}
use Rattle.cutter.specs.Plans.{SegmentPlan}
use Rattle.segment_job.specs.Rotation.{number_of}
use Rattle.segment_job.specs.Segments.{sealed_segment}
use Rattle.playlist_text.specs.Lines.{text_of}
use Rattle.playlist_text.specs.MediaLines.{Entry}
use Rattle.media_playlist.specs.declared.row.Gone.{Gone}
use Rattle.media_playlist.specs.Rows.{SegmentRow}
use Rattle.media_playlist.specs.Listed.{Pushed, first, listed}
use Rattle.media_playlist.specs.Lines.{entry_of, listing_of, media_lines, iframe_lines}
use Rattle.media_playlist.specs.Seen.{IsPartOf, with_more, resumed}
use Rattle.media_playlist.proofs.Resuming.{first-up_to}
use Rattle.ladder_items.specs.Ladder.{Ladder, rendition_at, is_event, least_listed, IsAllowed}
use Rattle.ladder_items.specs.Rows.{row_of, rows_of}
use Rattle.ladder_items.specs.Shown.{media_text, frames_text}
use Rattle.item_io.specs.Items.{ItemValue, PlaylistValue, MediaItem}
use Rattle.ladder_items.specs.Items.{Part, part_at, playlist_of, shown_of}
use Rattle.ladder_items.specs.Weave.{Weaves}
use Rattle.ladder_laws.specs.Seen.{of_rendition}
use Rattle.ladder_laws.proofs.Alone.{seen}
use Rattle.ladder_laws.proofs.Splitting.{split, seen-split, same-media}
use Rattle.ladder_laws.specs.Resuming.{window_of, GoesOnFrom, window_of_both, IsOfBoth}
use Rattle.ladder_laws.proofs.Salts.{begins-behind, known-count}

-- its window is a resumed one
is-resumed : (ladder later : Ladder) (r : ℕ) (plans more : List SegmentPlan) → GoesOnFrom ladder later r plans
    → window_of later r more ≡ resumed (window_of ladder r plans) (least_listed later.kind later.window) (rows_of (rendition_at later r).keys more)
is-resumed ladder later r plans more goes = λ i. record {
  name = goes.name i;
  target = goes.target i;
  window = least_listed later.kind later.window;
  event = is_event (goes.kind i);
  salt = goes.salt i;
  gone = goes.gone i;
  rows = goes.earlier i ++ rows_of (rendition_at later r).keys more;
}

same-least : (ladder later : Ladder) → later.kind ≡ ladder.kind → later.window ≡ ladder.window → least_listed later.kind later.window ≡ least_listed ladder.kind ladder.window
same-least ladder later kind window = λ i. least_listed (kind i) (window i)

is-resumed-alike : (ladder later : Ladder) (r : ℕ) (plans more : List SegmentPlan) → GoesOnFrom ladder later r plans → later.window ≡ ladder.window
    → window_of later r more ≡ resumed (window_of ladder r plans) (window_of ladder r plans).window (rows_of (rendition_at later r).keys more)
is-resumed-alike ladder later r plans more goes same =
    is-resumed ladder later r plans more goes
    ∙ ap (λ (window : ℕ). resumed (window_of ladder r plans) window (rows_of (rendition_at later r).keys more)) (same-least ladder later goes.kind same)

-- what the laws say of one window
abbrev pub ShowsMedia : Type 0
ShowsMedia = (p : Pushed) (more : List SegmentRow) (ended : Bool) → 0 < length (listed p) → media_lines (resumed p p.window more) ended ≡ media_lines (with_more p more) ended

abbrev pub ShowsFrames : Type 0
ShowsFrames = (p : Pushed) (more : List SegmentRow) (ended : Bool) → 0 < length (listed p) → iframe_lines (resumed p p.window more) ended ≡ iframe_lines (with_more p more) ended

abbrev pub IsPart : Type 0
IsPart = (p : Pushed) (window : ℕ) (more : List SegmentRow) (ended later : Bool) (history : List Entry) (f : ℕ) → IsPartOf (listing_of p ended) history f →
    IsPartOf (listing_of (resumed p window more) later) (history ++ map entry_of more) (f + first (resumed p window more))

pub both-media : ShowsMedia → (ladder later : Ladder) (r : ℕ) (plans more : List SegmentPlan) (ended : Bool) → GoesOnFrom ladder later r plans → later.window ≡ ladder.window
    → 0 < length (listed (window_of ladder r plans))
    → media_text (shown_of later (rendition_at later r) more) ended ≡ text_of (media_lines (window_of_both ladder later r plans more) ended)
both-media shows ladder later r plans more ended goes same some =
    ap (λ (p : Pushed). text_of (media_lines p ended)) (is-resumed-alike ladder later r plans more goes same)
    ∙ ap text_of (shows (window_of ladder r plans) (rows_of (rendition_at later r).keys more) ended some)

pub both-frames : ShowsFrames → (ladder later : Ladder) (r : ℕ) (plans more : List SegmentPlan) (ended : Bool) → GoesOnFrom ladder later r plans → later.window ≡ ladder.window
    → 0 < length (listed (window_of ladder r plans))
    → frames_text (shown_of later (rendition_at later r) more) ended ≡ text_of (iframe_lines (window_of_both ladder later r plans more) ended)
both-frames shows ladder later r plans more ended goes same some =
    ap (λ (p : Pushed). text_of (iframe_lines p ended)) (is-resumed-alike ladder later r plans more goes same)
    ∙ ap text_of (shows (window_of ladder r plans) (rows_of (rendition_at later r).keys more) ended some)

-- its playlists list parts of the same history
pub both-seen : IsPart → (ladder later : Ladder) (r : ℕ) (plans more : List SegmentPlan) (ended then : Bool) (history : List Entry) (f : ℕ) → GoesOnFrom ladder later r plans
    → IsPartOf (listing_of (window_of ladder r plans) ended) history f
    → IsPartOf (listing_of (window_of later r more) then) (history ++ map entry_of (rows_of (rendition_at later r).keys more)) (f + first (window_of later r more))
both-seen part ladder later r plans more ended then history f goes of =
    let rows = rows_of (rendition_at later r).keys more in
    subst (λ (p : Pushed). IsPartOf (listing_of p then) (history ++ map entry_of rows) (f + first p)) (sym (is-resumed ladder later r plans more goes))
    (part (window_of ladder r plans) (least_listed later.kind later.window) rows ended then history f of)

-- its segments have the next numbers
pub both-numbers : (ladder later : Ladder) (r : ℕ) (plans : List SegmentPlan) (n : ℕ) → IsAllowed ladder → IsAllowed later → GoesOnFrom ladder later r plans
    → number_of (rendition_at later r).keys n ≡ number_of (rendition_at ladder r).keys (length plans + n)
both-numbers ladder later r plans n allowed also goes =
    let p = window_of ladder r plans in
    let old = begins-behind ladder r allowed in
    let new = begins-behind later r also in
    let gone : (rendition_at later r).gone.rows ≡ (rendition_at ladder r).gone.rows + length (take (first p) p.rows) = ap (λ (g : Gone). g.rows) goes.gone in
    omega (arith, old, new, gone, ap length goes.earlier, length-drop (first p) p.rows, length-take-le (first p) p.rows (first-up_to p), first-up_to p, known-count ladder r plans)

or-true : (b : Bool) → b || true ≡ true
or-true true = refl
or-true false = refl

-- its first segment is a discontinuity
pub first-breaks : (later : Ladder) (r : ℕ) (plan : SegmentPlan) → IsAllowed later → 0 < (rendition_at later r).gone.rows + length (rendition_at later r).earlier → plan.number ≡ 0
    → (row_of (rendition_at later r).keys (sealed_segment (rendition_at later r).keys plan)).discontinuity ≡ true
unfolding row_of
first-breaks later r plan allowed some number =
    let keys = (rendition_at later r).keys in
    let behind : 0 < keys.first = omega (arith, some, begins-behind later r allowed) in
    let here : (plan.number == 0) ≡ true = grind (arith, nat_tests, number) in
    let before : nat_lt 0 keys.first ≡ true = grind (arith, nat_tests, behind) in
    rw (here, before) (or-true plan.discontinuity)

-- each of its media playlists
pub each-of-both : ShowsMedia → (ladder later : Ladder) (plans : List SegmentPlan) (parts : List Part) (front : List ItemValue) (media : PlaylistValue) (behind : List ItemValue)
    → GoesOnFrom ladder later media.rendition plans → later.window ≡ ladder.window → 0 < length (listed (window_of ladder media.rendition plans))
    → Weaves later parts (front ++ MediaItem media ∷ behind) → IsOfBoth ladder later plans parts media
each-of-both shows ladder later plans parts front media behind goes same some w =
    let r = media.rendition in
    let rendition = rendition_at later r in
    let part = part_at parts r in
    let alone = sym (seen-split front media behind) ∙ seen later parts (front ++ MediaItem media ∷ behind) r w in
    let at = split later r [] part.plans part part.ended (of_rendition r front) media (of_rendition r behind) refl alone in
    let shown = shown_of later rendition at.given in
    let value = playlist_of r rendition shown at.ended (media_text shown at.ended) in
    let is : media ≡ value = same-media media value at.media_is in
    let both = window_of_both ladder later r plans at.given in
    record {
      given = at.given;
      rest = at.rest;
      plans_are = at.plans_are;
      count_is = ap (λ (p : PlaylistValue). p.count) is ∙ length-map at.given (λ plan. row_of rendition.keys (sealed_segment rendition.keys plan));
      text_is = ap (λ (p : PlaylistValue). p.text) is
          ∙ (both-media shows ladder later r plans at.given at.ended goes same some
          ∙ ap (λ (ended : Bool). text_of (media_lines both ended)) (sym (ap (λ (p : PlaylistValue). p.ended) is)));
    }
