-- A window that begins with the rows which an earlier one listed shows what one window over all rows does.
use Rattle.std.proofs.Common.{◌≡◌, ℕ, ◌+◌, ◌-◌, ◌≤◌, ◌<◌, inl, inr, Bool, true, false, cond, List, [], ◌∷◌, ◌++◌, length, take, drop, map, refl, sym, ap, ◌∙◌, arith, length-append, take-add, drop-drop, length-take-le}
use Rattle.std.specs.Prelude.{if◌then◌else◌, count_by}
use Rattle.std.proofs.lemmas.List.{take-map, take-append-le, drop-append-le, length-drop, drop-map, map-append, length-map}
use Rattle.std.proofs.lemmas.List.Sums.{sum_by-append, sum_by-cons}
use Rattle.playlist_text.specs.MediaLines.{Entry, Listing, listing_lines}
use Rattle.media_playlist.specs.Rows.{SegmentRow}
use Rattle.media_playlist.specs.Listed.{Pushed, first, listed, suffices, first_listed, discontinuity_count, frame_count, gone_of, nothing_gone}
use Rattle.media_playlist.specs.Lines.{entry_of, listing_of, media_lines, iframe_lines}
use Rattle.media_playlist.specs.declared.row.Gone.{Gone}
use Rattle.media_playlist.specs.Seen.{GoesOn, IsPartOf, with_more, resumed}
use Rattle.media_playlist.proofs.Greatest.{first_listed-IsFirstListed, first_listed-only, first_listed-append}
use Rattle.media_playlist.proofs.Seeing.{IsPart, IsPart-goes_on}
use Rattle.media_playlist.proofs.WindowLines.{unless_empty-some}

-- the discontinuities of rows are those of their entries
breaks-entries : (rows : List SegmentRow) → count_by (λ e. e.discontinuity) (map entry_of rows) ≡ discontinuity_count rows
breaks-entries [] = refl
breaks-entries (row ∷ rows) =
    sum_by-cons (λ (e : Entry). cond e.discontinuity 1 0) (entry_of row) (map entry_of rows)
    ∙ ap (λ (n : ℕ). cond row.discontinuity 1 0 + n) (breaks-entries rows)
    ∙ sym (sum_by-cons (λ (r : SegmentRow). cond r.discontinuity 1 0) row rows)

-- the first listed row is one of the rows, or behind them
up_to_of : (event : Bool) (target window : ℕ) (rows : List SegmentRow) → (if event then 0 else first_listed target window rows) ≤ length rows
up_to_of true target window rows = omega arith
up_to_of false target window rows = (first_listed-IsFirstListed target window rows).up_to

pub first-up_to : (p : Pushed) → first p ≤ length p.rows
first-up_to p = up_to_of p.event p.target p.window p.rows

-- behind the rows that an earlier playlist didn't list any more, the first listed one is the same
first_listed-behind : (target window : ℕ) (rows more : List SegmentRow) →
    first_listed target window (rows ++ more)
    ≡ first_listed target window rows + first_listed target window (drop (first_listed target window rows) rows ++ more)
first_listed-behind target window rows more =
    let f = first_listed target window rows in
    let all = first_listed target window (rows ++ more) in
    let is = first_listed-IsFirstListed target window rows in
    let whole = first_listed-IsFirstListed target window (rows ++ more) in
    let le : f ≤ all = first_listed-append target window rows more in
    let behind : drop f (rows ++ more) ≡ drop f rows ++ more = drop-append-le f rows more is.up_to in
    let len : length (drop f rows ++ more) ≡ length (rows ++ more) - f = ap length (sym behind) ∙ length-drop f (rows ++ more) in
    let sum : f + (all - f) ≡ all = omega (arith, le) in
    let at : (i : ℕ) → drop i (drop f rows ++ more) ≡ drop (f + i) (rows ++ more) =
    λ i. ap (λ (xs : List SegmentRow). drop i xs) (sym behind) ∙ drop-drop i f (rows ++ more) in
    let only : all - f ≡ first_listed target window (drop f rows ++ more) =
    first_listed-only target window (drop f rows ++ more) (all - f) (record {
      up_to = omega (arith, len, whole.up_to, le);
      leaves = elim whole.leaves [
        | inl none ↦ inl (omega (arith, none))
        | inr passed ↦ inr (ap (λ (xs : List SegmentRow). suffices target window xs) (at (all - f) ∙ ap (λ (n : ℕ). drop n (rows ++ more)) sum) ∙ passed)
      ];
      greatest = λ i up passed.
          let there = whole.greatest (f + i) (omega (arith, len, up, whole.up_to, le)) (ap (λ (xs : List SegmentRow). suffices target window xs) (sym (at i)) ∙ passed) in
          omega (arith, there, le);
    }) in
    omega (arith, only, le)

-- for an event as else
first-behind : (event : Bool) (target window : ℕ) (rows more : List SegmentRow) →
    (if event then 0 else first_listed target window (rows ++ more))
    ≡ (if event then 0 else first_listed target window rows)
    + (if event then 0 else first_listed target window (drop (if event then 0 else first_listed target window rows) rows ++ more))
first-behind true target window rows more = omega arith
first-behind false target window rows more = first_listed-behind target window rows more

-- the first listed row never falls
first-rises : (event : Bool) (target window : ℕ) (rows more : List SegmentRow) →
    (if event then 0 else first_listed target window rows) ≤ (if event then 0 else first_listed target window (rows ++ more))
first-rises true target window rows more = omega arith
first-rises false target window rows more = first_listed-append target window rows more

-- what the media playlist lists is a part of the entries of all rows
listing-IsPart : (p : Pushed) (ended : Bool) → IsPart (listing_of p ended) p.gone.rows p.gone.discontinuities (map entry_of p.rows) (first p)
unfolding listing_of
listing-IsPart p ended =
    let counted : count_by (λ e. e.discontinuity) (take (first p) (map entry_of p.rows)) ≡ discontinuity_count (take (first p) p.rows)
    = ap (count_by (λ (e : Entry). e.discontinuity)) (take-map entry_of (first p) p.rows) ∙ breaks-entries (take (first p) p.rows) in
    record {
      up_to = omega (arith, first-up_to p, length-map p.rows entry_of);
      sequence = refl;
      discontinuities = ap (λ (n : ℕ). p.gone.discontinuities + n) (sym counted);
      lists = sym (drop-map entry_of (first p) p.rows);
    }

-- with more rows
listing-IsPart-more : (p : Pushed) (more : List SegmentRow) (ended : Bool) →
    IsPart (listing_of (with_more p more) ended) p.gone.rows p.gone.discontinuities (map entry_of p.rows ++ map entry_of more) (first (with_more p more))
listing-IsPart-more p more ended = rw (← map-append entry_of p.rows more) (listing-IsPart (with_more p more) ended)

pub with_more-goes_on : (p : Pushed) (more : List SegmentRow) (ended later : Bool) →
    GoesOn (listing_of p ended) (listing_of (with_more p more) later)
with_more-goes_on p more ended later =
    IsPart-goes_on (listing_of p ended) (listing_of (with_more p more) later) p.gone.rows p.gone.discontinuities (map entry_of p.rows) (map entry_of more) (first p) (first (with_more p more))
    (listing-IsPart p ended) (listing-IsPart-more p more later) (first-rises p.event p.target p.window p.rows more)

-- the rows that an earlier playlist listed, seen from what came before them
listing-IsPart-listed : (p : Pushed) (ended : Bool) →
    IsPart (listing_of p ended) (gone_of p).rows (gone_of p).discontinuities (map entry_of (listed p)) 0
unfolding listing_of
listing-IsPart-listed p ended =
    let len : length (take (first p) p.rows) ≡ first p = length-take-le (first p) p.rows (first-up_to p) in
    record {
      up_to = omega arith;
      sequence = omega (arith, len);
      discontinuities = omega arith;
      lists = refl;
    }

listing-IsPart-resumed : (p : Pushed) (window : ℕ) (more : List SegmentRow) (ended : Bool) →
    IsPart (listing_of (resumed p window more) ended) (gone_of p).rows (gone_of p).discontinuities (map entry_of (listed p) ++ map entry_of more) (first (resumed p window more))
listing-IsPart-resumed p window more ended = rw (← map-append entry_of (listed p) more) (listing-IsPart (resumed p window more) ended)

pub resumed-goes_on : (p : Pushed) (window : ℕ) (more : List SegmentRow) (ended later : Bool) →
    GoesOn (listing_of p ended) (listing_of (resumed p window more) later)
resumed-goes_on p window more ended later =
    IsPart-goes_on (listing_of p ended) (listing_of (resumed p window more) later) (gone_of p).rows (gone_of p).discontinuities (map entry_of (listed p)) (map entry_of more) 0 (first (resumed p window more))
    (listing-IsPart-listed p ended) (listing-IsPart-resumed p window more later) (omega arith)

-- Under the same least number of rows it is one window over all rows.
-- counts of the rows before the first listed one, in two parts
parts_before : (rows more : List SegmentRow) (f g all : ℕ) → f ≤ length rows → all ≡ f + g →
    take all (rows ++ more) ≡ take f rows ++ take g (drop f rows ++ more)
parts_before rows more f g all up_to is =
    rw is (take-add f g (rows ++ more) ∙ ap (λ (xs : List SegmentRow). xs ++ take g (drop f (rows ++ more))) (take-append-le f rows more up_to) ∙ ap (λ (xs : List SegmentRow). take f rows ++ take g xs) (drop-append-le f rows more up_to))

parts_behind : (rows more : List SegmentRow) (f g all : ℕ) → f ≤ length rows → all ≡ f + g →
    drop all (rows ++ more) ≡ drop g (drop f rows ++ more)
parts_behind rows more f g all up_to is =
    rw is (sym (drop-drop g f (rows ++ more)) ∙ ap (drop g) (drop-append-le f rows more up_to))

pub resumed-listing : (p : Pushed) (more : List SegmentRow) (ended : Bool) →
    listing_of (resumed p p.window more) ended ≡ listing_of (with_more p more) ended
unfolding listing_of
resumed-listing p more ended =
    let f = first p in
    let g = first (resumed p p.window more) in
    let all = first (with_more p more) in
    let is : all ≡ f + g = first-behind p.event p.target p.window p.rows more in
    let up_to : f ≤ length p.rows = first-up_to p in
    let len : length (take f p.rows) ≡ f = length-take-le f p.rows up_to in
    let sequence : p.gone.rows + length (take f p.rows) + g ≡ p.gone.rows + all = omega (arith, len, is) in
    let before = parts_before p.rows more f g all up_to is in
    let counted : discontinuity_count (take all (p.rows ++ more)) ≡ discontinuity_count (take f p.rows) + discontinuity_count (take g (drop f p.rows ++ more)) =
    ap discontinuity_count before ∙ sum_by-append (λ (r : SegmentRow). cond r.discontinuity 1 0) (take f p.rows) (take g (drop f p.rows ++ more)) in
    let breaks : p.gone.discontinuities + discontinuity_count (take f p.rows) + discontinuity_count (take g (drop f p.rows ++ more)) ≡ p.gone.discontinuities + discontinuity_count (take all (p.rows ++ more)) = omega (arith, counted) in
    let behind : drop g (drop f p.rows ++ more) ≡ drop all (p.rows ++ more) = sym (parts_behind p.rows more f g all up_to is) in
    rw (sequence, breaks, behind) refl

pub resumed-media : (p : Pushed) (more : List SegmentRow) (ended : Bool) → 0 < length (listed p) →
    media_lines (resumed p p.window more) ended ≡ media_lines (with_more p more) ended
unfolding media_lines
resumed-media p more ended some =
    let some_now : 0 < length (listed p ++ more) = omega (arith, some, length-append (listed p) more) in
    let some_all : 0 < length (p.rows ++ more) = omega (arith, some, length-drop (first p) p.rows, length-append p.rows more) in
    unless_empty-some (listed p ++ more) (listing_lines (listing_of (resumed p p.window more) ended)) some_now
    ∙ ap listing_lines (resumed-listing p more ended)
    ∙ sym (unless_empty-some (p.rows ++ more) (listing_lines (listing_of (with_more p more) ended)) some_all)

pub resumed-iframes : (p : Pushed) (more : List SegmentRow) (ended : Bool) → 0 < length (listed p) →
    iframe_lines (resumed p p.window more) ended ≡ iframe_lines (with_more p more) ended
unfolding iframe_lines
resumed-iframes p more ended some =
    let f = first p in
    let g = first (resumed p p.window more) in
    let all = first (with_more p more) in
    let is : all ≡ f + g = first-behind p.event p.target p.window p.rows more in
    let up_to : f ≤ length p.rows = first-up_to p in
    let before = parts_before p.rows more f g all up_to is in
    let counted : discontinuity_count (take all (p.rows ++ more)) ≡ discontinuity_count (take f p.rows) + discontinuity_count (take g (drop f p.rows ++ more)) =
    ap discontinuity_count before ∙ sum_by-append (λ (r : SegmentRow). cond r.discontinuity 1 0) (take f p.rows) (take g (drop f p.rows ++ more)) in
    let framed : frame_count (take all (p.rows ++ more)) ≡ frame_count (take f p.rows) + frame_count (take g (drop f p.rows ++ more)) =
    ap frame_count before ∙ sum_by-append (λ (r : SegmentRow). length r.frames) (take f p.rows) (take g (drop f p.rows ++ more)) in
    let breaks : p.gone.discontinuities + discontinuity_count (take f p.rows) + discontinuity_count (take g (drop f p.rows ++ more)) ≡ p.gone.discontinuities + discontinuity_count (take all (p.rows ++ more)) = omega (arith, counted) in
    let frames : p.gone.frames + frame_count (take f p.rows) + frame_count (take g (drop f p.rows ++ more)) ≡ p.gone.frames + frame_count (take all (p.rows ++ more)) = omega (arith, framed) in
    let behind : drop g (drop f p.rows ++ more) ≡ drop all (p.rows ++ more) = sym (parts_behind p.rows more f g all up_to is) in
    let some_now : 0 < length (listed p ++ more) = omega (arith, some, length-append (listed p) more) in
    let some_all : 0 < length (p.rows ++ more) = omega (arith, some, length-drop (first p) p.rows, length-append p.rows more) in
    unless_empty-some (listed p ++ more) _ some_now
    ∙ rw (frames, breaks, behind) refl
    ∙ sym (unless_empty-some (p.rows ++ more) _ some_all)

-- Playlists as parts of one history.
IsPart-of : (l : Listing) (history : List Entry) (place : ℕ) → IsPartOf l history place → IsPart l 0 0 history place
IsPart-of l history place is = record {
  up_to = is.up_to;
  sequence = omega (arith, is.sequence);
  discontinuities = omega (arith, is.discontinuities);
  lists = is.lists;
}

pub parts-go_on : (old new : Listing) (history more : List Entry) (f g : ℕ) → IsPartOf old history f → IsPartOf new (history ++ more) g → f ≤ g →
    GoesOn old new
parts-go_on old new history more f g a b le =
    IsPart-goes_on old new 0 0 history more f g (IsPart-of old history f a) (IsPart-of new (history ++ more) g b) le

-- that of a first run is the entries of its rows
pub history-begins : (p : Pushed) (ended : Bool) → p.gone ≡ nothing_gone → IsPartOf (listing_of p ended) (map entry_of p.rows) (first p)
history-begins p ended none =
    let is = listing-IsPart p ended in
    let rows : p.gone.rows ≡ 0 = ap (λ (g : Gone). g.rows) none in
    let breaks : p.gone.discontinuities ≡ 0 = ap (λ (g : Gone). g.discontinuities) none in
    record {
      up_to = is.up_to;
      sequence = omega (arith, is.sequence, rows);
      discontinuities = omega (arith, is.discontinuities, breaks);
      lists = is.lists;
    }

-- entries up to a later place, in two parts
history-front : (history more : List Entry) (f g : ℕ) → f ≤ length history →
    count_by (λ e. e.discontinuity) (take (f + g) (history ++ more))
    ≡ count_by (λ e. e.discontinuity) (take f history) + count_by (λ e. e.discontinuity) (take g (drop f history ++ more))
history-front history more f g up_to =
    let front : take f (history ++ more) ≡ take f history = take-append-le f history more up_to in
    let back : drop f (history ++ more) ≡ drop f history ++ more = drop-append-le f history more up_to in
    ap (count_by (λ (e : Entry). e.discontinuity)) (take-add f g (history ++ more))
    ∙ sum_by-append (λ (e : Entry). cond e.discontinuity 1 0) (take f (history ++ more)) (take g (drop f (history ++ more)))
    ∙ rw (front, back) refl

pub history-resumed : (p : Pushed) (window : ℕ) (more : List SegmentRow) (ended later : Bool) (history : List Entry) (f : ℕ) →
    IsPartOf (listing_of p ended) history f →
    IsPartOf (listing_of (resumed p window more) later) (history ++ map entry_of more) (f + first (resumed p window more))
history-resumed p window more ended later history f is =
    let g = first (resumed p window more) in
    let old = listing-IsPart-listed p ended in
    let new = listing-IsPart-resumed p window more later in
    let entries : map entry_of (listed p) ≡ drop f history = sym old.lists ∙ is.lists in
    let len : length (map entry_of (listed p)) ≡ length history - f = ap length entries ∙ length-drop f history in
    let up : g ≤ length (map entry_of (listed p)) + length (map entry_of more) = omega (arith, new.up_to, length-append (map entry_of (listed p)) (map entry_of more)) in
    let counted : count_by (λ e. e.discontinuity) (take g (map entry_of (listed p) ++ map entry_of more)) ≡ count_by (λ e. e.discontinuity) (take g (drop f history ++ map entry_of more))
    = ap (λ (es : List Entry). count_by (λ (e : Entry). e.discontinuity) (take g (es ++ map entry_of more))) entries in
    let rest : drop g (map entry_of (listed p) ++ map entry_of more) ≡ drop (f + g) (history ++ map entry_of more)
    = ap (λ (es : List Entry). drop g (es ++ map entry_of more)) entries
    ∙ ap (drop g) (sym (drop-append-le f history (map entry_of more) is.up_to)) ∙ drop-drop g f (history ++ map entry_of more) in
    record {
      up_to = omega (arith, up, len, is.up_to, length-append history (map entry_of more));
      sequence = omega (arith, new.sequence, old.sequence, is.sequence);
      discontinuities = omega (arith, new.discontinuities, old.discontinuities, is.discontinuities, counted, history-front history (map entry_of more) f g is.up_to);
      lists = new.lists ∙ rest;
    }

pub history-within : (p : Pushed) (more : List SegmentRow) (ended later : Bool) (history : List Entry) (f : ℕ) →
    IsPartOf (listing_of p ended) history f →
    IsPartOf (listing_of (with_more p more) later) (history ++ map entry_of more) (f + first (resumed p p.window more))
history-within p more ended later history f is =
    rw (← resumed-listing p more later) (history-resumed p p.window more ended later history f is)
