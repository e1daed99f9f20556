-- What was read back is what a rendition goes on behind.
use Rattle.std.proofs.Common.{◌≡◌, ℕ, ◌+◌, ◌<◌, false, true, List, [], ◌∷◌, length, map, refl, sym, ap, subst, ◌∙◌, arith}
use Rattle.std.proofs.lemmas.List.{length-map}
use Rattle.std.specs.Prelude.{All}
use Rattle.std.proofs.lemmas.List.Elements.{All-nil, All-cons}
use Rattle.playlist_text.specs.Lines.{text_of}
use Rattle.playlist_text.specs.MediaLines.{Entry, Listing}
use Rattle.media_playlist.specs.declared.row.Gone.{Gone}
use Rattle.media_playlist.specs.Rows.{SegmentRow}
use Rattle.media_playlist.specs.Lines.{entry_of, listing_of, iframe_lines}
use Rattle.media_reading.specs.MediaTexts.{IsListing, AreListed, listing_text}
use Rattle.ladder_items.specs.Ladder.{is_event, HasAll}
use Rattle.ladder_items.specs.Shown.{AreNextRows}
use Rattle.ladder_items.specs.declared.settings.Kind.{Kind}
use Rattle.ladder_items.specs.declared.settings.Kind.TheVariants.{Live, Event}
use Rattle.limits.specs.declared.TheConstants.{MOST_KEYS}
use Rattle.resume.specs.declared.restored.Wanted.{Wanted}
use Rattle.resume.specs.Wanting.{IsAsWanted}
use Rattle.resume.specs.Restoring.{RestoredValue, window_over, MayGoOn, IsRestored}
use Rattle.resume.specs.Reading.{AreRowsOf, IsReadBack}
use Rattle.resume.proofs.Listing.{lists-same, text-listed}

-- under other names
pub next-rows-same : (target t first f : ℕ) (rows xs : List SegmentRow) → t ≡ target → f ≡ first → xs ≡ rows → AreNextRows target first rows →
    AreNextRows t f xs
next-rows-same target t first f rows xs a b c follow = rw (a, b, c) follow

-- the keys of what is listed are of those that may be
listed-keys : (target n : ℕ) (rows : List SegmentRow) → AreListed target n (map entry_of rows) → All (λ (row : SegmentRow). row.key < MOST_KEYS) rows
listed-keys target n [] listed = All-nil (λ (row : SegmentRow). row.key < MOST_KEYS)
listed-keys target n (row ∷ rows) listed =
    All-cons (λ (r : SegmentRow). r.key < MOST_KEYS) row rows listed.0.key (listed-keys target (n + 1) rows listed.1)

-- an event lists all from 0 on
has-all : (kind : Kind) (gone : Gone) (l : Listing) → (l.event ≡ true → (l.sequence ≡ 0) × (l.discontinuity_sequence ≡ 0)) → l.event ≡ is_event kind →
    gone.rows ≡ l.sequence → gone.discontinuities ≡ l.discontinuity_sequence → HasAll kind gone
has-all Live gone l none is rows breaks = tt
has-all Event gone l none is rows breaks = (rows ∙ (none is).0, breaks ∙ (none is).1)

count-same : (l : Listing) (sizes : List ℕ) (rows : List SegmentRow) → AreRowsOf l sizes rows → length l.entries ≡ length rows
count-same l sizes rows are = ap length are.entries_are ∙ length-map rows entry_of

pub may-go-on : (wanted : Wanted) (l : Listing) (sizes : List ℕ) (r : RestoredValue) → IsListing l → IsAsWanted wanted l → IsReadBack l sizes r → MayGoOn wanted r
may-go-on wanted l sizes r listing is read =
    let count : length l.entries ≡ length r.earlier = count-same l sizes r.earlier read.rows in
    let listed : AreListed l.target l.sequence (map entry_of r.earlier) = subst (λ (es : List Entry). AreListed l.target l.sequence es) read.rows.entries_are listing.entries in
    record {
      next = omega (arith, read.next, read.gone_rows);
      few = omega (arith, count, is.within.few);
      follow = next-rows-same l.target wanted.target l.sequence r.gone.rows r.earlier r.earlier (sym is.target) read.gone_rows refl read.rows.follow;
      lie_within = read.rows.lie_within;
      turns = listed-keys l.target l.sequence r.earlier listed;
      limit = omega (arith, count, read.next, is.within.next);
      discontinuities = omega (arith, count, read.gone_discontinuities, is.within.discontinuities);
      frames = read.gone_frames;
      all = has-all wanted.kind r.gone l listing.event is.kind read.gone_rows read.gone_discontinuities;
    }

pub is-restored : (name : List ℕ) (wanted : Wanted) (l : Listing) (frames sizes : List ℕ) (r : RestoredValue) → IsListing l → IsAsWanted wanted l →
    IsReadBack l sizes r → l.name ≡ name → frames ≡ text_of (iframe_lines (window_over name wanted r) false) → IsRestored name wanted l frames sizes r
is-restored name wanted l frames sizes r listing is read named shown =
    let lists : l ≡ listing_of (window_over name wanted r) false =
    lists-same name wanted r l named is.target read.gone_rows read.gone_discontinuities is.kind is.salt read.rows.entries_are is.goes_on in
    let some : 0 < length r.earlier = omega (arith, count-same l sizes r.earlier read.rows, listing.some) in
    record {
      lists = lists;
      media_text = ap listing_text lists ∙ text-listed (window_over name wanted r) some;
      frames_text = shown;
      sizes_are = read.rows.sizes_are;
      may_go_on = may-go-on wanted l sizes r listing is read;
    }
