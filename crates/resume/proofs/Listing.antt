-- What a window over earlier rows lists.
use Rattle.std.proofs.Common.{◌≡◌, ℕ, ◌+◌, ◌<◌, Bool, false, Option, List, ◌++◌, length, drop, take, map, refl, sym, ap, subst, ◌∙◌, arith}
use Rattle.playlist_text.specs.Lines.{text_of}
use Rattle.playlist_text.specs.MediaLines.{Entry, Listing, listing_lines}
use Rattle.media_playlist.specs.declared.row.Gone.{Gone}
use Rattle.media_playlist.specs.Rows.{SegmentRow}
use Rattle.media_playlist.specs.Listed.{Pushed, first, gone_with, gone_of, listed, discontinuity_count}
use Rattle.media_playlist.specs.Lines.{entry_of, listing_of, media_lines}
use Rattle.media_playlist.specs.Seen.{IsPartOf, resumed}
use Rattle.media_playlist.proofs.Resuming.{history-resumed}
use Rattle.media_playlist.proofs.WindowLines.{unless_empty-some}
use Rattle.media_reading.specs.MediaTexts.{listing_text}
use Rattle.resume.specs.declared.restored.Wanted.{Wanted}
use Rattle.resume.specs.Restoring.{RestoredValue, window_over, window_behind, IsRestored}
use Rattle.resume.proofs.Asking.{first-zero}

abbrev pub made : List ℕ → ℕ → ℕ → ℕ → Bool → Option (List ℕ) → List Entry → Bool → Listing
made name target sequence discontinuities event salt entries ended = record {
  name = name;
  target = target;
  sequence = sequence;
  discontinuity_sequence = discontinuities;
  event = event;
  salt = salt;
  entries = entries;
  ended = ended;
}

listed-whole : (w : Pushed) (j : ℕ) → j ≡ 0 →
    made w.name w.target (w.gone.rows + j) (w.gone.discontinuities + discontinuity_count (take j w.rows)) w.event w.salt (map entry_of (drop j w.rows)) false
    ≡ made w.name w.target w.gone.rows w.gone.discontinuities w.event w.salt (map entry_of w.rows) false
listed-whole w j none =
    let rows : w.gone.rows + 0 ≡ w.gone.rows = omega arith in
    let breaks : w.gone.discontinuities + 0 ≡ w.gone.discontinuities = omega arith in
    rw (none, rows, breaks) refl

-- a window that removed no row lists all of them
pub listing-whole : (w : Pushed) → first w ≡ 0 →
    listing_of w false ≡ made w.name w.target w.gone.rows w.gone.discontinuities w.event w.salt (map entry_of w.rows) false
unfolding listing_of
listing-whole w none = listed-whole w (first w) none

-- the text of what it lists is its text
pub text-listed : (w : Pushed) → 0 < length w.rows → listing_text (listing_of w false) ≡ text_of (media_lines w false)
unfolding media_lines
text-listed w some = rw (unless_empty-some w.rows (listing_lines (listing_of w false)) some) refl

made-same : (l : Listing) (name : List ℕ) (target sequence discontinuities : ℕ) (event : Bool) (salt : Option (List ℕ)) (entries : List Entry) →
    l.name ≡ name → l.target ≡ target → sequence ≡ l.sequence → discontinuities ≡ l.discontinuity_sequence → l.event ≡ event → l.salt ≡ salt →
    l.entries ≡ entries → l.ended ≡ false →
    l ≡ made name target sequence discontinuities event salt entries false
made-same l name target sequence discontinuities event salt entries a b c d e f g h = rw (c, d, ← a, ← b, ← e, ← f, ← g, ← h) refl

-- so a window lists just what a playlist does, field by field
pub lists-same : (name : List ℕ) (wanted : Wanted) (r : RestoredValue) (l : Listing) →
    let w = window_over name wanted r in
    l.name ≡ name → l.target ≡ wanted.target → r.gone.rows ≡ l.sequence → r.gone.discontinuities ≡ l.discontinuity_sequence →
    l.event ≡ w.event → l.salt ≡ wanted.salt → l.entries ≡ map entry_of r.earlier → l.ended ≡ false →
    l ≡ listing_of w false
lists-same name wanted r l a b c d e f g h =
    let w = window_over name wanted r in
    made-same l name wanted.target r.gone.rows r.gone.discontinuities w.event wanted.salt (map entry_of r.earlier) a b c d e f g h
    ∙ sym (listing-whole w (first-zero name wanted r))

gone-same : (g : Gone) (x y z : ℕ) → x ≡ 0 → y ≡ 0 → z ≡ 0 → record { rows = g.rows + x; frames = g.frames + y; discontinuities = g.discontinuities + z } ≡ g
gone-same g x y z i j k =
    let rows : g.rows + 0 ≡ g.rows = omega arith in
    let frames : g.frames + 0 ≡ g.frames = omega arith in
    let breaks : g.discontinuities + 0 ≡ g.discontinuities = omega arith in
    rw (i, j, k, rows, frames, breaks) refl

resumed-whole : (w : Pushed) (window j : ℕ) (more : List SegmentRow) → j ≡ 0 → first w ≡ j →
    resumed w window more ≡ record w { window = window; rows = w.rows ++ more }
resumed-whole w window j more none at =
    let front : gone_of w ≡ w.gone = ap (λ (i : ℕ). gone_with w.gone (take i w.rows)) (at ∙ none) ∙ gone-same w.gone 0 0 0 refl refl refl in
    let rows : listed w ≡ w.rows = ap (λ (i : ℕ). drop i w.rows) (at ∙ none) in
    rw (front, rows) refl

-- each later playlist lists a part of the history that the restored one lists a part of
pub restored-goes_on : (name : List ℕ) (wanted : Wanted) (l : Listing) (frames sizes : List ℕ) (r : RestoredValue) (window : ℕ)
    (more : List SegmentRow) (ended : Bool) (history : List Entry) (f : ℕ) →
    IsRestored name wanted l frames sizes r → IsPartOf l history f →
    IsPartOf (listing_of (window_behind name wanted r window more) ended) (history ++ map entry_of more)
    (f + first (window_behind name wanted r window more))
restored-goes_on name wanted l frames sizes r window more ended history f is part =
    let w = window_over name wanted r in
    let begins : IsPartOf (listing_of w false) history f = rw is.lists at part in
    let on = history-resumed w window more false ended history f begins in
    subst (λ (v : Pushed). IsPartOf (listing_of v ended) (history ++ map entry_of more) (f + first v)) (resumed-whole w window 0 more refl (first-zero name wanted r)) on
