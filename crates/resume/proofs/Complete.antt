-- What the playlists of a rendition are of is read back.
use Rattle.std.proofs.Common.{◌≡◌, ℕ, ◌+◌, ◌<◌, false, List, length, map, get_or, refl, sym, ap, ◌∙◌, arith}
use Rattle.std.specs.Prelude.{All}
use Rattle.std.proofs.lemmas.Bool.{false≢true}
use Rattle.std.proofs.lemmas.List.{length-map}
use Rattle.std.proofs.lemmas.Option.{slice_get-get_or}
use Rattle.playlist_text.specs.Lines.{text_of}
use Rattle.playlist_text.specs.MediaLines.{Listing}
use Rattle.media_playlist.specs.Rows.{SegmentRow}
use Rattle.media_playlist.specs.Lines.{entry_of}
use Rattle.media_reading.specs.MediaTexts.{IsListing, IsLine}
use Rattle.resume.specs.declared.restored.Wanted.{Wanted}
use Rattle.resume.specs.declared.fault.ResumeFault.{ResumeFault}
use Rattle.resume.specs.declared.fault.ResumeFault.TheVariants.{Ended, OtherTarget, OtherSalt, OtherKind, Limit, Foreign, NoMemory}
use Rattle.resume.specs.Wanting.{IsRefused}
use Rattle.resume.specs.Restoring.{RestoredValue, window_over, MayGoOn, IsRestored}
use Rattle.resume.specs.Picking.{Picks, no_picks, pick_lines}
use Rattle.resume.specs.Reading.{AreRowsOf, ArePicked}
use Rattle.resume.proofs.Asking.{first-zero}
use Rattle.resume.proofs.Listing.{made, listing-whole}
use Rattle.resume.proofs.Reading.{next-rows-same}
use Rattle.resume.proofs.PickedRows.{IsPlain, all-picked}
use Rattle.resume.proofs.FrameText.{IsPlainRow, frame_playlist, frame_playlist-IsLine, iframes-whole}

-- what the window lists, field by field
pub listed : (name : List ℕ) (wanted : Wanted) (l : Listing) (frames sizes : List ℕ) (r : RestoredValue) → IsRestored name wanted l frames sizes r →
    let w = window_over name wanted r in
    l ≡ made name wanted.target r.gone.rows r.gone.discontinuities w.event wanted.salt (map entry_of r.earlier) false
listed name wanted l frames sizes r is = is.lists ∙ listing-whole (window_over name wanted r) (first-zero name wanted r)

pub rows-of : (name : List ℕ) (wanted : Wanted) (l : Listing) (frames sizes : List ℕ) (r : RestoredValue) → IsRestored name wanted l frames sizes r →
    AreRowsOf l sizes r.earlier
rows-of name wanted l frames sizes r is =
    let fields = listed name wanted l frames sizes r is in
    record {
      entries_are = ap (λ (m : Listing). m.entries) fields;
      sizes_are = is.sizes_are;
      follow = next-rows-same wanted.target l.target r.gone.rows l.sequence r.earlier r.earlier (ap (λ (m : Listing). m.target) fields)
          (ap (λ (m : Listing). m.sequence) fields) refl is.may_go_on.follow;
      lie_within = is.may_go_on.lie_within;
    }

plain-rows : (wanted : Wanted) (r : RestoredValue) → MayGoOn wanted r → All IsPlainRow r.earlier
plain-rows wanted r may = λ k d lt.
    let row = get_or r.earlier k d in
    let next = may.follow k row (slice_get-get_or r.earlier k d lt) in
    record {
      number = omega (arith, next.number, may.next, may.limit, lt);
      key = omega (arith, may.turns k d lt);
      frames = λ j f jt. record {
        offset = omega (arith, may.lie_within k d lt j f jt, next.size);
        len = omega (arith, (next.frames j f jt).size);
        micros = omega (arith, (next.frames j f jt).micros);
      };
    }

plain-frames : (rows : List SegmentRow) → All IsPlainRow rows → All (λ (row : SegmentRow). All IsPlain row.frames) rows
plain-frames rows plain = λ k d lt. (plain k d lt).frames

pub are-picked : (name : List ℕ) (wanted : Wanted) (l : Listing) (frames sizes : List ℕ) (r : RestoredValue) (p : Picks) → IsListing l →
    IsRestored name wanted l frames sizes r → ((lines : List (List ℕ)) → All IsLine lines → frames ≡ text_of lines → p ≡ pick_lines no_picks lines) →
    ArePicked p r.gone.frames r.earlier
are-picked name wanted l frames sizes r p listing is picked =
    let may = is.may_go_on in
    let w = window_over name wanted r in
    let fields = listed name wanted l frames sizes r is in
    let target : l.target ≡ wanted.target = ap (λ (m : Listing). m.target) fields in
    let some : 0 < length r.earlier = omega (arith, listing.some, ap (λ (m : Listing). length m.entries) fields, length-map r.earlier entry_of) in
    let plain = plain-rows wanted r may in
    let lines = frame_playlist wanted.target r.gone.frames r.gone.discontinuities w.event name wanted.salt r.earlier in
    let each = frame_playlist-IsLine wanted.target r.gone.frames r.gone.discontinuities w.event name wanted.salt r.earlier
    (omega (arith, target, listing.target)) (omega (arith, may.frames)) (omega (arith, may.discontinuities)) plain in
    let text : frames ≡ text_of lines = is.frames_text ∙ ap text_of (iframes-whole w (first-zero name wanted r) some) in
    let same = picked lines each text in
    let has = all-picked wanted.target r.gone.frames r.gone.discontinuities w.event name wanted.salt r.earlier (omega (arith, may.frames)) (plain-frames r.earlier plain) in
    record {
      first_is = ap (λ (q : Picks). q.first) same ∙ has.first;
      frames_are = ap (λ (q : Picks). q.frames) same ∙ has.frames_are;
      starts_are = ap (λ (q : Picks). q.starts) same ∙ has.starts_are;
    }

-- none is refused
pub not-refused : (name : List ℕ) (wanted : Wanted) (l : Listing) (frames sizes : List ℕ) (r : RestoredValue) (fault : ResumeFault) →
    IsRestored name wanted l frames sizes r → IsRefused wanted l fault → ⊥
not-refused name wanted l frames sizes r Ended is told = false≢true (sym (ap (λ (m : Listing). m.ended) (listed name wanted l frames sizes r is)) ∙ told)
not-refused name wanted l frames sizes r OtherTarget is told = told.1 (ap (λ (m : Listing). m.target) (listed name wanted l frames sizes r is))
not-refused name wanted l frames sizes r OtherSalt is told = told.2 (ap (λ (m : Listing). m.salt) (listed name wanted l frames sizes r is))
not-refused name wanted l frames sizes r OtherKind is told = told.3 (ap (λ (m : Listing). m.event) (listed name wanted l frames sizes r is))
not-refused name wanted l frames sizes r Limit is told =
    let fields = listed name wanted l frames sizes r is in
    let count : length l.entries ≡ length r.earlier = ap (λ (m : Listing). length m.entries) fields ∙ length-map r.earlier entry_of in
    let may = is.may_go_on in
    told.4 (record {
      next = omega (arith, count, ap (λ (m : Listing). m.sequence) fields, may.next, may.limit);
      discontinuities = omega (arith, count, ap (λ (m : Listing). m.discontinuity_sequence) fields, may.discontinuities);
      few = omega (arith, count, may.few);
    })
not-refused name wanted l frames sizes r Foreign is told = told
not-refused name wanted l frames sizes r NoMemory is told = told

abbrev value : ℕ → ℕ → ℕ → List SegmentRow → ℕ → RestoredValue
value rows frames discontinuities earlier next =
    record { gone = record { rows = rows; frames = frames; discontinuities = discontinuities }; earlier = earlier; next = next }

-- what is read back is all of it
pub read-same : (name : List ℕ) (wanted : Wanted) (l : Listing) (frames sizes : List ℕ) (r x : RestoredValue) → IsRestored name wanted l frames sizes r →
    x.gone.rows ≡ l.sequence → x.gone.frames ≡ r.gone.frames → x.gone.discontinuities ≡ l.discontinuity_sequence → x.earlier ≡ r.earlier →
    x.next ≡ l.sequence + length x.earlier → x ≡ r
read-same name wanted l frames sizes r x is rows gone_frames breaks earlier next =
    let fields = listed name wanted l frames sizes r is in
    let a : x.gone.rows ≡ r.gone.rows = rows ∙ ap (λ (m : Listing). m.sequence) fields in
    let b : x.gone.discontinuities ≡ r.gone.discontinuities = breaks ∙ ap (λ (m : Listing). m.discontinuity_sequence) fields in
    let e : x.next ≡ r.next = omega (arith, next, ap (λ (m : Listing). m.sequence) fields, ap length earlier, is.may_go_on.next) in
    let same : value x.gone.rows x.gone.frames x.gone.discontinuities x.earlier x.next ≡ value r.gone.rows r.gone.frames r.gone.discontinuities r.earlier r.next =
    rw (a, gone_frames, b, earlier, e) refl in
    same
