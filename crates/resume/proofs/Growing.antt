-- Rows that grow by one.
use Rattle.std.proofs.Common.{◌≤◌, zero, suc, ◌⊎◌, Bool, false, add-zero, refl, ◌≡◌, ℕ, ◌+◌, ◌-◌, ◌<◌, inl, inr, Some, List, [], ◌∷◌, ◌++◌, length, take, map, get_or, sym, ap, subst, ◌∙◌, arith, length-append}
use Rattle.std.specs.Prelude.{slice_get, All, Result, Ok, Err, OnErr}
use Rattle.std.proofs.lemmas.Bool.{cases_lt}
use Rattle.std.proofs.lemmas.List.{get_or_default, take_all, take_more, map-append, get_or-map, get_or_append_left, get_or-append_right}
use Rattle.std.proofs.lemmas.List.Elements.{All-nil, All-cons, All-append}
use Rattle.std.proofs.lemmas.Option.{slice_get_within, slice_get-get_or, get_or_from_slice_get}
use Rattle.playlist_text.specs.MediaLines.{Entry, Listing}
use Rattle.media_playlist.specs.declared.row.FrameRow.{FrameRow}
use Rattle.media_playlist.specs.Rows.{SegmentRow}
use Rattle.media_playlist.specs.Lines.{entry_of}
use Rattle.ladder_items.specs.Shown.{IsNextRow, AreNextRows}
use Rattle.resume.specs.Restoring.{LiesWithin}
use Rattle.resume.specs.Picking.{Picks}
use Rattle.resume.specs.Reading.{AreRowsOf, MayBegin, frames_at}

-- what rows tell, one row further
pub told-more : {A : Type 0} (f : SegmentRow → A) (rows new : List SegmentRow) (row : SegmentRow) (told : List A) (i : ℕ) (d : A) →
    new ≡ rows ++ row ∷ [] → map f rows ≡ take i told → i < length told → f row ≡ get_or told i d → map f new ≡ take (i + 1) told
told-more {A} f rows new row told i d pushed so_far lt at =
    ap (map f) pushed ∙ map-append f rows (row ∷ []) ∙ ap (λ (xs : List A). xs ++ f row ∷ []) so_far
    ∙ ap (λ (y : A). take i told ++ y ∷ []) at ∙ sym (take_more told i d lt)

-- rows that follow, and the next
pub follow-more : (target first t f i : ℕ) (rows new : List SegmentRow) (row : SegmentRow) → t ≡ target → f ≡ first → new ≡ rows ++ row ∷ [] → length rows ≡ i →
    AreNextRows target first rows → IsNextRow t (f + i) row → AreNextRows target first new
follow-more target first t f i rows new row same_target same_first pushed count follow next k x is =
    let all = rows ++ row ∷ [] in
    let row_next : IsNextRow target (first + i) row = rw (← same_target, ← same_first) next in
    let there : slice_get all k ≡ Some x = ap (λ (xs : List SegmentRow). slice_get xs k) (sym pushed) ∙ is in
    let lt : k < length all = slice_get_within all k x there in
    let found : get_or all k x ≡ x = get_or_from_slice_get all k x x there in
    elim (cases_lt k i) [
      | inl below ↦
          let old : get_or rows k x ≡ x = sym (get_or_append_left rows (row ∷ []) x k (omega arith)) ∙ found in
          follow k x (slice_get-get_or rows k x (omega arith) ∙ ap Some old)
      | inr above ↦
          let here : k ≡ i = omega (arith, length-append rows (row ∷ [])) in
          let none : i - i ≡ 0 = omega arith in
          let last : row ≡ x = ap (λ (n : ℕ). get_or (row ∷ []) n x) (sym none) ∙ sym (get_or-append_right rows (row ∷ []) i i x count (omega arith)) ∙ ap (λ (n : ℕ). get_or all n x) (sym here) ∙ found in
          rw here (subst (λ (y : SegmentRow). IsNextRow target (first + i) y) last row_next)
    ]

abbrev pub no_row : SegmentRow
no_row = record { number = 0; size = 0; micros = 0; key = 0; discontinuity = false; frames = [] }

abbrev made : ℕ → ℕ → ℕ → ℕ → Bool → List FrameRow → SegmentRow
made number size micros key discontinuity frames =
    record { number = number; size = size; micros = micros; key = key; discontinuity = discontinuity; frames = frames }

-- a fact that holds anyhow
pub OnErr-fact : {T E P : Type 0} (r : Result T E) → P → OnErr r P
OnErr-fact (Ok x) p = tt
OnErr-fact (Err e) p = p

-- a row that has an I-frame, or may come next: where it is the first, rows may begin
pub may-begin : (l : Listing) (sizes : List ℕ) (p : Picks) (row : SegmentRow) (i : ℕ) (e : Entry) → i ≡ 0 → i < length l.entries → i < length sizes →
    entry_of row ≡ get_or l.entries i e → row.size ≡ get_or sizes i 0 → row.frames ≡ frames_at p i →
    (0 < length row.frames) ⊎ (IsNextRow l.target (l.sequence + i) row × All (LiesWithin row.size) row.frames) → MayBegin l sizes p
may-begin l sizes p row (suc i) e first within sized entry size frames may = absurd (omega (arith, first))
may-begin l sizes p row zero e first within sized entry size frames may = record {
  row = row;
  entry_is = λ d. entry ∙ get_or_default l.entries 0 e d within;
  size_is = λ d. size ∙ get_or_default sizes 0 0 d sized;
  frames_are = frames;
  may = rw add-zero at may;
}

-- a row is what its playlists and its file tell
pub row-same : (a b : SegmentRow) → entry_of a ≡ entry_of b → a.size ≡ b.size → a.frames ≡ b.frames → a ≡ b
row-same a b entry size frames =
    let number : a.number ≡ b.number = ap (λ (e : Entry). e.number) entry in
    let micros : a.micros ≡ b.micros = ap (λ (e : Entry). e.micros) entry in
    let key : a.key ≡ b.key = ap (λ (e : Entry). e.key) entry in
    let breaks : a.discontinuity ≡ b.discontinuity = ap (λ (e : Entry). e.discontinuity) entry in
    let same : made a.number a.size a.micros a.key a.discontinuity a.frames ≡ made b.number b.size b.micros b.key b.discontinuity b.frames =
    rw (number, size, micros, key, breaks, frames) refl in
    same

-- the row of these rows at a place
pub row-at : (l : Listing) (sizes : List ℕ) (rows : List SegmentRow) (row : SegmentRow) (i : ℕ) (e : Entry) → AreRowsOf l sizes rows → i < length rows →
    entry_of row ≡ e → e ≡ get_or l.entries i e → row.size ≡ get_or sizes i 0 → row.frames ≡ (get_or rows i no_row).frames → row ≡ get_or rows i no_row
row-at l sizes rows row i e are lt entry at size frames =
    row-same row (get_or rows i no_row)
    (entry ∙ at ∙ ap (λ (es : List Entry). get_or es i e) are.entries_are ∙ get_or-map entry_of rows i no_row e lt)
    (size ∙ ap (λ (xs : List ℕ). get_or xs i 0) are.sizes_are ∙ get_or-map (λ (r : SegmentRow). r.size) rows i no_row 0 lt)
    frames

-- it follows those before it
pub next-at : (l : Listing) (sizes : List ℕ) (rows : List SegmentRow) (i : ℕ) → AreRowsOf l sizes rows → i < length rows →
    IsNextRow l.target (l.sequence + i) (get_or rows i no_row)
next-at l sizes rows i are lt = are.follow i (get_or rows i no_row) (slice_get-get_or rows i no_row lt)

-- one row further
pub whole-more : (rows all new : List SegmentRow) (row : SegmentRow) (i : ℕ) → new ≡ rows ++ row ∷ [] → rows ≡ take i all → i < length all →
    row ≡ get_or all i no_row → new ≡ take (i + 1) all
whole-more rows all new row i pushed so_far lt at =
    pushed ∙ ap (λ (xs : List SegmentRow). xs ++ row ∷ []) so_far ∙ ap (λ (x : SegmentRow). take i all ++ x ∷ []) at ∙ sym (take_more all i no_row lt)

-- I-frames within their files, in one row more
pub lie-more : (rows new : List SegmentRow) (row : SegmentRow) → new ≡ rows ++ row ∷ [] → All (λ (r : SegmentRow). All (LiesWithin r.size) r.frames) rows →
    All (LiesWithin row.size) row.frames → All (λ (r : SegmentRow). All (LiesWithin r.size) r.frames) new
lie-more rows new row pushed each one =
    let P = λ (r : SegmentRow). All (LiesWithin r.size) r.frames in
    subst (λ (xs : List SegmentRow). All P xs) (sym pushed) (All-append P rows (row ∷ []) each (All-cons P row [] one (All-nil P)))

-- all rows were taken
pub whole-end : (rows all : List SegmentRow) (i : ℕ) → rows ≡ take i all → length all ≤ i → rows ≡ all
whole-end rows all i so_far past = so_far ∙ take_all i all past

-- it follows, and its I-frames lie within its file
pub may-follow : (l : Listing) (sizes : List ℕ) (rows : List SegmentRow) (row : SegmentRow) (t f i : ℕ) → AreRowsOf l sizes rows → i < length rows →
    row ≡ get_or rows i no_row → t ≡ l.target → f ≡ l.sequence → IsNextRow t (f + i) row × All (LiesWithin row.size) row.frames
may-follow l sizes rows row t f i are lt is target first =
    (rw (is, target, first) (next-at l sizes rows i are lt), rw is (are.lie_within i no_row lt))
