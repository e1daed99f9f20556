-- The listing of the rows of some plans, and what its segments unpack to.
use Rattle.std.proofs.Common.{◌≡◌, ◌∙◌, ℕ, zero, suc, ◌+◌, ◌-◌, ◌*◌, ◌/◌, ◌<◌, ◌≤◌, Bool, true, false, List, [], ◌∷◌, ◌++◌, map, length, drop, get_or, Some, slice_get, refl, ap, sym, subst, arith}
use Rattle.std.specs.Prelude.{if◌then◌else◌, take}
use Rattle.std.proofs.lemmas.Bool.{false≢true}
use Rattle.std.proofs.lemmas.List.{length-map}
use Rattle.std.proofs.lemmas.Option.{get_or_from_slice_get}
use Rattle.aes_cbc.specs.Chain.{sealed_text}
use Rattle.psi_tables.specs.Head.{head}
use Rattle.cutter.specs.declared.settings.CutSettings.{CutSettings}
use Rattle.cutter.specs.Plans.{SegmentPlan}
use Rattle.cutter.specs.Ordered.{IsPlan}
use Rattle.cutter.specs.Segments.{seconds}
use Rattle.playlist_text.specs.Vectors.{salted_vector}
use Rattle.segment_job.specs.Rotation.{KeyRotation, IsRotation, number_of, key_index, key_of, vector_of}
use Rattle.segment_job.specs.Segments.{plain, sealed_segment}
use Rattle.playlist_text.specs.MediaLines.{Entry, Listing, listing_lines}
use Rattle.media_playlist.specs.Rows.{SegmentRow}
use Rattle.media_playlist.specs.Listed.{Pushed, first, first_listed, listed, removed, discontinuity_count}
use Rattle.media_playlist.specs.declared.row.Gone.{Gone}
use Rattle.media_playlist.specs.Lines.{entry_of, unless_empty, listing_of, media_lines}
use Rattle.ladder_items.specs.declared.settings.Kind.{Kind}
use Rattle.ladder_items.specs.declared.settings.Kind.TheVariants.{Live, Event}
use Rattle.ladder_items.specs.Ladder.{is_event, least_listed, HasAll}
use Rattle.ladder_items.specs.Rows.{row_of, rows_of}
use Rattle.ingest.specs.Sealable.{IsOfBytes}
use Rattle.hls_check.specs.Unpacking.{packed, entry_at, bytes_at, Unpacks, AllUnpack}
use Rattle.media_reading.specs.MediaTexts.{AreListed}
use Rattle.ladder_items.proofs.Elsewhere.{some-at}
use Rattle.round_trip.proofs.Places.{mapped-at}

-- what a window lists
abbrev pub window_listing : Pushed → Bool → Listing
window_listing pushed ended = record {
  name = pushed.name;
  target = pushed.target;
  sequence = pushed.gone.rows + first pushed;
  discontinuity_sequence = pushed.gone.discontinuities + discontinuity_count (removed pushed);
  event = pushed.event;
  salt = pushed.salt;
  entries = map entry_of (listed pushed);
  ended = ended;
}

unless-some : (rows : List SegmentRow) (lines : List (List ℕ)) → 0 < length rows → unless_empty rows lines ≡ lines
unless-some [] lines some = absurd (omega (arith, some))
unless-some (row ∷ rows) lines some = refl

pub lines-are : (pushed : Pushed) (ended : Bool) → 0 < length pushed.rows → media_lines pushed ended ≡ listing_lines (window_listing pushed ended)
unfolding media_lines listing_of
lines-are pushed ended some = unless-some pushed.rows (listing_lines (window_listing pushed ended)) some

by-place : (j n window : ℕ) → 1 ≤ window → 0 < n → (0 < j → window ≤ n - j) → j < n
by-place zero n window one some many = some
by-place (suc j) n window one some many = let few : window ≤ n - suc j = many (omega arith) in omega (arith, few, one)

-- some row is listed
pub some-listed : (target window : ℕ) (rows : List SegmentRow) → (0 < first_listed target window rows → window ≤ length (drop (first_listed target window rows) rows))
    → length (drop (first_listed target window rows) rows) ≡ length rows - first_listed target window rows → 1 ≤ window → 0 < length rows → first_listed target window rows < length rows
some-listed target window rows many left one some =
    by-place (first_listed target window rows) (length rows) window one some (λ below. omega (arith, many below, left))

-- of a window, also where it is one of an event, which lists all rows
pub some-in-window : (event : Bool) (kind : Kind) (target window : ℕ) (rows : List SegmentRow) → event ≡ is_event kind
    → (0 < first_listed target window rows → window ≤ length (drop (first_listed target window rows) rows))
    → length (drop (first_listed target window rows) rows) ≡ length rows - first_listed target window rows → 1 ≤ window → 0 < length rows
    → (if event then 0 else first_listed target (least_listed kind window) rows) < length rows
some-in-window true kind target window rows is many left one some = some
some-in-window false Live target window rows is many left one some = some-listed target window rows many left one some
some-in-window false Event target window rows is many left one some = absurd (false≢true is)

-- the window of an event begins at its first row
pub event-begins : (pushed : Pushed) → pushed.event ≡ true → (first pushed ≡ 0) × (discontinuity_count (removed pushed) ≡ 0)
event-begins pushed is =
    let zero_is : first pushed ≡ 0 = ap (λ (event : Bool). if event then 0 else first_listed pushed.target pushed.window pushed.rows) is in
    (zero_is, ap (λ (j : ℕ). discontinuity_count (take j pushed.rows)) zero_is)

-- .. and nothing is gone of an event
pub has-all : (kind : Kind) (gone : Gone) → HasAll kind gone → is_event kind ≡ true → (gone.rows ≡ 0) × (gone.discontinuities ≡ 0)
has-all Live gone all is = absurd (false≢true is)
has-all Event gone all is = all

-- the index of a key is that of one
turn-below : (keys : KeyRotation) (n : ℕ) → IsRotation keys → key_index keys n < length keys.keys
turn-below keys n is = let some = is.some in omega (arith, some)

-- the plans are those of segments from number n on
abbrev pub AreFrom : ℕ → CutSettings → ℕ → List SegmentPlan → Type 0
AreFrom r cut n plans = (i : ℕ) (plan : SegmentPlan) → slice_get plans i ≡ Some plan → IsPlan r cut (n + i) plan

abbrev pub Rounds : Type 0
Rounds = (ticks : ℕ) → seconds ticks ≡ ((200 * ticks + 9) / 18 + 500000) / 1000000

pub listed-on : Rounds → (r : ℕ) (cut : CutSettings) (keys : KeyRotation) (n : ℕ) (plans : List SegmentPlan) → IsRotation keys → keys.first ≤ 0xFFFFFFFE → 0 < cut.frame
    → AreFrom r cut n plans → AreListed cut.target (number_of keys n) (map entry_of (rows_of keys plans))
unfolding row_of
listed-on rounds r cut keys n [] rotation limit frame are = tt
listed-on rounds r cut keys n (plan ∷ plans) rotation limit frame are =
    let is = are 0 plan refl in
    let lasts = is.lasts frame in
    let turn = turn-below keys plan.number rotation in
    let few = rotation.few in
    let up : number_of keys (n + 1) ≡ number_of keys n + 1 = omega arith in (
      record {
        number = omega (arith, is.number);
        below = omega (arith, is.below, limit);
        key = omega (arith, turn, few);
        lasts = omega (arith, lasts);
        short = omega (arith, is.short, rounds plan.ticks);
      },
      subst (λ (m : ℕ). AreListed cut.target m (map entry_of (rows_of keys plans))) up
          (listed-on rounds r cut keys (n + 1) plans rotation limit frame (λ i p at. let next : n + suc i ≡ n + 1 + i = omega arith in subst (λ k. IsPlan r cut k p) next (are (suc i) p at))),
    )

-- the sealed bytes of a plan's segment
abbrev pub bytes_of : KeyRotation → SegmentPlan → List ℕ
bytes_of keys plan = sealed_text (key_of keys plan.number) (vector_of keys plan.number) (plain plan)

abbrev no_entry : Entry
no_entry = record { number = 0; key = 0; micros = 0; discontinuity = false }

unpack-one : (keys : KeyRotation) (plans : List SegmentPlan) (i : ℕ) (plan : SegmentPlan) → IsRotation keys → slice_get plans i ≡ Some plan → i < length plans → IsOfBytes plan
    → Unpacks (packed keys.salt (map entry_of (rows_of keys plans)) (map (bytes_of keys) plans) keys.keys) i (get_or (map (λ p. p.body) plans) i [])
unfolding row_of
unpack-one keys plans i plan rotation at below of =
    let rows = rows_of keys plans in
    let row = row_of keys (sealed_segment keys plan) in
    let p = packed keys.salt (map entry_of rows) (map (bytes_of keys) plans) keys.keys in
    let entry : entry_at p i ≡ entry_of row =
    get_or_from_slice_get (map entry_of rows) i (entry_of row) no_entry (mapped-at entry_of rows i row (mapped-at (λ x. row_of keys (sealed_segment keys x)) plans i plan at)) in
    let bytes : bytes_at p i ≡ bytes_of keys plan = get_or_from_slice_get (map (bytes_of keys) plans) i (bytes_of keys plan) [] (mapped-at (bytes_of keys) plans i plan at) in
    let body : get_or (map (λ (x : SegmentPlan). x.body) plans) i [] ≡ plan.body = get_or_from_slice_get (map (λ (x : SegmentPlan). x.body) plans) i plan.body [] (mapped-at (λ (x : SegmentPlan). x.body) plans i plan at) in
    record {
      there = record {
        segment = omega (arith, below, length-map plans (bytes_of keys));
        key = subst (λ (e : Entry). e.key < length keys.keys) (sym entry) (turn-below keys plan.number rotation);
      };
      text = plain plan;
      opens = record {
        bytes = of.bytes;
        sealed = bytes ∙ ap (λ (e : Entry). sealed_text (get_or keys.keys e.key []) (salted_vector keys.salt e.number) (plain plan)) (sym entry);
      };
      begins = record {
        tables = plan.tables;
        pat_counter = plan.pat_counter;
        pmt_counter = plan.pmt_counter;
        sendable = of.tables;
        whole = ap (λ l. head plan.tables plan.pat_counter plan.pmt_counter ++ l) (sym body);
      };
    }

pub unpack-all : (keys : KeyRotation) (plans : List SegmentPlan) → IsRotation keys → ((i : ℕ) (plan : SegmentPlan) → slice_get plans i ≡ Some plan → IsOfBytes plan)
    → AllUnpack (packed keys.salt (map entry_of (rows_of keys plans)) (map (bytes_of keys) plans) keys.keys) (map (λ p. p.body) plans)
unpack-all keys plans rotation of =
    let long = length-map plans (λ (p : SegmentPlan). p.body) in
    let rows = length-map plans (λ p. row_of keys (sealed_segment keys p)) in
    let entries = length-map (rows_of keys plans) entry_of in
    record {
      each_one = omega (arith, long, rows, entries);
      unpacks = λ i lt.
          let below : i < length plans = omega (arith, lt, long) in
          let at = some-at plans i below in
          unpack-one keys plans i at.0 rotation at.1 below (of i at.0 at.1);
    }
