-- A media playlist of a weave, read back.
use Rattle.std.proofs.Common.{◌≡◌, ◌∙◌, inl, inr, ℕ, ◌+◌, ◌-◌, ◌<◌, ◌≤◌, true, not, Option, None, Some, List, [], ◌∷◌, ◌++◌, map, length, take, drop, get_or, slice_get, refl, ap, sym, subst, arith, append_assoc}
use Rattle.std.specs.List.{All}
use Rattle.std.proofs.Math.ListN.{get_or-eq_default}
use Rattle.std.proofs.Math.Seq.{take-append_seam}
use Rattle.std.proofs.lemmas.Bool.{cases_Bool, cases_lt}
use Rattle.std.proofs.lemmas.List.{map-append, length-map, length-drop, length-append, length-take-le, get_or-map, drop-map}
use Rattle.std.proofs.lemmas.List.Sums.{count_by-le-length}
use Rattle.std.proofs.lemmas.Option.{slice_get_within, get_or_from_slice_get}
use Rattle.ghost_list.specs.Bytes.{AreBytes}
use Rattle.cutter.specs.declared.settings.CutSettings.{CutSettings}
use Rattle.cutter.specs.Plans.{SegmentPlan}
use Rattle.cutter.specs.Ordered.{IsPlan}
use Rattle.segment_job.specs.Rotation.{number_of}
use Rattle.playlist_text.specs.Names.{is_name}
use Rattle.playlist_text.specs.Lines.{text_of}
use Rattle.playlist_text.specs.MediaLines.{Entry}
use Rattle.media_playlist.specs.Rows.{SegmentRow}
use Rattle.media_playlist.specs.Listed.{first, first_listed, discontinuity_count}
use Rattle.media_playlist.specs.Lines.{entry_of}
use Rattle.master_playlist.specs.Listed.{Listed}
use Rattle.master_playlist.specs.declared.fault.MasterFault.{MasterFault}
use Rattle.master_playlist.specs.declared.fault.MasterFault.TheVariants.{BadName}
use Rattle.master_playlist.specs.Faults.{fault_of, Stands}
use Rattle.item_io.specs.Items.{ItemValue, PlaylistValue, MediaItem}
use Rattle.ladder_items.specs.Ladder.{Ladder, GoesOn, no_rendition, rendition_at, is_event, unmeasured, IsAllowed}
use Rattle.item_io.specs.FileNames.{segment_file_name, file_name}
use Rattle.ladder_items.specs.Rows.{row_of, rows_of}
use Rattle.ladder_items.specs.Shown.{in_window, media_text}
use Rattle.ingest.specs.Streams.{plans_of}
use Rattle.ladder_items.specs.Items.{Part, no_part, part_at, shown_of, playlist_of, segment_item, items_of}
use Rattle.ladder_items.specs.Weave.{Weaves}
use Rattle.ladder_laws.specs.Seen.{of_rendition}
use Rattle.ingest.specs.Sealable.{IsOfBytes}
use Rattle.ladder_laws.specs.Openings.{AreOfStreams}
use Rattle.hls_check.specs.Unpacking.{packed, AllUnpack}
use Rattle.media_reading.specs.MediaTexts.{AreListed}
use Rattle.round_trip.specs.Returning.{AreMade, IsMade, sealed_bytes, sealed_of, ComesBack}
use Rattle.ladder_laws.proofs.Salts.{salt-held}
use Rattle.ladder_items.proofs.Elsewhere.{some-at}
use Rattle.round_trip.proofs.Places.{at-drop, at-front}
use Rattle.round_trip.proofs.Earlier.{drop-both, listed-append, earlier-listed}
use Rattle.ladder_laws.proofs.Splitting.{split, seen-split, same-media}
use Rattle.round_trip.proofs.Listing.{window_listing, lines-are, some-in-window, event-begins, has-all, AreFrom, Rounds, listed-on, bytes_of, unpack-all}

-- what the laws say of which this is made
abbrev pub Suffice : Type 0
Suffice = (target window : ℕ) (rows : List SegmentRow) → 0 < first_listed target window rows → window ≤ length (drop (first_listed target window rows) rows)

abbrev pub Unfaulted : Type 0
Unfaulted = (vs : List Listed) (fault : MasterFault) → fault_of vs ≡ None → Stands fault vs → ⊥

abbrev pub HasParts : Type 0
HasParts = (ladder : Ladder) (parts : List Part) (items : List ItemValue) → Weaves ladder parts items → length parts ≡ length ladder.renditions

abbrev pub SeenAlone : Type 0
SeenAlone = (ladder : Ladder) (parts : List Part) (items : List ItemValue) (r : ℕ) → Weaves ladder parts items → of_rendition r items ≡ items_of ladder r (part_at parts r)

abbrev pub Order : Type 0
Order = (r : ℕ) (s : CutSettings) (stream : List ℕ) (n : ℕ) (plan : SegmentPlan) → slice_get (plans_of r s stream) n ≡ Some plan → IsPlan r s n plan

abbrev pub CanBeSealed : Type 0
CanBeSealed = (r : ℕ) (s : CutSettings) (stream : List ℕ) → AreBytes stream → All IsOfBytes (plans_of r s stream)

-- a rendition that may be listed has a name
named : Unfaulted → (ladder : Ladder) (r : ℕ) → IsAllowed ladder → r < length ladder.renditions → is_name (rendition_at ladder r).name ≡ true
named unfaulted ladder r allowed below =
    let v = unmeasured (rendition_at ladder r) in
    let at : get_or (map unmeasured ladder.renditions) r v ≡ v = get_or-map unmeasured ladder.renditions r no_rendition v below in
    elim (cases_Bool (is_name (rendition_at ladder r).name)) as (λ _. is_name (rendition_at ladder r).name ≡ true) [
      | inl so ↦ so
      | inr other ↦ absurd (unfaulted (map unmeasured ladder.renditions) BadName allowed.listable
          (r, v, omega (arith, below, length-map ladder.renditions unmeasured), at, ap not other))
    ]

-- a rendition that has given a segment is one of the parts
part-within : (parts : List Part) (r : ℕ) (given rest : List SegmentPlan) → (part_at parts r).plans ≡ given ++ rest → 0 < length given → r < length parts
part-within parts r given rest e some = elim (cases_lt r (length parts)) as (λ _. r < length parts) [
  | inl below ↦ below
  | inr above ↦
      let none : part_at parts r ≡ no_part = get_or-eq_default parts no_part (omega (arith, above)) in
      absurd (omega (arith, some, ap length (sym e ∙ ap (λ (p : Part). p.plans) none), length-append given rest))
]

sealed-are : (ladder : Ladder) (r : ℕ) (plans : List SegmentPlan) → map sealed_bytes (map (segment_item ladder r) plans) ≡ map (bytes_of (rendition_at ladder r).keys) plans
sealed-are ladder r [] = refl
sealed-are ladder r (plan ∷ plans) = ap (λ l. bytes_of (rendition_at ladder r).keys plan ∷ l) (sealed-are ladder r plans)

-- the names of the files of some plans' segments, by the entries of their rows
names-of : (ladder : Ladder) (r : ℕ) (plans : List SegmentPlan)
    → map (λ (e : Entry). segment_file_name (rendition_at ladder r).name e.number) (map entry_of (rows_of (rendition_at ladder r).keys plans)) ≡ map file_name (map (segment_item ladder r) plans)
unfolding row_of
names-of ladder r [] = refl
names-of ladder r (plan ∷ plans) = ap (λ l. segment_file_name (rendition_at ladder r).name (number_of (rendition_at ladder r).keys plan.number) ∷ l) (names-of ladder r plans)

-- what holds at a place of all
all-at : (plans : List SegmentPlan) (i : ℕ) (plan : SegmentPlan) → All IsOfBytes plans → slice_get plans i ≡ Some plan → IsOfBytes plan
all-at plans i plan all at = subst IsOfBytes (get_or_from_slice_get plans i plan plan at) (all i plan (slice_get_within plans i plan at))

-- there are fewer segments than numbers
few-plans : (r : ℕ) (cut : CutSettings) (plans : List SegmentPlan) → AreFrom r cut 0 plans → length plans ≤ 0xFFFFFFFF
few-plans r cut plans are = elim (cases_lt 0 (length plans)) as (λ _. length plans ≤ 0xFFFFFFFF) [
  | inl some ↦ let last = some-at plans (length plans - 1) (omega (arith, some)) in let b = (are (length plans - 1) last.0 last.1).below in omega (arith, b, some)
  | inr none ↦ omega (arith, none)
]

pub comes-back : Rounds → Unfaulted → Suffice → HasParts → SeenAlone → Order → CanBeSealed
    → (ladder : Ladder) (parts : List Part) (streams : ℕ → List ℕ) (front : List ItemValue) (media : PlaylistValue) (behind : List ItemValue)
    → IsAllowed ladder → AreMade ladder → AreOfStreams ladder parts streams → Weaves ladder parts (front ++ MediaItem media ∷ behind)
    → 0 < media.count → ComesBack ladder streams front media
comes-back rounds unfaulted suffice has_parts seen order sealed ladder parts streams front media behind allowed made of w some =
    let r = media.rendition in
    let rendition = rendition_at ladder r in
    let keys = rendition.keys in
    let cut = ladder.cut in
    let part = part_at parts r in
    let stream = streams r in
    let alone = sym (seen-split front media behind) ∙ seen ladder parts (front ++ MediaItem media ∷ behind) r w in
    let at = split ladder r [] part.plans part part.ended (of_rendition r front) media (of_rendition r behind) refl alone in
    let given = at.given in
    let rows = rows_of keys given in
    let shown = shown_of ladder rendition given in
    let value = playlist_of r rendition shown at.ended (media_text shown at.ended) in
    let same : media ≡ value = same-media media value at.media_is in
    let long : length rows ≡ length given = length-map given _ in
    let count : media.count ≡ length given = ap (λ (p : PlaylistValue). p.count) same ∙ long in
    let any : 0 < length given = omega (arith, some, count) in
    let within : r < length parts = part-within parts r given at.rest at.plans_are any in
    let below : r < length ladder.renditions = omega (arith, within, has_parts ladder parts (front ++ MediaItem media ∷ behind) w) in
    let is_made : IsMade rendition = made r below in
    let more = of.plans r within in
    let all : plans_of r cut stream ≡ given ++ (at.rest ++ more.0) = more.1 ∙ (ap (λ l. l ++ more.0) at.plans_are ∙ append_assoc given at.rest more.0) in
    let at_all : (i : ℕ) (plan : SegmentPlan) → slice_get given i ≡ Some plan → slice_get (plans_of r cut stream) i ≡ Some plan =
    λ i plan here. ap (λ l. slice_get l i) all ∙ at-front given (at.rest ++ more.0) i plan here in
    let are : AreFrom r cut 0 given =
    λ i plan here. let zero_is : i ≡ 0 + i = omega arith in subst (λ n. IsPlan r cut n plan) zero_is (order r cut stream i plan (at_all i plan here)) in
    let pushed = in_window shown in
    let before = rendition.earlier in
    let known = before ++ rows in
    let many : length known ≡ length before + length rows = length-append before rows in
    let f = first pushed in
    let f_below : f < length known =
    some-in-window (is_event ladder.kind) ladder.kind cut.target ladder.window known refl (suffice cut.target ladder.window known) (length-drop (first_listed cut.target ladder.window known) known) allowed.within.window.0 (omega (arith, any, long, many)) in
    let j = f - length before in
    let j_below : j < length rows = omega (arith, f_below, many, any, long) in
    let behind_j : AreFrom r cut j (drop j given) =
    λ i plan here. order r cut stream (j + i) plan (at_all (j + i) plan (at-drop j i given plan here)) in
    let bytes_behind : (i : ℕ) (plan : SegmentPlan) → slice_get (drop j given) i ≡ Some plan → IsOfBytes plan =
    λ i plan here. all-at (plans_of r cut stream) (j + i) plan (sealed r cut stream (of.bytes r within)) (at_all (j + i) plan (at-drop j i given plan here)) in
    let listing = window_listing pushed at.ended in
    let goes : GoesOn ladder.kind cut.target rendition = allowed.within.go_on r no_rendition below in
    let earlier = map entry_of (drop f before) in
    let left : length earlier ≡ length before - f = length-map (drop f before) entry_of ∙ length-drop f before in
    let number : number_of keys j ≡ pushed.gone.rows + f + length earlier = omega (arith, goes.first, left) in
    let both : map entry_of (drop f known) ≡ earlier ++ map entry_of (drop j rows) = ap (map entry_of) (drop-both f before rows) ∙ map-append entry_of (drop f before) (drop j rows) in
    let rows_behind : drop j rows ≡ rows_of keys (drop j given) = drop-map _ j given in
    let entries : map entry_of (drop j rows) ≡ map entry_of (rows_of keys (drop j given)) = ap (map entry_of) rows_behind in
    let few : discontinuity_count (take f known) ≤ length (take f known) = count_by-le-length (λ (row : SegmentRow). row.discontinuity) (take f known) in
    let own : AreListed cut.target (pushed.gone.rows + f + length earlier) (map entry_of (drop j rows)) =
    subst (λ (m : ℕ). AreListed cut.target m (map entry_of (drop j rows))) number
    (subst (AreListed cut.target (number_of keys j)) (sym entries)
    (listed-on rounds r cut keys j (drop j given) is_made.keys goes.limit (omega (arith, allowed.within.cut.frame.0)) behind_j)) in
    let fewer = few-plans r cut given are in
    let segments : drop j (sealed_of r front) ≡ map (bytes_of keys) (drop j given) =
    ap (λ l. drop j (map sealed_bytes l)) at.segments_are ∙ (ap (drop j) (sealed-are ladder r given) ∙ drop-map (bytes_of keys) j given) in
    record {
      listing = listing;
      sound = record {
        name = named unfaulted ladder r allowed below;
        utf8 = is_made.name;
        some_target = omega (arith, allowed.within.cut.target.0);
        target = allowed.within.cut.target.1;
        discontinuity_sequence = omega (arith, goes.discontinuities, few, length-take-le f known (omega (arith, f_below)), f_below, many, long, fewer);
        event = λ is.
            let begins = event-begins pushed is in
            let all = has-all ladder.kind pushed.gone goes.all is in
            (omega (arith, begins.0, all.0), omega (arith, begins.1, all.1));
        salt = is_made.salt;
        some = omega (arith, length-map (drop f known) entry_of, length-drop f known, f_below);
        entries = subst (AreListed cut.target (pushed.gone.rows + f)) (sym both)
            (listed-append cut.target (pushed.gone.rows + f) earlier (map entry_of (drop j rows))
            (earlier-listed cut.target pushed.gone.rows f before goes.follow goes.turns (omega (arith, goes.first, goes.limit)) (omega (arith, f_below, many, long, fewer, goes.first, goes.limit))) own);
      };
      text_is = ap (λ (p : PlaylistValue). p.text) same ∙ ap text_of (lines-are pushed at.ended (omega (arith, any, long, many)));
      name_is = sym (ap (λ (p : PlaylistValue). p.name) same);
      ended_is = sym (ap (λ (p : PlaylistValue). p.ended) same);
      all_before = ap length at.segments_are ∙ (length-map given (segment_item ladder r) ∙ sym count);
      skipped = f;
      earlier = earlier;
      own = map entry_of (drop j rows);
      earlier_are = refl;
      entries_are = both;
      place = j;
      place_is = refl;
      sequence_is = sym number;
      names_are = ap (map (λ (e : Entry). segment_file_name rendition.name e.number)) entries
          ∙ (names-of ladder r (drop j given)
          ∙ (ap (map file_name) (sym (drop-map (segment_item ladder r) j given)) ∙ ap (λ l. map file_name (drop j l)) (sym at.segments_are)));
      plans = drop j given;
      plans_are = ap (drop j) (sym (ap (λ n. take n (plans_of r cut stream)) count ∙ (ap (take (length given)) all ∙ take-append_seam given (at.rest ++ more.0))));
      unpack = subst (λ l. AllUnpack (packed rendition.salt (map entry_of (drop j rows)) l keys.keys) (map (λ p. p.body) (drop j given))) (sym segments)
          (subst (λ l. AllUnpack (packed rendition.salt l (map (bytes_of keys) (drop j given)) keys.keys) (map (λ p. p.body) (drop j given))) (sym entries)
          (subst (λ (s : Option (List ℕ)). AllUnpack (packed s (map entry_of (rows_of keys (drop j given))) (map (bytes_of keys) (drop j given)) keys.keys) (map (λ p. p.body) (drop j given)))
          (salt-held ladder r allowed) (unpack-all keys (drop j given) is_made.keys bytes_behind)));
    }
