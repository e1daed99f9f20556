-- What a media playlist lists for the segment right before it.
use Rattle.std.proofs.Common.{◌≡◌, ◌∙◌, inl, inr, ℕ, zero, suc, ◌+◌, ◌-◌, ◌<◌, ◌≤◌, false, true, Bool, List, [], ◌∷◌, ◌++◌, map, length, drop, Some, slice_get, refl, ap, sym, subst, arith, append_assoc, length-append}
use Rattle.std.specs.List.{All}
use Rattle.std.specs.Prelude.{if◌then◌else◌}
use Rattle.std.proofs.lemmas.Bool.{cases_eq, false≢true}
use Rattle.std.proofs.lemmas.List.{append-nil, map-append, length-map, length-drop, drop-append-le, get_or-set_same, get_or-set_other, length-set}
use Rattle.std.proofs.lemmas.Option.{get_or_from_slice_get, slice_get_within}
use Rattle.ghost_list.specs.Lists.{IsBeginning}
use Rattle.ghost_list.specs.Bytes.{AreBytes}
use Rattle.aes_cbc.specs.Chain.{sealed_text}
use Rattle.ts_packet.specs.Packets.{packets}
use Rattle.cutter.specs.declared.settings.CutSettings.{CutSettings}
use Rattle.cutter.specs.Plans.{SegmentPlan}
use Rattle.cutter.specs.Ordered.{IsPlan, IsPacketLong}
use Rattle.cutter.specs.Cuts.{plans}
use Rattle.playlist_text.specs.Vectors.{salted_vector}
use Rattle.segment_job.specs.Rotation.{number_of, key_of, vector_of}
use Rattle.segment_job.specs.Segments.{plain, sealed_segment}
use Rattle.playlist_text.specs.Lines.{text_of}
use Rattle.playlist_text.specs.MediaLines.{listing_lines}
use Rattle.media_playlist.specs.Rows.{SegmentRow}
use Rattle.media_playlist.specs.Listed.{Pushed, first, first_listed, listed}
use Rattle.media_playlist.specs.Lines.{entry_of, listing_of, unless_empty, media_lines}
use Rattle.item_io.specs.Items.{ItemValue, SegmentValue, PlaylistValue, SegmentItem, MediaItem}
use Rattle.ladder_items.specs.declared.settings.Kind.{Kind}
use Rattle.ladder_items.specs.declared.settings.Kind.TheVariants.{Live, Event as OfEvent}
use Rattle.ladder_items.specs.Ladder.{Ladder, rendition_at, is_event, least_listed, IsAllowed}
use Rattle.ladder_items.specs.Rows.{row_of}
use Rattle.ladder_items.specs.Shown.{in_window, media_text}
use Rattle.ingest.specs.Streams.{plans_of}
use Rattle.ladder_items.specs.Items.{Part, no_part, part_at, shown_of, playlist_of}
use Rattle.ladder_items.specs.Weave.{Event, Row, End, rendition_of, grown, closed_part, after, after_all, AreLegal, block, none_of, Weaves}
use Rattle.ingest.specs.Sealable.{IsOfBytes}
use Rattle.ladder_laws.specs.Openings.{AreOfStreams, IsListed, IsListedBehind}
use Rattle.ladder_items.proofs.Rows.{after_all-append}
use Rattle.ladder_laws.proofs.Salts.{salt-held, begins-behind, known_rows, known-more, known-count}
use Rattle.ladder_laws.proofs.KeyLines.{applies-last}
use Rattle.ladder_laws.proofs.Together.{segment-at, legal-behind}

-- once rows are removed, as many as the window are listed
abbrev pub Suffice : Type 0
Suffice = (target window : ℕ) (rows : List SegmentRow) → 0 < first_listed target window rows → window ≤ length (drop (first_listed target window rows) rows)

-- each plan of a stream of packets is that of its number
abbrev pub Order : Type 0
Order = (r : ℕ) (s : CutSettings) (ps : List (List ℕ)) → All IsPacketLong ps → (n : ℕ) (plan : SegmentPlan) → slice_get (plans r s ps) n ≡ Some plan → IsPlan r s n plan

-- the plans of a stream of bytes can be sealed
abbrev pub CanBeSealed : Type 0
CanBeSealed = (r : ℕ) (s : CutSettings) (stream : List ℕ) → AreBytes stream → All IsOfBytes (plans_of r s stream)

abbrev pub Long : Type 0
Long = (stream : List ℕ) → All IsPacketLong (packets stream)

by-place : (j n window : ℕ) → 1 ≤ window → (0 < j → window ≤ n + 1 - j) → j ≤ n
by-place zero n window some many = omega arith
by-place (suc j) n window some many = let few : window ≤ n + 1 - suc j = many (omega arith) in omega (arith, few, some)

-- the last of some rows is listed
pub last-listed : Suffice → (target window : ℕ) (all rows : List SegmentRow) (row : SegmentRow) → all ≡ rows ++ row ∷ [] → 1 ≤ window
    → first_listed target window all ≤ length rows
last-listed suffice target window all rows row e some =
    by-place (first_listed target window all) (length rows) window some
    (λ below. omega (arith, suffice target window all below, length-drop (first_listed target window all) all, ap length e, length-append rows (row ∷ [])))

-- of a window, also where it is one of an event, which lists all rows
pub last-in-window : Suffice → (event : Bool) (kind : Kind) (target window : ℕ) (all rows : List SegmentRow) (row : SegmentRow) → event ≡ is_event kind
    → all ≡ rows ++ row ∷ [] → 1 ≤ window
    → (if event then 0 else first_listed target (least_listed kind window) all) ≤ length rows
last-in-window suffice true kind target window all rows row is e some = omega arith
last-in-window suffice false Live target window all rows row is e some = last-listed suffice target window all rows row e some
last-in-window suffice false OfEvent target window all rows row is e some = absurd (false≢true is)

pub unless-some : (rows : List SegmentRow) (row : SegmentRow) (lines : List (List ℕ)) → unless_empty (rows ++ row ∷ []) lines ≡ lines
unless-some [] row lines = refl
unless-some (x ∷ rows) row lines = refl

lines-are : (pushed : Pushed) (rows : List SegmentRow) (row : SegmentRow) → pushed.rows ≡ rows ++ row ∷ [] → media_lines pushed false ≡ listing_lines (listing_of pushed false)
unfolding media_lines
lines-are pushed rows row e =
    ap (λ l. unless_empty l (listing_lines (listing_of pushed false))) e ∙ unless-some rows row (listing_lines (listing_of pushed false))

-- a segment of a plan, and the media playlist behind it
abbrev pub segment_value : Ladder → ℕ → SegmentPlan → SegmentValue
segment_value ladder r plan = record {
  rendition = r;
  number = number_of (rendition_at ladder r).keys plan.number;
  name = (rendition_at ladder r).name;
  bytes = sealed_text (key_of (rendition_at ladder r).keys plan.number) (vector_of (rendition_at ladder r).keys plan.number) (plain plan);
}

abbrev pub media_value : Ladder → ℕ → List SegmentPlan → PlaylistValue
media_value ladder r plans =
    playlist_of r (rendition_at ladder r) (shown_of ladder (rendition_at ladder r) plans) false
    (media_text (shown_of ladder (rendition_at ladder r) plans) false)

is-listed : Suffice → (ladder : Ladder) (r : ℕ) (before : List SegmentPlan) (plan : SegmentPlan) → IsAllowed ladder → plan.number ≡ length before → IsOfBytes plan
    → IsListed (rendition_at ladder r).keys plan (segment_value ladder r plan) (media_value ladder r (before ++ plan ∷ []))
unfolding row_of listing_of
is-listed suffice ladder r before plan allowed number of_bytes =
    let keys = (rendition_at ladder r).keys in
    let rows = known_rows ladder r before in
    let row = row_of keys (sealed_segment keys plan) in
    let all : known_rows ladder r (before ++ plan ∷ []) ≡ rows ++ row ∷ [] = known-more ladder r before plan in
    let pushed : Pushed = in_window (shown_of ladder (rendition_at ladder r) (before ++ plan ∷ [])) in
    let salted : keys.salt ≡ pushed.salt = salt-held ladder r allowed in
    let j = first pushed in
    let below : j ≤ length rows = last-in-window suffice (is_event ladder.kind) ladder.kind ladder.cut.target ladder.window (known_rows ladder r (before ++ plan ∷ [])) rows row refl all allowed.within.window.0 in
    let many : length rows ≡ length (rendition_at ladder r).earlier + length before = known-count ladder r before in
    let gone = pushed.gone.rows in
    let behind : keys.first ≡ gone + length (rendition_at ladder r).earlier = begins-behind ladder r allowed in
    let sequence : gone + j + length (map entry_of (drop j rows)) ≡ number_of keys plan.number =
    omega (arith, behind, below, many, number, length-map (drop j rows) entry_of, length-drop j rows) in
    let bytes : sealed_text (key_of keys plan.number) (vector_of keys plan.number) (plain plan)
    ≡ sealed_text (key_of keys plan.number) (salted_vector pushed.salt (gone + j + length (map entry_of (drop j rows)))) (plain plan) =
    ap (λ n. sealed_text (key_of keys plan.number) (salted_vector keys.salt n) (plain plan)) (sym sequence)
    ∙ ap (λ s. sealed_text (key_of keys plan.number) (salted_vector s (gone + j + length (map entry_of (drop j rows)))) (plain plan)) salted in
    let entries : map entry_of (listed pushed) ≡ map entry_of (drop j rows) ++ entry_of row ∷ [] =
    ap (λ l. map entry_of (drop j l)) all ∙ (ap (map entry_of) (drop-append-le j rows (row ∷ []) below) ∙ map-append entry_of (drop j rows) (row ∷ [])) in
    record {
      listing = listing_of pushed false;
      earlier = map entry_of (drop j rows);
      entry = entry_of row;
      text_is = ap text_of (lines-are pushed rows row all);
      entries_are = entries;
      name_is = refl;
      number_is = refl;
      applies = applies-last (listing_of pushed false) (map entry_of (drop j rows)) (entry_of row) entries refl;
      sequence_is = sequence;
      opens = record { tables = of_bytes.tables; text = record { bytes = of_bytes.bytes; sealed = bytes } };
    }

front-of-front : (a b c : List SegmentPlan) → IsBeginning a b → IsBeginning b c → IsBeginning a c
front-of-front a b c (x, e) (y, f) = (x ++ y, f ∙ (ap (λ l. l ++ y) e ∙ append_assoc a x y))

front-of-same : (a b : List SegmentPlan) → b ≡ a → IsBeginning a b
front-of-same a b e = ([], e ∙ sym (append-nil a))

-- the plans that a rendition has given stay
step-front : (r : ℕ) (parts : List Part) (e : Event) → rendition_of e < length parts → IsBeginning (part_at parts r).plans (part_at (after parts e) r).plans
step-front r parts (Row q p) below =
    elim (cases_eq r q) as (λ _. IsBeginning (part_at parts r).plans (part_at (after parts (Row q p)) r).plans) [
      | inl e ↦ subst (λ (k : ℕ). IsBeginning (part_at parts k).plans (part_at (after parts (Row q p)) k).plans) (sym e)
          (p ∷ [], ap (λ (part : Part). part.plans) (get_or-set_same parts q (grown (part_at parts q) p) no_part below))
      | inr n ↦ front-of-same (part_at parts r).plans (part_at (after parts (Row q p)) r).plans
          (ap (λ (part : Part). part.plans) (get_or-set_other parts q r (grown (part_at parts q) p) no_part n))
    ]
step-front r parts (End q) below =
    elim (cases_eq r q) as (λ _. IsBeginning (part_at parts r).plans (part_at (after parts (End q)) r).plans) [
      | inl e ↦ subst (λ (k : ℕ). IsBeginning (part_at parts k).plans (part_at (after parts (End q)) k).plans) (sym e)
          (front-of-same (part_at parts q).plans (part_at (after parts (End q)) q).plans
          (ap (λ (part : Part). part.plans) (get_or-set_same parts q (closed_part (part_at parts q)) no_part below)))
      | inr n ↦ front-of-same (part_at parts r).plans (part_at (after parts (End q)) r).plans
          (ap (λ (part : Part). part.plans) (get_or-set_other parts q r (closed_part (part_at parts q)) no_part n))
    ]

all-front : (r : ℕ) (parts : List Part) (events : List Event) → AreLegal parts events → IsBeginning (part_at parts r).plans (part_at (after_all parts events) r).plans
unfolding AreLegal after_all
all-front r parts [] legal = front-of-same (part_at parts r).plans (part_at parts r).plans refl
all-front r parts (e ∷ events) legal =
    front-of-front (part_at parts r).plans (part_at (after parts e) r).plans (part_at (after_all (after parts e) events) r).plans
    (step-front r parts e legal.0) (all-front r (after parts e) events legal.2)

event-each : (parts : List Part) (e : Event) → length (after parts e) ≡ length parts
event-each parts (Row q p) = length-set parts q (grown (part_at parts q) p)
event-each parts (End q) = length-set parts q (closed_part (part_at parts q))

pub events-each : (parts : List Part) (events : List Event) → length (after_all parts events) ≡ length parts
unfolding after_all
events-each parts [] = refl
events-each parts (e ∷ events) = events-each (after parts e) events ∙ event-each parts e

at-length : (xs : List SegmentPlan) (x : SegmentPlan) (ys : List SegmentPlan) → slice_get (xs ++ x ∷ ys) (length xs) ≡ Some x
at-length [] x ys = refl
at-length (y ∷ xs) x ys = at-length xs x ys

-- a plan of those that begin all is at its place among them
pub at-front : (before : List SegmentPlan) (plan : SegmentPlan) (all : List SegmentPlan) → IsBeginning (before ++ plan ∷ []) all → slice_get all (length before) ≡ Some plan
at-front before plan all (more, e) =
    ap (λ l. slice_get l (length before)) (e ∙ append_assoc before (plan ∷ []) more) ∙ at-length before plan more

pub number-at : Long → Order → (r : ℕ) (s : CutSettings) (stream : List ℕ) (n : ℕ) (plan : SegmentPlan) → slice_get (plans_of r s stream) n ≡ Some plan → plan.number ≡ n
unfolding plans_of
number-at are_long order r s stream n plan e = (order r s (packets stream) (are_long stream) n plan e).number

-- the segment is of one of the renditions
pub within-at : (ladder : Ladder) (parts : List Part) (events earlier : List Event) (r : ℕ) (plan : SegmentPlan) (later : List Event)
    → AreLegal (none_of ladder) events → after_all (none_of ladder) events ≡ parts → events ≡ earlier ++ Row r plan ∷ later → r < length parts
unfolding AreLegal
within-at ladder parts events earlier r plan later legal is all =
    let none = none_of ladder in
    let rest = legal-behind none earlier (Row r plan ∷ later) (subst (AreLegal none) all legal) in
    omega (arith, rest.0, ap length is, events-each none events, events-each none earlier)

-- the plans of rendition r up to this segment begin those of its stream
pub front-at : (ladder : Ladder) (parts : List Part) (streams : ℕ → List ℕ) (events earlier : List Event) (r : ℕ) (plan : SegmentPlan) (later : List Event)
    → AreLegal (none_of ladder) events → after_all (none_of ladder) events ≡ parts → IsBeginning (part_at parts r).plans (plans_of r ladder.cut (streams r)) → events ≡ earlier ++ Row r plan ∷ later
    → IsBeginning ((part_at (after_all (none_of ladder) earlier) r).plans ++ plan ∷ []) (plans_of r ladder.cut (streams r))
unfolding AreLegal after_all
front-at ladder parts streams events earlier r plan later legal is of all =
    let none = none_of ladder in
    let so_far = after_all none earlier in
    let grown_so = after so_far (Row r plan) in
    let rest = legal-behind none earlier (Row r plan ∷ later) (subst (AreLegal none) all legal) in
    let end : parts ≡ after_all grown_so later = sym is ∙ (ap (after_all none) all ∙ after_all-append none earlier (Row r plan ∷ later)) in
    let here : (part_at grown_so r).plans ≡ (part_at so_far r).plans ++ plan ∷ [] =
    ap (λ (part : Part). part.plans) (get_or-set_same so_far r (grown (part_at so_far r) plan) no_part rest.0) in
    let stays = subst (λ (ps : List Part). IsBeginning (part_at grown_so r).plans (part_at ps r).plans) (sym end) (all-front r grown_so later rest.2) in
    front-of-front ((part_at so_far r).plans ++ plan ∷ []) (part_at parts r).plans (plans_of r ladder.cut (streams r))
    (subst (λ l. IsBeginning l (part_at parts r).plans) here stays) of

-- what holds of all plans, of one of them
of-one : (plans : List SegmentPlan) (n : ℕ) (plan : SegmentPlan) → slice_get plans n ≡ Some plan → All IsOfBytes plans → IsOfBytes plan
of-one plans n plan e all = subst IsOfBytes (get_or_from_slice_get plans n plan plan e) (all n plan (slice_get_within plans n plan e))

pub same-segment : (a b : SegmentValue) (xs ys : List ItemValue) → SegmentItem a ∷ xs ≡ SegmentItem b ∷ ys → a ≡ b
same-segment a b xs ys e = cc

pub is-listed-behind : Suffice → Long → Order → CanBeSealed → (ladder : Ladder) (parts : List Part) (streams : ℕ → List ℕ) (front : List ItemValue) (s : SegmentValue) (behind : List ItemValue)
    → IsAllowed ladder → AreOfStreams ladder parts streams → Weaves ladder parts (front ++ SegmentItem s ∷ behind) → IsListedBehind ladder streams s behind
is-listed-behind suffice are_long order sealed ladder parts streams front s behind allowed of w =
    let none = none_of ladder in
    let at = segment-at ladder none w.events front s behind (sym w.items_are) in
    let before = (part_at (after_all none at.earlier) at.r).plans in
    let media = media_value ladder at.r (before ++ at.plan ∷ []) in
    let tail : List ItemValue = drop 2 (block ladder (after_all none at.earlier) (Row at.r at.plan)) ++ at.rest in
    let is : segment_value ladder at.r at.plan ≡ s = sym (same-segment s (segment_value ladder at.r at.plan) behind (MediaItem media ∷ tail) at.begins) in
    let within : at.r < length parts = within-at ladder parts w.events at.earlier at.r at.plan at.later w.legal w.parts_are at.all in
    let front_is = front-at ladder parts streams w.events at.earlier at.r at.plan at.later w.legal w.parts_are (of.plans at.r within) at.all in
    let found = at-front before at.plan (plans_of at.r ladder.cut (streams at.r)) front_is in
    let number : at.plan.number ≡ length before = number-at are_long order at.r ladder.cut (streams at.r) (length before) at.plan found in
    subst (λ (x : SegmentValue). IsListedBehind ladder streams x behind) is (record {
      plan = at.plan;
      place = at.plan.number;
      plan_is = ap (λ n. slice_get (plans_of at.r ladder.cut (streams at.r)) n) number ∙ found;
      number_is = refl;
      media = media;
      rest = tail;
      next = ap (drop 1) at.begins;
      listed = is-listed suffice ladder at.r before at.plan allowed number
          (of-one (plans_of at.r ladder.cut (streams at.r)) (length before) at.plan found (sealed at.r ladder.cut (streams at.r) (of.bytes at.r within)));
    })
