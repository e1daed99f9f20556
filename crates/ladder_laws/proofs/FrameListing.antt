-- What the I-frame playlist behind a segment lists of it, and the segments of a rendition.
use Rattle.std.proofs.Common.{◌≡◌, ◌∙◌, ℕ, ◌+◌, ◌≤◌, Bool, true, false, List, [], ◌∷◌, ◌++◌, map, length, drop, filter, Option, slice_get, refl, ap, sym, subst, append_assoc}
use Rattle.std.specs.List.{flat_map}
use Rattle.std.proofs.lemmas.List.{append-nil, drop-append-le}
use Rattle.std.proofs.lemmas.List.Elements.{filter-append}
use Rattle.std.proofs.lemmas.Grind.{flat_map-append}
use Rattle.cutter.specs.Plans.{SegmentPlan}
use Rattle.segment_job.specs.Segments.{sealed_segment}
use Rattle.playlist_text.specs.Lines.{text_of}
use Rattle.playlist_text.specs.MediaLines.{head_lines, type_lines, end_lines}
use Rattle.media_playlist.specs.Rows.{SegmentRow}
use Rattle.media_playlist.specs.Listed.{Pushed, first, listed, removed, discontinuity_count, frame_count}
use Rattle.media_playlist.specs.Lines.{unless_empty, frames_only_line, row_frame_lines, iframe_lines}
use Rattle.item_io.specs.Items.{ItemValue, SegmentValue, PlaylistValue, SegmentItem, MediaItem, FramesItem}
use Rattle.ladder_items.specs.Ladder.{Ladder, rendition_at, is_event, IsAllowed}
use Rattle.ladder_items.specs.Rows.{row_of}
use Rattle.ladder_items.specs.Shown.{in_window, frames_text}
use Rattle.ingest.specs.Streams.{plans_of}
use Rattle.ladder_items.specs.Items.{Part, part_at, shown_of, playlist_of, segment_item, items_from, end_items}
use Rattle.ladder_items.specs.Weave.{Row, after_all, block, none_of, Weaves}
use Rattle.ladder_laws.specs.Openings.{AreOfStreams}
use Rattle.ladder_laws.specs.Listings.{is_segment, segments_of, AreFramesListed, AreFramesListedBehind}
use Rattle.ladder_laws.proofs.Alone.{seen}
use Rattle.ladder_laws.proofs.Salts.{salt-held, known_rows, known-more}
use Rattle.ladder_laws.proofs.Together.{segment-at}
use Rattle.ladder_laws.proofs.Opening.{Suffice, Order, Long, last-in-window, unless-some, segment_value, media_value, within-at, front-at, at-front, number-at, same-segment}

abbrev frames_value : Ladder → ℕ → List SegmentPlan → PlaylistValue
frames_value ladder r plans =
    playlist_of r (rendition_at ladder r) (shown_of ladder (rendition_at ladder r) plans) false
    (frames_text (shown_of ladder (rendition_at ladder r) plans) false)

-- the lines before those of the rows
abbrev heading : Pushed → List (List ℕ)
heading pushed = head_lines pushed.target (pushed.gone.frames + frame_count (removed pushed)) (pushed.gone.discontinuities + discontinuity_count (removed pushed)) ++ type_lines pushed.event ++ frames_only_line ∷ []

lines-are : (pushed : Pushed) (rows : List SegmentRow) (row : SegmentRow) → pushed.rows ≡ rows ++ row ∷ []
    → iframe_lines pushed false ≡ heading pushed ++ flat_map (row_frame_lines pushed.name pushed.salt) (listed pushed)
unfolding iframe_lines end_lines
lines-are pushed rows row e =
    let lines = heading pushed ++ flat_map (row_frame_lines pushed.name pushed.salt) (listed pushed) in
    ap (λ l. unless_empty l (lines ++ [])) e ∙ (unless-some rows row (lines ++ []) ∙ append-nil lines)

last-lines : (name : List ℕ) (salt : Option (List ℕ)) (j : ℕ) (all rows : List SegmentRow) (row : SegmentRow) → all ≡ rows ++ row ∷ [] → j ≤ length rows
    → flat_map (row_frame_lines name salt) (drop j all) ≡ flat_map (row_frame_lines name salt) (drop j rows) ++ row_frame_lines name salt row
last-lines name salt j all rows row e below =
    ap (λ l. flat_map (row_frame_lines name salt) (drop j l)) e
    ∙ (ap (flat_map (row_frame_lines name salt)) (drop-append-le j rows (row ∷ []) below)
    ∙ (flat_map-append (row_frame_lines name salt) (drop j rows) (row ∷ [])
    ∙ ap (λ l. flat_map (row_frame_lines name salt) (drop j rows) ++ l) (append-nil (row_frame_lines name salt row))))

are-listed : Suffice → (ladder : Ladder) (r : ℕ) (before : List SegmentPlan) (plan : SegmentPlan) → IsAllowed ladder
    → AreFramesListed (rendition_at ladder r).keys plan (segment_value ladder r plan) (frames_value ladder r (before ++ plan ∷ []))
are-listed suffice ladder r before plan allowed =
    let keys = (rendition_at ladder r).keys in
    let rows = known_rows ladder r before in
    let row = row_of keys (sealed_segment keys plan) in
    let name = (rendition_at ladder r).name in
    let all : known_rows ladder r (before ++ plan ∷ []) ≡ rows ++ row ∷ [] = known-more ladder r before plan in
    let pushed : Pushed = in_window (shown_of ladder (rendition_at ladder r) (before ++ plan ∷ [])) in
    let salt = pushed.salt in
    let j = first pushed in
    let below : j ≤ length rows = last-in-window suffice (is_event ladder.kind) ladder.kind ladder.cut.target ladder.window (known_rows ladder r (before ++ plan ∷ [])) rows row refl all allowed.within.window.0 in
    let front = flat_map (row_frame_lines name salt) (drop j rows) in
    record {
      before = heading pushed ++ front;
      text_is = ap text_of
          (lines-are pushed rows row all
          ∙ (ap (λ l. heading pushed ++ l) (last-lines name salt j (known_rows ladder r (before ++ plan ∷ [])) rows row all below)
          ∙ (sym (append_assoc (heading pushed) front (row_frame_lines name salt row))
          ∙ ap (λ s. heading pushed ++ front ++ row_frame_lines name s row) (sym (salt-held ladder r allowed)))));
    }

pub are-listed-behind : Suffice → Long → Order → (ladder : Ladder) (parts : List Part) (streams : ℕ → List ℕ) (front : List ItemValue) (s : SegmentValue) (behind : List ItemValue)
    → IsAllowed ladder → AreOfStreams ladder parts streams → Weaves ladder parts (front ++ SegmentItem s ∷ behind) → AreFramesListedBehind ladder streams s behind
are-listed-behind suffice are_long order ladder parts streams front s behind allowed of w =
    let none = none_of ladder in
    let at = segment-at ladder none w.events front s behind (sym w.items_are) in
    let before = (part_at (after_all none at.earlier) at.r).plans in
    let media = media_value ladder at.r (before ++ at.plan ∷ []) in
    let frames = frames_value ladder at.r (before ++ at.plan ∷ []) in
    let tail : List ItemValue = drop 3 (block ladder (after_all none at.earlier) (Row at.r at.plan)) ++ at.rest in
    let is : segment_value ladder at.r at.plan ≡ s = sym (same-segment s (segment_value ladder at.r at.plan) behind (MediaItem media ∷ FramesItem frames ∷ tail) at.begins) in
    let within = within-at ladder parts w.events at.earlier at.r at.plan at.later w.legal w.parts_are at.all in
    let front_is = front-at ladder parts streams w.events at.earlier at.r at.plan at.later w.legal w.parts_are (of.plans at.r within) at.all in
    let found = at-front before at.plan (plans_of at.r ladder.cut (streams at.r)) front_is in
    let number : at.plan.number ≡ length before = number-at are_long order at.r ladder.cut (streams at.r) (length before) at.plan found in
    subst (λ (x : SegmentValue). AreFramesListedBehind ladder streams x behind) is (record {
      plan = at.plan;
      place = at.plan.number;
      plan_is = ap (λ n. slice_get (plans_of at.r ladder.cut (streams at.r)) n) number ∙ found;
      number_is = refl;
      media = media;
      frames = frames;
      rest = tail;
      next = ap (drop 1) at.begins;
      listed = are-listed suffice ladder at.r before at.plan allowed;
    })

of-plans : (ladder : Ladder) (r : ℕ) (before plans : List SegmentPlan) → filter is_segment (items_from ladder r before plans) ≡ map (segment_item ladder r) plans
unfolding items_from
of-plans ladder r before [] = refl
of-plans ladder r before (plan ∷ plans) = ap (λ l. segment_item ladder r plan ∷ l) (of-plans ladder r (before ++ plan ∷ []) plans)

of-end : (ladder : Ladder) (r : ℕ) (part : Part) (ended : Bool) → filter is_segment (end_items ladder r part ended) ≡ []
of-end ladder r part true = refl
of-end ladder r part false = refl

pub segments-are : (ladder : Ladder) (parts : List Part) (items : List ItemValue) (r : ℕ) → Weaves ladder parts items
    → segments_of r items ≡ map (segment_item ladder r) (part_at parts r).plans
segments-are ladder parts items r w =
    let part = part_at parts r in
    ap (filter is_segment) (seen ladder parts items r w)
    ∙ (filter-append is_segment (items_from ladder r [] part.plans) (end_items ladder r part part.ended)
    ∙ (ap (λ l. filter is_segment (items_from ladder r [] part.plans) ++ l) (of-end ladder r part part.ended)
    ∙ (append-nil _ ∙ of-plans ladder r [] part.plans)))
