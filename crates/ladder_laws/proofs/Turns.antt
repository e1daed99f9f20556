-- In a weave each file that a playlist lists is put before it.
use Rattle.std.proofs.Common.{◌≡◌, ◌∙◌, ◌⊎◌, inl, inr, ℕ, zero, suc, ◌+◌, ◌-◌, ◌<◌, Bool, true, false, not, List, [], ◌∷◌, ◌++◌, map, length, drop, take, get_or, replicate, All, refl, sym, ap, subst, arith, append_assoc}
use Rattle.std.specs.Prelude.{codes}
use Rattle.std.specs.List.{flat_map, list_all, list_any, zip}
use Rattle.std.specs.Fmt.{decimal}
use Rattle.std.proofs.Math.ListN.{get_or-eq_default}
use Rattle.std.proofs.lemmas.Bool.{cases_eq, cases_lt}
use Rattle.std.proofs.lemmas.List.{append-nil, get_or-set_same, get_or-set_other, length-replicate, length-append, get_or-append-add, take-append-drop}
use Rattle.std.proofs.lemmas.List.Elements.{All-nil, All-cons, All-append, All-get_or, All-push, All-weaker}
use Rattle.std.proofs.lemmas.Slice.Eq.{bytes_eq-Decides}
use Rattle.ghost_list.specs.Bytes.{AreBytes}
use Rattle.percent_encoding.specs.Percent.{percent_decode}
use Rattle.cutter.specs.Plans.{SegmentPlan}
use Rattle.segment_job.specs.Rotation.{number_of}
use Rattle.segment_job.specs.Segments.{sealed_segment}
use Rattle.playlist_text.specs.Lines.{text_of}
use Rattle.playlist_text.specs.Names.{is_codecs, is_quotable_byte}
use Rattle.playlist_text.specs.Uris.{media_uri, segment_uri}
use Rattle.media_playlist.specs.Rows.{SegmentRow}
use Rattle.media_playlist.specs.Lines.{iframe_lines, media_lines}
use Rattle.master_playlist.specs.Listed.{Listed}
use Rattle.master_playlist.specs.MasterLines.{master_lines, master_text}
use Rattle.folder.specs.Puts.{IsServed, MayBePut, Put, staged_with}
use Rattle.folder.specs.Playing.{AreListedInTurn, IsAmong}
use Rattle.folder.proofs.Playing.{IsAmong-before, IsAmong-it}
use Rattle.item_io.specs.Items.{ItemValue}
use Rattle.item_io.specs.FileNames.{segment_file_name}
use Rattle.item_io.specs.FolderMoves.{put_of, puts_of}
use Rattle.item_io.proofs.Fitting.{given-fit, puts-append}
use Rattle.ladder_items.specs.Ladder.{IsAllowed, Ladder, RenditionValue, no_rendition, rendition_at, unmeasured}
use Rattle.ladder_items.specs.Rows.{row_of, rows_of}
use Rattle.ladder_items.specs.Shown.{Shown, in_window, known}
use Rattle.ladder_items.specs.Masters.{measured, variant_of, variants}
use Rattle.ladder_items.specs.Items.{Part, frames_item, master_item, media_item, no_part, part_at, segment_item, shown_all, shown_of}
use Rattle.ladder_items.specs.Weave.{AreLegal, End, Event, Row, Weaves, after, block, blocks, closed_part, grown, none_of, rendition_of}
use Rattle.ladder_items.proofs.Elsewhere.{after-length}
use Rattle.ladder_items.proofs.Listing.{none_stands, or_none}
use Rattle.ladder_items.proofs.WholeBlocks.{weaves-whole}
use Rattle.ladder_laws.specs.Playlists.{HasByteNames, HasNoEarlier, IsPut, HasEarlierFiles, AreListedBehind, is_playlist, lists_file}
use Rattle.ladder_laws.proofs.UriLines.{IsGood, IsInLine, IsOneLine, both-of, listed-by}
use Rattle.ladder_laws.proofs.FileUris.{media-named, segment-named}
use Rattle.ladder_laws.proofs.Salts.{known_rows, known-more}
use Rattle.ladder_laws.proofs.PlaylistLines.{IsGoodVariant, iframes-good, master-good, media-good}

IsPut-more : (before more : List Put) (name : List ℕ) → IsPut before name → IsPut (before ++ more) name
IsPut-more before more name it = (it.0, IsAmong-before it.0 before more it.1, it.2)

IsPut-last : (before : List Put) (s : Put) → IsPut (before ++ s ∷ []) s.name
IsPut-last before s = (s, IsAmong-it before s [], refl)

-- all that a file lists was put before it
abbrev IsAfter : List Put → Put → Type 0
IsAfter before p = (name : List ℕ) → lists_file p.name p.bytes name ≡ true → IsPut before name

abbrev AreAfter : List Put → List Put → Type 0
AreAfter before [] = Unit {0}
AreAfter before (p ∷ puts) = IsAfter before p × AreAfter (before ++ p ∷ []) puts

AreAfter-append : (before xs ys : List Put) → AreAfter before xs → AreAfter (before ++ xs) ys → AreAfter before (xs ++ ys)
AreAfter-append before [] ys one other = subst (λ (l : List Put). AreAfter l ys) (append-nil before) other
AreAfter-append before (p ∷ xs) ys one other =
    (one.0, AreAfter-append (before ++ p ∷ []) xs ys one.1 (subst (λ (l : List Put). AreAfter l ys) (sym (append_assoc before (p ∷ []) xs)) other))

IsAfter-at : (before mid behind : List Put) (p : Put) → AreAfter before (mid ++ p ∷ behind) → IsAfter (before ++ mid) p
IsAfter-at before [] behind p all = subst (λ (l : List Put). IsAfter l p) (sym (append-nil before)) all.0
IsAfter-at before (q ∷ mid) behind p all = subst (λ (l : List Put). IsAfter l p) (append_assoc before (q ∷ []) mid) (IsAfter-at (before ++ q ∷ []) mid behind p all.1)

pub served : (staged puts : List Put) → MayBePut staged puts → (s : Put) → IsAmong s puts → IsServed s
served staged [] may s among = absurd among
served staged (p ∷ puts) may s (inl same) = subst IsServed (sym same) may.0
served staged (p ∷ puts) may s (inr later) = served (staged_with p.ends staged p) puts may.2 s later

in-turn : (puts : List Put) → MayBePut [] puts → AreAfter [] puts → AreListedInTurn lists_file puts
in-turn puts may all before p behind split name lists =
    let it = IsAfter-at [] before behind p (subst (λ (l : List Put). AreAfter [] l) split all) name lists in
    let among : IsAmong it.0 puts = subst (λ (l : List Put). IsAmong it.0 l) (sym split) (IsAmong-before it.0 before (p ∷ behind) it.1) in
    (it.0, it.1, it.2, (served [] puts may it.0 among).shown)

-- the text of these lines lists what was put
after-lines : (before : List Put) (p : Put) (ls : List (List ℕ)) → p.bytes ≡ text_of ls → All (IsGood (λ uri. IsPut before (percent_decode uri))) ls → IsAfter before p
after-lines before p ls text good name lists =
    let n = listed-by (λ uri. IsPut before (percent_decode uri)) name p.name ls good (subst (λ (bytes : List ℕ). lists_file p.name bytes name ≡ true) text lists) in
    (n.says.0, n.says.1, n.says.2 ∙ n.named)

-- a segment's file is no playlist
no-playlist : (front : List ℕ) → is_playlist (front ++ codes ".ts") ≡ true → ⊥
no-playlist front is =
    let xs = front ++ codes ".ts" in
    let k = length xs - length (codes ".m3u8") in
    let end : codes ".m3u8" ≡ drop k xs = (bytes_eq-Decides (codes ".m3u8") (drop k xs)).0 is in
    let whole : xs ≡ take k xs ++ codes ".m3u8" = sym (take-append-drop k xs) ∙ ap (λ (l : List ℕ). take k xs ++ l) (sym end) in
    let longs : length front + 3 ≡ length (take k xs) + 5 = sym (length-append front (codes ".ts")) ∙ ap length whole ∙ length-append (take k xs) (codes ".m3u8") in
    let place : length front + 2 ≡ length (take k xs) + 4 = omega (arith, longs) in
    let last : 115 ≡ 56 = sym (get_or-append-add front (codes ".ts") 2 0) ∙ ap (λ (n : ℕ). get_or xs n 0) place ∙ ap (λ (l : List ℕ). get_or l (length (take k xs) + 4) 0) whole ∙ get_or-append-add (take k xs) (codes ".m3u8") 4 0 in
    omega (arith, last)

module _ (ladder : Ladder) where
  abbrev RowIsPut : List Put → ℕ → SegmentRow → Type 0
  RowIsPut before r row = IsPut before (segment_file_name (rendition_at ladder r).name row.number)

  -- the segments of all rows that are known behind these plans were put, and if there is one a media playlist
  record HasPut (before : List Put) (r : ℕ) (plans : List SegmentPlan) : Type 0 where
    rows : All (RowIsPut before r) (known_rows ladder r plans)
    media : (known_rows ladder r plans ≡ []) ⊎ IsPut before ((rendition_at ladder r).name ++ codes ".m3u8")

  HasPut-more : (before more : List Put) (r : ℕ) (plans : List SegmentPlan) → HasPut before r plans → HasPut (before ++ more) r plans
  HasPut-more before more r plans has = record {
    rows = All-weaker (RowIsPut before r) (RowIsPut (before ++ more) r) (λ row. IsPut-more before more (segment_file_name (rendition_at ladder r).name row.number)) (known_rows ladder r plans) has.rows;
    media = elim has.media [ inl none ↦ inl none | inr it ↦ inr (IsPut-more before more _ it) ];
  }

  -- what all renditions gave was put
  abbrev HaveAllPut : List Put → List Part → Type 0
  HaveAllPut before parts = (r : ℕ) → HasPut before r (part_at parts r).plans

  HaveAllPut-more : (before more : List Put) (parts : List Part) → HaveAllPut before parts → HaveAllPut (before ++ more) parts
  HaveAllPut-more before more parts have r = HasPut-more before more r (part_at parts r).plans (have r)

  segment-after : (before : List Put) (r : ℕ) (plan : SegmentPlan) → IsAfter before (put_of (segment_item ladder r plan))
  segment-after before r plan name lists =
      absurd (no-playlist ((rendition_at ladder r).name ++ codes "." ++ decimal (number_of (rendition_at ladder r).keys plan.number)) (both-of _ _ lists).0)

  rows-put : (before : List Put) (r : ℕ) (rows : List SegmentRow) → AreBytes (rendition_at ladder r).name → All (RowIsPut before r) rows →
      All (λ row. IsPut before (percent_decode (segment_uri (rendition_at ladder r).name row.number))) rows
  rows-put before r rows small put =
      let name = (rendition_at ladder r).name in
      All-weaker (RowIsPut before r) (λ row. IsPut before (percent_decode (segment_uri name row.number)))
      (λ row it. subst (λ (file : List ℕ). IsPut before file) (sym (segment-named name row.number small)) it) rows put

  media-after : (before : List Put) (r : ℕ) (plans : List SegmentPlan) (ended : Bool) → AreBytes (rendition_at ladder r).name → All (RowIsPut before r) (known_rows ladder r plans) → IsAfter before (put_of (media_item ladder r plans ended))
  media-after before r plans ended small put =
      let pushed = in_window (shown_of ladder (rendition_at ladder r) plans) in
      after-lines before (put_of (media_item ladder r plans ended)) (media_lines pushed ended) refl (media-good (λ uri. IsPut before (percent_decode uri)) pushed ended (rows-put before r (known_rows ladder r plans) small put))

  frames-after : (before : List Put) (r : ℕ) (plans : List SegmentPlan) (ended : Bool) → AreBytes (rendition_at ladder r).name → All (RowIsPut before r) (known_rows ladder r plans) → IsAfter before (put_of (frames_item ladder r plans ended))
  frames-after before r plans ended small put =
      let pushed = in_window (shown_of ladder (rendition_at ladder r) plans) in
      after-lines before (put_of (frames_item ladder r plans ended)) (iframe_lines pushed ended) refl (iframes-good (λ uri. IsPut before (percent_decode uri)) pushed ended (rows-put before r (known_rows ladder r plans) small put))

-- codecs
quotable-in : (b : ℕ) → is_quotable_byte b ≡ true → IsInLine b
quotable-in b is = (λ same. absurd (let bad : is_quotable_byte 10 ≡ true = subst (λ (c : ℕ). is_quotable_byte c ≡ true) same is in cc bad), λ same. absurd (let bad : is_quotable_byte 13 ≡ true = subst (λ (c : ℕ). is_quotable_byte c ≡ true) same is in cc bad))

quotable-line : (text : List ℕ) → list_all is_quotable_byte text ≡ true → IsOneLine text
quotable-line [] is = All-nil IsInLine
quotable-line (b ∷ text) is =
    let parts = both-of (is_quotable_byte b) (list_all is_quotable_byte text) is in
    All-cons IsInLine b text (quotable-in b parts.0) (quotable-line text parts.1)

codecs-line : (codecs : List ℕ) → is_codecs codecs ≡ true → IsOneLine codecs
unfolding is_codecs
codecs-line codecs is = quotable-line codecs (both-of _ _ is).1

not-false : (t : Bool) → not t ≡ false → t ≡ true
not-false true e = refl
not-false false e = absurd (cc e)

all-coded : (rs : List RenditionValue) → list_any (λ (v : Listed). not (is_codecs v.codecs)) (map unmeasured rs) ≡ false → (r : ℕ) → r < length rs → IsOneLine (get_or rs r no_rendition).codecs
all-coded [] none r within = absurd (omega (arith, within))
all-coded (q ∷ rs) none zero within =
    codecs-line q.codecs (not-false _ (or_none (not (is_codecs q.codecs)) (list_any (λ (v : Listed). not (is_codecs v.codecs)) (map unmeasured rs)) none).0)
all-coded (q ∷ rs) none (suc r) within =
    all-coded rs (or_none (not (is_codecs q.codecs)) (list_any (λ (v : Listed). not (is_codecs v.codecs)) (map unmeasured rs)) none).1 r (omega (arith, within))

-- the renditions that a master playlist lists
module _ (ladder : Ladder) (P : List ℕ → Type 0) where
  abbrev IsShown : RenditionValue → Part → Type 0
  IsShown rendition part = IsOneLine rendition.codecs × ((rendition.earlier ++ rows_of rendition.keys part.plans ≡ []) ⊎ P (media_uri rendition.name))

  one-shown : (rendition : RenditionValue) (shown : Shown) (rows : List SegmentRow) → IsOneLine rendition.codecs → (rows ≡ []) ⊎ P (media_uri rendition.name) →
      All (IsGoodVariant P) (variant_of rendition shown rows)
  unfolding measured
  one-shown rendition shown [] one says = All-nil (IsGoodVariant P)
  one-shown rendition shown (row ∷ rows) one (inl none) = absurd (cc none)
  one-shown rendition shown (row ∷ rows) one (inr says) = All-cons (IsGoodVariant P) (measured rendition shown) [] (one, says) (All-nil (IsGoodVariant P))

  all-shown : (rs : List RenditionValue) (ps : List Part) → ((k : ℕ) → k < length rs → IsShown (get_or rs k no_rendition) (get_or ps k no_part)) →
      All (IsGoodVariant P) (variants rs (map (λ x. shown_of ladder x.0 x.1.plans) (zip rs ps)))
  unfolding variants
  all-shown [] ps each = All-nil (IsGoodVariant P)
  all-shown (r ∷ rs) [] each = All-nil (IsGoodVariant P)
  all-shown (r ∷ rs) (p ∷ ps) each =
      let shown = shown_of ladder r p.plans in
      let first = each 0 (omega arith) in
      All-append (IsGoodVariant P) (variant_of r shown (known shown)) (flat_map (λ x. variant_of x.0 x.1 (known x.1)) (zip rs (map (λ x. shown_of ladder x.0 x.1.plans) (zip rs ps))))
      (one-shown r shown (known shown) first.0 first.1) (all-shown rs ps (λ k within. each (suc k) (omega (arith, within))))

module _ (ladder : Ladder) (small : HasByteNames ladder) (coded : (r : ℕ) → r < length ladder.renditions → IsOneLine (rendition_at ladder r).codecs) where
  name-small : (r : ℕ) → r < length ladder.renditions → AreBytes (rendition_at ladder r).name
  name-small r within = All-get_or (λ (rendition : RenditionValue). AreBytes rendition.name) ladder.renditions r no_rendition within small

  master-after : (before : List Put) (parts : List Part) → HaveAllPut ladder before parts → IsAfter before (put_of (master_item ladder parts))
  unfolding master_text shown_all
  master-after before parts have =
      let P : List ℕ → Type 0 = λ uri. IsPut before (percent_decode uri) in
      let each : (k : ℕ) → k < length ladder.renditions → IsShown ladder P (rendition_at ladder k) (part_at parts k) =
      λ k within. (coded k within, elim (have k).media [ inl none ↦ inl none | inr it ↦ inr (subst (λ (name : List ℕ). IsPut before name) (sym (media-named (rendition_at ladder k).name (name-small k within))) it) ]) in
      after-lines before (put_of (master_item ladder parts)) (master_lines (variants ladder.renditions (shown_all ladder parts))) refl
      (master-good P (variants ladder.renditions (shown_all ladder parts)) (all-shown ladder P ladder.renditions parts each))

  -- a segment of rendition r, behind these
  module _ (parts : List Part) (before : List Put) (r : ℕ) (plan : SegmentPlan) (within : r < length parts) (listed : r < length ladder.renditions) (have : HaveAllPut ladder before parts) where
    abbrev plans_then : List SegmentPlan
    plans_then = (part_at parts r).plans ++ plan ∷ []

    abbrev segment : Put
    segment = put_of (segment_item ladder r plan)

    abbrev media : Put
    media = put_of (media_item ladder r plans_then false)

    abbrev frames : Put
    frames = put_of (frames_item ladder r plans_then false)

    abbrev master : Put
    master = put_of (master_item ladder (after parts (Row r plan)))

    abbrev with_segment : List Put
    with_segment = before ++ segment ∷ []

    abbrev with_media : List Put
    with_media = with_segment ++ media ∷ []

    abbrev with_frames : List Put
    with_frames = with_media ++ frames ∷ []

    rows-then : All (RowIsPut ladder with_segment r) (known_rows ladder r plans_then)
    unfolding row_of
    rows-then =
        let plans = (part_at parts r).plans in
        subst (λ (rows : List SegmentRow). All (RowIsPut ladder with_segment r) rows) (sym (known-more ladder r plans plan))
        (All-push (RowIsPut ladder with_segment r) (known_rows ladder r plans) (row_of (rendition_at ladder r).keys (sealed_segment (rendition_at ladder r).keys plan))
        (HasPut-more ladder before (segment ∷ []) r plans (have r)).rows (IsPut-last before segment))

    rows-behind : All (RowIsPut ladder with_media r) (known_rows ladder r plans_then)
    rows-behind =
        All-weaker (RowIsPut ladder with_segment r) (RowIsPut ladder with_media r) (λ row. IsPut-more with_segment (media ∷ []) (segment_file_name (rendition_at ladder r).name row.number)) (known_rows ladder r plans_then) rows-then

    has-grown : HasPut ladder with_frames r plans_then
    has-grown = HasPut-more ladder with_media (frames ∷ []) r plans_then (record {
      rows = rows-behind;
      media = inr (IsPut-last with_segment media);
    })

    have-then : HaveAllPut ladder with_frames (after parts (Row r plan))
    have-then q =
        let now = grown (part_at parts r) plan in
        elim (cases_eq q r) as (λ _. HasPut ladder with_frames q (part_at (after parts (Row r plan)) q).plans) [
          | inl e ↦ subst (λ (k : ℕ). HasPut ladder with_frames k (part_at (after parts (Row r plan)) k).plans) (sym e)
              (subst (λ (p : Part). HasPut ladder with_frames r p.plans) (sym (get_or-set_same parts r now no_part within)) has-grown)
          | inr n ↦ subst (λ (p : Part). HasPut ladder with_frames q p.plans) (sym (get_or-set_other parts r q now no_part n))
              (HaveAllPut-more ladder with_media (frames ∷ []) parts (HaveAllPut-more ladder with_segment (media ∷ []) parts (HaveAllPut-more ladder before (segment ∷ []) parts have)) q)
        ]

    row-after : AreAfter before (puts_of (block ladder parts (Row r plan)))
    row-after = (
      segment-after ladder before r plan,
      (
        media-after ladder with_segment r plans_then false (name-small r listed) rows-then,
        (
          frames-after ladder with_media r plans_then false (name-small r listed) rows-behind,
          (
            master-after with_frames (after parts (Row r plan)) have-then,
            tt,
          ),
        ),
      ),
    )

    row-have : HaveAllPut ladder (before ++ puts_of (block ladder parts (Row r plan))) (after parts (Row r plan))
    row-have =
        let four : with_frames ++ master ∷ [] ≡ before ++ segment ∷ media ∷ frames ∷ master ∷ [] =
        append_assoc with_media (frames ∷ []) (master ∷ []) ∙ append_assoc with_segment (media ∷ []) (frames ∷ master ∷ []) ∙ append_assoc before (segment ∷ []) (media ∷ frames ∷ master ∷ []) in
        subst (λ (l : List Put). HaveAllPut ladder l (after parts (Row r plan))) four (HaveAllPut-more ladder with_frames (master ∷ []) (after parts (Row r plan)) have-then)

  -- the end of rendition r, behind these
  module _ (parts : List Part) (before : List Put) (r : ℕ) (within : r < length parts) (listed : r < length ladder.renditions) (have : HaveAllPut ladder before parts) where
    end-after : AreAfter before (puts_of (block ladder parts (End r)))
    end-after =
        let plans = (part_at parts r).plans in
        let media_then = before ++ put_of (media_item ladder r plans true) ∷ [] in (
          media-after ladder before r plans true (name-small r listed) (have r).rows,
          (
            frames-after ladder media_then r plans true (name-small r listed) (HasPut-more ladder before (put_of (media_item ladder r plans true) ∷ []) r plans (have r)).rows,
            tt,
          ),
        )

    end-have : HaveAllPut ladder (before ++ puts_of (block ladder parts (End r))) (after parts (End r))
    end-have q =
        let more = puts_of (block ladder parts (End r)) in
        let now = closed_part (part_at parts r) in
        elim (cases_eq q r) as (λ _. HasPut ladder (before ++ more) q (part_at (after parts (End r)) q).plans) [
          | inl e ↦ subst (λ (k : ℕ). HasPut ladder (before ++ more) k (part_at (after parts (End r)) k).plans) (sym e)
              (subst (λ (p : Part). HasPut ladder (before ++ more) r p.plans) (sym (get_or-set_same parts r now no_part within)) (HasPut-more ladder before more r (part_at parts r).plans (have r)))
          | inr n ↦ subst (λ (p : Part). HasPut ladder (before ++ more) q p.plans) (sym (get_or-set_other parts r q now no_part n)) (HaveAllPut-more ladder before more parts have q)
        ]

  block-after : (parts : List Part) (before : List Put) (e : Event) → rendition_of e < length parts → length parts ≡ length ladder.renditions → HaveAllPut ladder before parts →
      AreAfter before (puts_of (block ladder parts e)) × HaveAllPut ladder (before ++ puts_of (block ladder parts e)) (after parts e)
  block-after parts before (Row r plan) within same have = (row-after parts before r plan within (omega (arith, within, same)) have, row-have parts before r plan within (omega (arith, within, same)) have)
  block-after parts before (End r) within same have = (end-after parts before r within (omega (arith, within, same)) have, end-have parts before r within (omega (arith, within, same)) have)

  blocks-after : (parts : List Part) (before : List Put) (events : List Event) → length parts ≡ length ladder.renditions → AreLegal parts events → HaveAllPut ladder before parts →
      AreAfter before (puts_of (blocks ladder parts events))
  unfolding blocks AreLegal
  blocks-after parts before [] same legal have = tt
  blocks-after parts before (e ∷ events) same legal have =
      let items = block ladder parts e in
      let more = blocks ladder (after parts e) events in
      let both = block-after parts before e legal.0 same have in
      subst (λ (l : List Put). AreAfter before l) (sym (puts-append items more))
      (AreAfter-append before (puts_of items) (puts_of more) both.0 (blocks-after (after parts e) (before ++ puts_of items) events (after-length parts e ∙ same) legal.2 both.1))

none-at : (n r : ℕ) → part_at (replicate n no_part) r ≡ no_part
none-at zero r = refl
none-at (suc n) zero = refl
none-at (suc n) (suc r) = none-at n r

-- nothing was given yet, and what came before was put
none-have : (ladder : Ladder) (before : List Put) → HasEarlierFiles ladder before → HaveAllPut ladder before (none_of ladder)
none-have ladder before has r = subst (λ (p : Part). HasPut ladder before r p.plans) (sym (none-at (length ladder.renditions) r)) (record {
  rows = subst (λ (l : List SegmentRow). All (RowIsPut ladder before r) l) (sym (append-nil (rendition_at ladder r).earlier)) (has r).rows;
  media = elim (has r).media [ inl none ↦ inl (append-nil (rendition_at ladder r).earlier ∙ none) | inr it ↦ inr it ];
})

-- each file that an item lists is put before it, or came before
pub all-after : (ladder : Ladder) (parts : List Part) (items : List ItemValue) (before : List Put) → IsAllowed ladder → HasByteNames ladder → Weaves ladder parts items → HasEarlierFiles ladder before →
    AreAfter before (puts_of items)
all-after ladder parts items before allowed small weaves has =
    let coded = all-coded ladder.renditions (none_stands (map unmeasured ladder.renditions) allowed.listable).codecs in
    subst (λ (l : List ItemValue). AreAfter before (puts_of l)) (sym weaves.items_are)
    (blocks-after ladder small coded (none_of ladder) before weaves.events (length-replicate (length ladder.renditions) no_part) weaves.legal (none-have ladder before has))

none-of : (ladder : Ladder) (r : ℕ) → HasNoEarlier ladder → (rendition_at ladder r).earlier ≡ []
none-of ladder r none = elim (cases_lt r (length ladder.renditions)) as (λ _. (rendition_at ladder r).earlier ≡ []) [
  | inl within ↦ All-get_or (λ (rendition : RenditionValue). rendition.earlier ≡ []) ladder.renditions r no_rendition within none
  | inr past ↦ ap (λ (rendition : RenditionValue). rendition.earlier) (get_or-eq_default ladder.renditions no_rendition past)
]

-- where nothing came before, no file is wanted
no-files-wanted : (ladder : Ladder) → HasNoEarlier ladder → HasEarlierFiles ladder []
no-files-wanted ladder none r = record {
  rows = subst (λ (l : List SegmentRow). All (RowIsPut ladder [] r) l) (sym (none-of ladder r none)) (All-nil (RowIsPut ladder [] r));
  media = inl (none-of ladder r none);
}

pub weaves-in-turn : (ladder : Ladder) (parts : List Part) (items : List ItemValue) → IsAllowed ladder → HasByteNames ladder → HasNoEarlier ladder → Weaves ladder parts items → AreListedInTurn lists_file (puts_of items)
weaves-in-turn ladder parts items allowed small none weaves =
    in-turn (puts_of items) (given-fit items items [] (weaves-whole ladder parts items allowed weaves) (sym (append-nil items)))
    (all-after ladder parts items [] allowed small weaves (no-files-wanted ladder none))

after-at : (before : List Put) (puts : List Put) → AreAfter before puts → AreListedBehind lists_file before puts
after-at before puts all mid p behind split name lists =
    IsAfter-at before mid behind p (subst (λ (l : List Put). AreAfter before l) split all) name lists

pub weaves-behind : (ladder : Ladder) (parts : List Part) (items : List ItemValue) (before : List Put) → IsAllowed ladder → HasByteNames ladder → Weaves ladder parts items → HasEarlierFiles ladder before →
    AreListedBehind lists_file before (puts_of items)
weaves-behind ladder parts items before allowed small weaves has = after-at before (puts_of items) (all-after ladder parts items before allowed small weaves has)
