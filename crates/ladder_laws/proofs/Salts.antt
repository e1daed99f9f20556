-- The keys of each rendition hold its salt, and begin behind what came before; the rows that are known of it.
use Rattle.std.proofs.Common.{◌≡◌, ◌∙◌, ℕ, zero, suc, ◌+◌, List, [], ◌∷◌, ◌++◌, length, get_or, refl, ap, sym, append_assoc, length-append}
use Rattle.std.specs.List.{All}
use Rattle.std.proofs.lemmas.List.{length-map, map-append}
use Rattle.std.proofs.lemmas.List.Elements.{All-head, All-tail}
use Rattle.cutter.specs.Plans.{SegmentPlan}
use Rattle.segment_job.specs.Segments.{sealed_segment}
use Rattle.media_playlist.specs.Rows.{SegmentRow}
use Rattle.ladder_items.specs.declared.settings.Kind.{Kind}
use Rattle.ladder_items.specs.Ladder.{RenditionValue, Ladder, GoesOn, no_rendition, rendition_at, IsAllowed}
use Rattle.ladder_items.specs.Rows.{row_of, rows_of}

abbrev HoldsSalt : RenditionValue → Type 0
HoldsSalt rendition = rendition.keys.salt ≡ rendition.salt

held-at : (renditions : List RenditionValue) (r : ℕ) → All HoldsSalt renditions → HoldsSalt (get_or renditions r no_rendition)
held-at [] r all = refl
held-at (x ∷ xs) zero all = All-head HoldsSalt x xs all
held-at (x ∷ xs) (suc r) all = held-at xs r (All-tail HoldsSalt x xs all)

pub salt-held : (ladder : Ladder) (r : ℕ) → IsAllowed ladder → HoldsSalt (rendition_at ladder r)
salt-held ladder r allowed = held-at ladder.renditions r allowed.within.salts

abbrev BeginsBehind : RenditionValue → Type 0
BeginsBehind rendition = rendition.keys.first ≡ rendition.gone.rows + length rendition.earlier

behind-at : (kind : Kind) (target : ℕ) (renditions : List RenditionValue) (r : ℕ) → All (GoesOn kind target) renditions → BeginsBehind (get_or renditions r no_rendition)
behind-at kind target [] r all = refl
behind-at kind target (x ∷ xs) zero all = (All-head (GoesOn kind target) x xs all).first
behind-at kind target (x ∷ xs) (suc r) all = behind-at kind target xs r (All-tail (GoesOn kind target) x xs all)

pub begins-behind : (ladder : Ladder) (r : ℕ) → IsAllowed ladder → BeginsBehind (rendition_at ladder r)
begins-behind ladder r allowed = behind-at ladder.kind ladder.cut.target ladder.renditions r allowed.within.go_on

-- all rows that are known of rendition r behind these plans
abbrev pub known_rows : Ladder → ℕ → List SegmentPlan → List SegmentRow
known_rows ladder r plans = (rendition_at ladder r).earlier ++ rows_of (rendition_at ladder r).keys plans

pub known-more : (ladder : Ladder) (r : ℕ) (plans : List SegmentPlan) (plan : SegmentPlan)
    → known_rows ladder r (plans ++ plan ∷ []) ≡ known_rows ladder r plans ++ row_of (rendition_at ladder r).keys (sealed_segment (rendition_at ladder r).keys plan) ∷ []
known-more ladder r plans plan =
    let rendition = rendition_at ladder r in
    let keys = rendition.keys in
    ap (λ l. rendition.earlier ++ l) (map-append (λ p. row_of keys (sealed_segment keys p)) plans (plan ∷ []))
    ∙ sym (append_assoc rendition.earlier (rows_of keys plans) (row_of keys (sealed_segment keys plan) ∷ []))

pub known-count : (ladder : Ladder) (r : ℕ) (plans : List SegmentPlan) → length (known_rows ladder r plans) ≡ length (rendition_at ladder r).earlier + length plans
known-count ladder r plans =
    let rendition = rendition_at ladder r in
    length-append rendition.earlier (rows_of rendition.keys plans) ∙ ap (λ n. length rendition.earlier + n) (length-map plans (λ p. row_of rendition.keys (sealed_segment rendition.keys p)))
