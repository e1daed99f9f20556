-- A segment or an end is given, and shown.
use Rattle.std.proofs.Common.{◌≡◌, ◌∙◌, ℕ, zero, suc, ◌<◌, ◌≤◌, true, Bool, List, [], ◌∷◌, map, length, refl, ap, sym, subst, arith, length-append}
use Rattle.std.specs.List.{zip, slice_index}
use Rattle.std.proofs.Math.ListN.{set}
use Rattle.std.proofs.lemmas.List.{length-map, length-set}
use Rattle.cutter.specs.Plans.{SegmentPlan}
use Rattle.live_board.specs.Counts.{NoneFalls}
use Rattle.ladder_items.specs.Ladder.{Ladder, RenditionValue}
use Rattle.ladder_items.specs.Shown.{Shown}
use Rattle.ladder_items.specs.Items.{Part, part_at, count, shown_of, shown_all}
use Rattle.ladder_items.specs.Weave.{Row, End, grown, after, closed_part}
use Rattle.segment_job.specs.Segments.{sealed_segment}
use Rattle.ladder_items.specs.Rows.{row_of}
use Rattle.rounds.specs.Showing.{counts_of, ends_of}

-- a segment more ends no rendition
pub ends-row : (parts : List Part) (r : ℕ) (plan : SegmentPlan) → ends_of (after parts (Row r plan)) ≡ ends_of parts
ends-row [] r plan = refl
ends-row (p ∷ parts) zero plan = refl
ends-row (p ∷ parts) (suc r) plan = ap (λ (l : List Bool). p.ended ∷ l) (ends-row parts r plan)

pub ends-end : (parts : List Part) (r : ℕ) → ends_of (after parts (End r)) ≡ set (ends_of parts) r true
ends-end [] r = refl
ends-end (p ∷ parts) zero = refl
ends-end (p ∷ parts) (suc r) = ap (λ (l : List Bool). p.ended ∷ l) (ends-end parts r)

pub end-each : (parts : List Part) (r : ℕ) → length (after parts (End r)) ≡ length parts
end-each parts r = length-set parts r (closed_part (part_at parts r))

-- how many segments each rendition shows
counts-among : (ladder : Ladder) (renditions : List RenditionValue) (parts : List Part) → length parts ≡ length renditions
    → counts_of (map (λ x. shown_of ladder x.0 x.1.plans) (zip renditions parts)) ≡ map count parts
counts-among ladder [] [] both = refl
counts-among ladder [] (p ∷ parts) both = absurd (omega (arith, both))
counts-among ladder (k ∷ renditions) [] both = absurd (omega (arith, both))
counts-among ladder (k ∷ renditions) (p ∷ parts) both =
    ap (λ (n : ℕ). n ∷ counts_of (map (λ x. shown_of ladder x.0 x.1.plans) (zip renditions parts))) (length-map p.plans (λ plan. row_of k.keys (sealed_segment k.keys plan)))
    ∙ ap (λ (l : List ℕ). length p.plans ∷ l) (counts-among ladder renditions parts (omega (arith, both)))

pub counts-are : (ladder : Ladder) (parts : List Part) (shown : List Shown) → length parts ≡ length ladder.renditions → shown ≡ shown_all ladder parts → counts_of shown ≡ map count parts
unfolding shown_all
counts-are ladder parts shown both is = ap counts_of is ∙ counts-among ladder ladder.renditions parts both

-- no count falls by a segment more, nor by an end
row-rises : (parts : List Part) (r : ℕ) (plan : SegmentPlan) (k : ℕ) → k < length parts → slice_index (map count parts) k ≤ slice_index (map count (after parts (Row r plan))) k
row-rises [] r plan k below = absurd (omega (arith, below))
row-rises (p ∷ parts) zero plan zero below = omega (arith, length-append p.plans (plan ∷ []))
row-rises (p ∷ parts) zero plan (suc k) below = omega arith
row-rises (p ∷ parts) (suc r) plan zero below = omega arith
row-rises (p ∷ parts) (suc r) plan (suc k) below = row-rises parts r plan k (omega (arith, below))

pub rises-row : (parts : List Part) (r : ℕ) (plan : SegmentPlan) → NoneFalls (map count parts) (map count (after parts (Row r plan)))
rises-row parts r plan = (
  length-map parts count ∙ (sym (length-set parts r (grown (part_at parts r) plan)) ∙ sym (length-map (after parts (Row r plan)) count)),
  λ k below. row-rises parts r plan k (omega (arith, below, length-map parts count)),
)

pub none-falls : (ns : List ℕ) → NoneFalls ns ns
none-falls ns = (refl, λ k below. omega arith)

rises-as : (ms ns os ps : List ℕ) → ms ≡ os → ns ≡ ps → NoneFalls os ps → NoneFalls ms ns
rises-as ms ns os ps e f n = subst (λ (l : List ℕ). NoneFalls l ns) (sym e) (subst (λ (l : List ℕ). NoneFalls os l) (sym f) n)

pub rises-by-row : (ladder : Ladder) (parts : List Part) (r : ℕ) (plan : SegmentPlan) (shown now : List Shown) (list : List ℕ) → list ≡ counts_of shown
    → length parts ≡ length ladder.renditions → shown ≡ shown_all ladder parts → now ≡ shown_all ladder (after parts (Row r plan)) → NoneFalls list (counts_of now)
rises-by-row ladder parts r plan shown now list is each are then =
    rises-as list (counts_of now) (map count parts) (map count (after parts (Row r plan)))
    (is ∙ counts-are ladder parts shown each are) (counts-are ladder (after parts (Row r plan)) now (length-set parts r (grown (part_at parts r) plan) ∙ each) then) (rises-row parts r plan)

pub rises-as-is : (list : List ℕ) (shown : List Shown) → list ≡ counts_of shown → NoneFalls list (counts_of shown)
rises-as-is list shown is = rises-as list (counts_of shown) (counts_of shown) (counts_of shown) is refl (none-falls (counts_of shown))

-- what is shown behind an end is what was shown
end-plans : (ladder : Ladder) (renditions : List RenditionValue) (parts : List Part) (r : ℕ)
    → map (λ x. shown_of ladder x.0 x.1.plans) (zip renditions (after parts (End r))) ≡ map (λ x. shown_of ladder x.0 x.1.plans) (zip renditions parts)
end-plans ladder [] parts r = refl
end-plans ladder (k ∷ renditions) [] r = refl
end-plans ladder (k ∷ renditions) (p ∷ parts) zero = refl
end-plans ladder (k ∷ renditions) (p ∷ parts) (suc r) = ap (λ (l : List Shown). shown_of ladder k p.plans ∷ l) (end-plans ladder renditions parts r)

pub end-shown : (ladder : Ladder) (parts : List Part) (r : ℕ) → shown_all ladder (after parts (End r)) ≡ shown_all ladder parts
unfolding shown_all
end-shown ladder parts r = end-plans ladder ladder.renditions parts r
