-- All that a rendition has to give, given at once.
use Rattle.std.proofs.Common.{◌≡◌, ◌∙◌, ℕ, suc, ◌+◌, ◌<◌, Bool, true, false, List, [], ◌∷◌, ◌++◌, length, Some, refl, ap, sym, subst, arith}
use Rattle.std.specs.List.{All, slice_get}
use Rattle.std.proofs.Math.ListN.{set}
use Rattle.std.proofs.lemmas.List.{append-nil, get_or-set_same, set-get_or}
use Rattle.std.proofs.lemmas.List.Elements.{All-cons, All-append}
use Rattle.cutter.specs.declared.settings.CutSettings.{CutSettings}
use Rattle.cutter.specs.Plans.{SegmentPlan}
use Rattle.cutter.specs.Ordered.{IsPlan}
use Rattle.ingest.specs.declared.lane.Lane.{Lane}
use Rattle.ingest.specs.Streams.{AreNext}
use Rattle.ingest.specs.Lanes.{is_good}
use Rattle.ladder_items.specs.Ladder.{Ladder}
use Rattle.ladder_items.specs.Shown.{Shown}
use Rattle.ladder_items.specs.Items.{Part, no_part, part_at, shown_all}
use Rattle.ladder_items.specs.Weave.{Event, Row, End, rendition_of, AreLegal, closed_part, after, after_all, block, blocks}
use Rattle.ladder_items.specs.Giving.{IsGoing, rows, no_shown}
use Rattle.item_io.specs.Views.{OutletView}
use Rattle.ladder_items.specs.Putting.{PutAll, PutFewer, PutSome}
use Rattle.ladder_items.specs.World.{AreOf}
use Rattle.ladder_items.proofs.Puts.{all_none, all-more, put-more, put-front, fewer-none, fewer-front, fewer-more, grows-none}
use Rattle.ladder_items.proofs.Blocks.{grown-at, after-each}
use Rattle.ladder_items.proofs.Nexts.{shown-at, shown-set}
use Rattle.ladder_items.proofs.Rows.{rows-each, rows-part, after_all-append, blocks-append, legal-append}
use Rattle.serial_run.specs.Dues.{ends, due}

-- plans that stand behind others in order come next
pub next-behind : (r : ℕ) (s : CutSettings) (n : ℕ) (before plans : List SegmentPlan)
    → ((k : ℕ) (plan : SegmentPlan) → slice_get (before ++ plans) k ≡ Some plan → IsPlan r s (n + k) plan) → AreNext r s (n + length before) plans
next-behind r s n [] [] order = tt
next-behind r s n [] (p ∷ plans) order =
    let behind = next-behind r s (n + 1) [] plans (λ k plan at. subst (λ (m : ℕ). IsPlan r s m plan) (omega arith) (order (suc k) plan at)) in
    (order 0 p refl, subst (λ (m : ℕ). AreNext r s m plans) (omega arith) behind)
next-behind r s n (b ∷ before) plans order =
    subst (λ (m : ℕ). AreNext r s m plans) (omega arith)
    (next-behind r s (n + 1) before plans (λ k plan at. subst (λ (m : ℕ). IsPlan r s m plan) (omega arith) (order (suc k) plan at)))

-- events of rendition r
none-of-r : (r : ℕ) → All (λ (e : Event). rendition_of e ≡ r) []
none-of-r r k d below = absurd (omega (arith, below))

rows-of-r : (r : ℕ) (ps : List SegmentPlan) → All (λ (e : Event). rendition_of e ≡ r) (rows r ps)
rows-of-r r [] = none-of-r r
rows-of-r r (p ∷ ps) = All-cons (λ (e : Event). rendition_of e ≡ r) (Row r p) (rows r ps) refl (rows-of-r r ps)

ends-of-r : (r : ℕ) (b : Bool) → All (λ (e : Event). rendition_of e ≡ r) (ends r b)
ends-of-r r true = All-cons (λ (e : Event). rendition_of e ≡ r) (End r) [] refl (none-of-r r)
ends-of-r r false = none-of-r r

rows-legal : (parts : List Part) (r : ℕ) (ps : List SegmentPlan) → r < length parts → (part_at parts r).ended ≡ false → AreLegal parts (rows r ps)
unfolding AreLegal
rows-legal parts r [] below going = tt
rows-legal parts r (p ∷ ps) below going = (
  below,
  going,
  rows-legal (after parts (Row r p)) r ps (omega (arith, below, after-each parts r p)) (ap (λ (q : Part). q.ended) (grown-at parts r p below) ∙ going),
)

ends-legal : (parts : List Part) (r : ℕ) (b : Bool) → r < length parts → (part_at parts r).ended ≡ false → AreLegal parts (ends r b)
unfolding AreLegal
ends-legal parts r true below going = (below, going, tt)
ends-legal parts r false below going = tt

-- behind some segments the rendition goes on
pub going-on : (ladder : Ladder) (r : ℕ) (parts : List Part) (shown now : List Shown) (ps : List SegmentPlan) → IsGoing ladder r parts shown
    → now ≡ shown_all ladder (after_all parts (rows r ps)) → IsGoing ladder r (after_all parts (rows r ps)) now
going-on ladder r parts shown now ps g is =
    let each = rows-each parts r ps in
    let part = rows-part parts r ps g.within in
    record { shown_are = is; each = each ∙ g.each; within = omega (arith, each, g.within); going = ap (λ (q : Part). q.ended) part ∙ g.going }

pub due-are-of : (ladder : Ladder) (r : ℕ) (parts : List Part) (shown : List Shown) (lane : Lane) → IsGoing ladder r parts shown → AreOf r parts (due r lane)
due-are-of ladder r parts shown lane g =
    let ps = lane.intake.filled in
    let h = going-on ladder r parts shown _ ps g refl in
    record {
      of_r = All-append (λ (e : Event). rendition_of e ≡ r) (rows r ps) (ends r (is_good lane.stop)) (rows-of-r r ps) (ends-of-r r (is_good lane.stop));
      legal = legal-append parts (rows r ps) (ends r (is_good lane.stop)) (rows-legal parts r ps g.within g.going) (ends-legal (after_all parts (rows r ps)) r (is_good lane.stop) h.within h.going);
    }

end-at : (parts : List Part) (r : ℕ) → r < length parts → part_at (after parts (End r)) r ≡ closed_part (part_at parts r)
end-at parts r below = get_or-set_same parts r (closed_part (part_at parts r)) no_part below

ends-part : (parts : List Part) (r : ℕ) (b : Bool) → r < length parts → (part_at parts r).ended ≡ false → part_at (after_all parts (ends r b)) r ≡ record { plans = (part_at parts r).plans; ended = b }
unfolding after_all
ends-part parts r true below going = end-at parts r below
ends-part parts r false below going = ap (λ (b : Bool). record { plans = (part_at parts r).plans; ended = b }) going

-- the part of r behind all that was due
pub due-part : (ladder : Ladder) (r : ℕ) (parts : List Part) (shown : List Shown) (lane : Lane) → IsGoing ladder r parts shown
    → part_at (after_all parts (due r lane)) r ≡ record { plans = (part_at parts r).plans ++ lane.intake.filled; ended = is_good lane.stop }
due-part ladder r parts shown lane g =
    let ps = lane.intake.filled in
    let h = going-on ladder r parts shown _ ps g refl in
    ap (λ (l : List Part). part_at l r) (after_all-append parts (rows r ps) (ends r (is_good lane.stop)))
    ∙ (ends-part (after_all parts (rows r ps)) r (is_good lane.stop) h.within h.going
    ∙ ap (λ (q : Part). record { plans = q.plans; ended = is_good lane.stop }) (rows-part parts r ps g.within))

-- the end of a rendition changes nothing that is shown
shown-end : (ladder : Ladder) (parts : List Part) (r : ℕ) → r < length parts → length parts ≡ length ladder.renditions
    → shown_all ladder (after parts (End r)) ≡ shown_all ladder parts
shown-end ladder parts r below each =
    shown-set ladder parts r (closed_part (part_at parts r)) below each
    ∙ (ap (set (shown_all ladder parts) r) (sym (shown-at ladder parts r no_shown below each)) ∙ set-get_or (shown_all ladder parts) r no_shown)

end-blocks : (ladder : Ladder) (parts : List Part) (r : ℕ) → blocks ladder parts (End r ∷ []) ≡ block ladder parts (End r)
unfolding blocks
end-blocks ladder parts r = append-nil (block ladder parts (End r))

end-shown : (ladder : Ladder) (parts : List Part) (shown : List Shown) (r : ℕ) → IsGoing ladder r parts shown → shown ≡ shown_all ladder (after_all parts (End r ∷ []))
unfolding after_all
end-shown ladder parts shown r g = g.shown_are ∙ sym (shown-end ladder parts r g.within g.each)

-- what was put of all that was due
abbrev pub Given : {Y : Type 0} → OutletView Y → Ladder → ℕ → List Part → Y → Y → List Shown → Lane → Type 0
Given out ladder r parts a b now lane = PutAll out a b (blocks ladder parts (due r lane)) × (now ≡ shown_all ladder (after_all parts (due r lane)))

abbrev pub Rows : {Y : Type 0} → OutletView Y → Ladder → ℕ → List Part → Y → Y → List Shown → List SegmentPlan → Type 0
Rows out ladder r parts a b now ps = PutAll out a b (blocks ladder parts (rows r ps)) × (now ≡ shown_all ladder (after_all parts (rows r ps)))

-- there were none
pub none-closed : {Y : Type 0} (out : OutletView Y) (ladder : Ladder) (r : ℕ) (parts : List Part) (a : Y) (shown : List Shown) (ps : List SegmentPlan) → length ps ≡ 0
    → IsGoing ladder r parts shown → Rows out ladder r parts a a shown ps
unfolding blocks after_all
none-closed out ladder r parts a shown [] e g = (all_none out a, g.shown_are)
none-closed out ladder r parts a shown (p ∷ ps) e g = absurd (omega (arith, e))

-- the segments alone
pub gave-rows : {Y : Type 0} (out : OutletView Y) (ladder : Ladder) (r : ℕ) (parts : List Part) (a b : Y) (now : List Shown) (lane : Lane) → is_good lane.stop ≡ false
    → Rows out ladder r parts a b now lane.intake.filled → Given out ladder r parts a b now lane
gave-rows out ladder r parts a b now lane goes given =
    subst (λ (g : Bool). PutAll out a b (blocks ladder parts (rows r lane.intake.filled ++ ends r g)) × (now ≡ shown_all ladder (after_all parts (rows r lane.intake.filled ++ ends r g)))) (sym goes)
    (subst (λ (events : List Event). PutAll out a b (blocks ladder parts events) × (now ≡ shown_all ladder (after_all parts events))) (sym (append-nil (rows r lane.intake.filled))) given)

-- the segments, and the end behind them
pub gave-end : {Y : Type 0} (out : OutletView Y) (ladder : Ladder) (r : ℕ) (parts : List Part) (a b c : Y) (shown now : List Shown) (lane : Lane) → is_good lane.stop ≡ true
    → IsGoing ladder r parts shown → Rows out ladder r parts a b now lane.intake.filled
    → PutAll out b c (block ladder (after_all parts (rows r lane.intake.filled)) (End r)) → Given out ladder r parts a c now lane
gave-end out ladder r parts a b c shown now lane good g given end =
    let ps = lane.intake.filled in
    let h = going-on ladder r parts shown now ps g given.1 in
    subst (λ (e : Bool). PutAll out a c (blocks ladder parts (rows r ps ++ ends r e)) × (now ≡ shown_all ladder (after_all parts (rows r ps ++ ends r e)))) (sym good) (
      subst (PutAll out a c) (sym (blocks-append ladder parts (rows r ps) (End r ∷ []) ∙ ap (λ l. blocks ladder parts (rows r ps) ++ l) (end-blocks ladder (after_all parts (rows r ps)) r)))
          (all-more out a b c _ _ given.0 end),
      end-shown ladder (after_all parts (rows r ps)) now r h ∙ ap (shown_all ladder) (sym (after_all-append parts (rows r ps) (End r ∷ []))),
    )

-- the items of all that is due: those of the segments, and behind them those of the end, if it is one
due-front : (ladder : Ladder) (r : ℕ) (parts : List Part) (lane : Lane)
    → blocks ladder parts (due r lane) ≡ blocks ladder parts (rows r lane.intake.filled) ++ blocks ladder (after_all parts (rows r lane.intake.filled)) (ends r (is_good lane.stop))
due-front ladder r parts lane = blocks-append ladder parts (rows r lane.intake.filled) (ends r (is_good lane.stop))

due-end : (ladder : Ladder) (r : ℕ) (parts : List Part) (lane : Lane) → is_good lane.stop ≡ true
    → blocks ladder parts (due r lane) ≡ blocks ladder parts (rows r lane.intake.filled) ++ block ladder (after_all parts (rows r lane.intake.filled)) (End r)
due-end ladder r parts lane good =
    let ps = lane.intake.filled in
    due-front ladder r parts lane
    ∙ (ap (λ e. blocks ladder parts (rows r ps) ++ blocks ladder (after_all parts (rows r ps)) (ends r e)) good
    ∙ ap (λ l. blocks ladder parts (rows r ps) ++ l) (end-blocks ladder (after_all parts (rows r ps)) r))

-- it was cut off in the segments, or in the end
pub cut-rows : {Y : Type 0} (out : OutletView Y) (ladder : Ladder) (r : ℕ) (parts : List Part) (a b : Y) (lane : Lane)
    → PutSome out a b (blocks ladder parts (rows r lane.intake.filled)) → PutSome out a b (blocks ladder parts (due r lane))
cut-rows out ladder r parts a b lane some = subst (PutSome out a b) (sym (due-front ladder r parts lane)) (put-front out a b _ _ some)

pub cut-end : {Y : Type 0} (out : OutletView Y) (ladder : Ladder) (r : ℕ) (parts : List Part) (a b c : Y) (lane : Lane) → is_good lane.stop ≡ true
    → PutAll out a b (blocks ladder parts (rows r lane.intake.filled))
    → PutSome out b c (block ladder (after_all parts (rows r lane.intake.filled)) (End r)) → PutSome out a c (blocks ladder parts (due r lane))
cut-end out ladder r parts a b c lane good given end = subst (PutSome out a c) (sym (due-end ladder r parts lane good)) (put-more out a b c _ _ given end)

-- where plans are closed, an item is left
pub rows-left : {Y : Type 0} (out : OutletView Y) (ladder : Ladder) (r : ℕ) (parts : List Part) (a : Y) (ps : List SegmentPlan) → (length ps ≡ 0 → ⊥)
    → PutFewer out a a (blocks ladder parts (rows r ps))
unfolding blocks
rows-left out ladder r parts a [] some = absurd (some refl)
rows-left out ladder r parts a (p ∷ ps) some = fewer-none out a a _ _ (grows-none (out.holds a))

-- an item is left of the segments, or of the end
pub left-rows : {Y : Type 0} (out : OutletView Y) (ladder : Ladder) (r : ℕ) (parts : List Part) (a b : Y) (lane : Lane)
    → PutFewer out a b (blocks ladder parts (rows r lane.intake.filled)) → PutFewer out a b (blocks ladder parts (due r lane))
left-rows out ladder r parts a b lane some = subst (PutFewer out a b) (sym (due-front ladder r parts lane)) (fewer-front out a b _ _ some)

pub left-end : {Y : Type 0} (out : OutletView Y) (ladder : Ladder) (r : ℕ) (parts : List Part) (a b c : Y) (lane : Lane) → is_good lane.stop ≡ true
    → PutAll out a b (blocks ladder parts (rows r lane.intake.filled))
    → PutFewer out b c (block ladder (after_all parts (rows r lane.intake.filled)) (End r)) → PutFewer out a c (blocks ladder parts (due r lane))
left-end out ladder r parts a b c lane good given end = subst (PutFewer out a c) (sym (due-end ladder r parts lane good)) (fewer-more out a b c _ _ given end)
