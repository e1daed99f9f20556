-- What is left behind a segment that wasn't given.
use Rattle.std.proofs.Common.{◌≡◌, ◌∙◌, ℕ, List, [], get_or, inl, inr, ap, subst}
use Rattle.std.proofs.Math.ListN.{set}
use Rattle.std.proofs.lemmas.List.{append-nil, get_or_default}
use Rattle.cutter.specs.Plans.{SegmentPlan}
use Rattle.item_io.specs.Items.{ItemValue}
use Rattle.item_io.specs.Views.{OutletView}
use Rattle.ladder_items.specs.Ladder.{Ladder}
use Rattle.ladder_items.specs.Shown.{Shown}
use Rattle.ladder_items.specs.Items.{Part, shown_all}
use Rattle.ladder_items.specs.Weave.{Row, after, block}
use Rattle.ladder_items.specs.Giving.{IsGoing, no_shown}
use Rattle.ladder_items.specs.Leaving.{ended_shown, LeavesRow, PutPart, TakesNoRow}
use Rattle.ladder_items.specs.Putting.{PutAll, PutFewer}
use Rattle.ladder_items.proofs.Nexts.{here-long}
use Rattle.ladder_items.proofs.Puts.{all_none, all-more, grows-more}

-- the playlists of r alone have ended
pub ends-here : (ladder : Ladder) (r : ℕ) (parts : List Part) (shown : List Shown) (old new : Shown) → IsGoing ladder r parts shown → old ≡ get_or shown r old
    → new ≡ ended_shown old → TakesNoRow r shown (set shown r new)
ends-here ladder r parts shown old new g at is =
    inr (ap (set shown r) (is ∙ ap ended_shown (at ∙ get_or_default shown r old no_shown (here-long ladder r parts shown g))))

-- a prefix of some items was put, and not all of them
pub part-of : {Y : Type 0} (out : OutletView Y) (a b c : Y) (whole items : List ItemValue) → PutAll out a b whole → PutFewer out b c items → PutPart out a c whole items
part-of out a b c whole items g p = record {
  front = p.given;
  item = p.item;
  rest = p.rest;
  split = p.all;
  grows = grows-more (out.holds a) (out.holds b) (out.holds c) whole p.given g.grows p.grows;
}

-- a segment wasn't given, behind those that were
pub leaves-more : {Y : Type 0} (out : OutletView Y) (a b c : Y) (whole : List ItemValue) (ladder : Ladder) (r : ℕ) (parts : List Part) (plan : SegmentPlan) (shown : List Shown)
    → PutAll out a b whole → LeavesRow out b c [] ladder r parts plan shown → LeavesRow out a c whole ladder r parts plan shown
leaves-more out a b c whole ladder r parts plan shown g l = elim l as (λ _. LeavesRow out a c whole ladder r parts plan shown) [
  | inl h ↦ inl (subst (PutAll out a c) (append-nil whole) (all-more out a b c whole [] g h.0), h.1)
  | inr h ↦ inr (
    record {
      front = h.0.front;
      item = h.0.item;
      rest = h.0.rest;
      split = h.0.split;
      grows = grows-more (out.holds a) (out.holds b) (out.holds c) whole h.0.front g.grows h.0.grows;
    },
    h.1,
  )
]

-- nothing was done
pub leaves-none : {Y : Type 0} (out : OutletView Y) (a : Y) (ladder : Ladder) (r : ℕ) (parts : List Part) (plan : SegmentPlan) (shown : List Shown)
    → IsGoing ladder r parts shown → LeavesRow out a a [] ladder r parts plan shown
leaves-none out a ladder r parts plan shown g = inl (all_none out a, inl g.shown_are)

-- the row wasn't taken
pub leaves-no-row : {Y : Type 0} (out : OutletView Y) (a : Y) (ladder : Ladder) (r : ℕ) (parts : List Part) (plan : SegmentPlan) (shown now : List Shown)
    → IsGoing ladder r parts shown → TakesNoRow r shown now → LeavesRow out a a [] ladder r parts plan now
leaves-no-row out a ladder r parts plan shown now g none =
    inl (all_none out a, subst (λ (l : List Shown). TakesNoRow r l now) g.shown_are none)

-- the row was taken, and the block put in part
pub leaves-part : {Y : Type 0} (out : OutletView Y) (a b : Y) (ladder : Ladder) (r : ℕ) (parts : List Part) (plan : SegmentPlan) (now : List Shown)
    → PutFewer out a b (block ladder parts (Row r plan)) → now ≡ shown_all ladder (after parts (Row r plan)) → LeavesRow out a b [] ladder r parts plan now
leaves-part out a b ladder r parts plan now some is = inr (part-of out a a b [] _ (all_none out a) some, is)
