-- The items of one rendition in a weave.
use Rattle.std.proofs.Common.{◌≡◌, ◌∙◌, inl, inr, ℕ, zero, suc, ◌<◌, ◌==◌, true, false, List, [], ◌∷◌, ◌++◌, length, replicate, refl, ap, sym, subst, arith, append_assoc}
use Rattle.std.proofs.lemmas.List.{get_or-set_same, get_or-set_other, append-nil}
use Rattle.std.proofs.lemmas.Bool.{cases_eq}
use Rattle.std.proofs.lemmas.List.Elements.{filter-append}
use Rattle.std.proofs.lemmas.Bool.Decides.{nat_tests}
use Rattle.cutter.specs.Plans.{SegmentPlan}
use Rattle.item_io.specs.Items.{ItemValue}
use Rattle.ladder_items.specs.Ladder.{Ladder}
use Rattle.ladder_items.specs.Items.{Part, no_part, part_at, segment_item, media_item, frames_item, items_from, end_items, items_of}
use Rattle.ladder_items.specs.Weave.{Event, Row, End, rendition_of, grown, closed_part, after, after_all, AreLegal, block, blocks, none_of, Weaves}
use Rattle.ladder_laws.specs.Seen.{is_of, of_rendition}

pub same_test : (n : ℕ) → (n == n) ≡ true
same_test n = grind (arith, nat_tests)

other_test : (q r : ℕ) → (r ≡ q → ⊥) → (q == r) ≡ false
other_test q r h = grind (arith, nat_tests)

-- a segment more, and the playlists behind it
abbrev three : Ladder → ℕ → List SegmentPlan → SegmentPlan → List ItemValue
three ladder r before plan =
    segment_item ladder r plan
    ∷ media_item ladder r (before ++ plan ∷ []) false
    ∷ frames_item ladder r (before ++ plan ∷ []) false
    ∷ []

from-more : (ladder : Ladder) (r : ℕ) (before plans : List SegmentPlan) (plan : SegmentPlan)
    → items_from ladder r before (plans ++ plan ∷ []) ≡ items_from ladder r before plans ++ three ladder r (before ++ plans) plan
unfolding items_from
from-more ladder r before [] plan = ap (λ l. three ladder r l plan) (sym (append-nil before))
from-more ladder r before (p ∷ plans) plan =
    ap (λ l. three ladder r before p ++ l)
    (from-more ladder r (before ++ p ∷ []) plans plan
    ∙ ap (λ l. items_from ladder r (before ++ p ∷ []) plans ++ three ladder r l plan) (append_assoc before (p ∷ []) plans))

row-last : (ladder : Ladder) (r : ℕ) (part : Part) (plan : SegmentPlan) → part.ended ≡ false
    → items_of ladder r (grown part plan) ≡ items_of ladder r part ++ three ladder r part.plans plan
row-last ladder r part plan going =
    ap (λ b. items_from ladder r [] (part.plans ++ plan ∷ []) ++ end_items ladder r (grown part plan) b) going
    ∙ (append-nil (items_from ladder r [] (part.plans ++ plan ∷ []))
    ∙ (from-more ladder r [] part.plans plan
    ∙ ap (λ l. l ++ three ladder r part.plans plan)
    (sym (append-nil (items_from ladder r [] part.plans)) ∙ ap (λ b. items_from ladder r [] part.plans ++ end_items ladder r part b) (sym going))))

end-last : (ladder : Ladder) (r : ℕ) (part : Part) → part.ended ≡ false
    → items_of ladder r (closed_part part) ≡ items_of ladder r part ++ media_item ladder r part.plans true ∷ frames_item ladder r part.plans true ∷ []
end-last ladder r part going =
    ap (λ l. l ++ media_item ladder r part.plans true ∷ frames_item ladder r part.plans true ∷ [])
    (sym (append-nil (items_from ladder r [] part.plans)) ∙ ap (λ b. items_from ladder r [] part.plans ++ end_items ladder r part b) (sym going))

-- one event adds its items to those of its rendition
one-more : (ladder : Ladder) (r : ℕ) (parts : List Part) (e : Event) → rendition_of e < length parts → (part_at parts (rendition_of e)).ended ≡ false
    → items_of ladder r (part_at (after parts e) r) ≡ items_of ladder r (part_at parts r) ++ of_rendition r (block ladder parts e)
one-more ladder r parts (Row q p) below going =
    elim (cases_eq r q) as (λ _. items_of ladder r (part_at (after parts (Row q p)) r) ≡ items_of ladder r (part_at parts r) ++ of_rendition r (block ladder parts (Row q p))) [
      | inl e ↦ subst (λ (j : ℕ). items_of ladder j (part_at (after parts (Row q p)) j) ≡ items_of ladder j (part_at parts j) ++ of_rendition j (block ladder parts (Row q p))) (sym e)
          (ap (items_of ladder q) (get_or-set_same parts q (grown (part_at parts q) p) no_part below)
          ∙ (row-last ladder q (part_at parts q) p going ∙ rw (same_test q) refl))
      | inr n ↦ ap (items_of ladder r) (get_or-set_other parts q r (grown (part_at parts q) p) no_part n)
          ∙ (sym (append-nil _) ∙ rw (other_test q r n) refl)
    ]
one-more ladder r parts (End q) below going =
    elim (cases_eq r q) as (λ _. items_of ladder r (part_at (after parts (End q)) r) ≡ items_of ladder r (part_at parts r) ++ of_rendition r (block ladder parts (End q))) [
      | inl e ↦ subst (λ (j : ℕ). items_of ladder j (part_at (after parts (End q)) j) ≡ items_of ladder j (part_at parts j) ++ of_rendition j (block ladder parts (End q))) (sym e)
          (ap (items_of ladder q) (get_or-set_same parts q (closed_part (part_at parts q)) no_part below)
          ∙ (end-last ladder q (part_at parts q) going ∙ rw (same_test q) refl))
      | inr n ↦ ap (items_of ladder r) (get_or-set_other parts q r (closed_part (part_at parts q)) no_part n)
          ∙ (sym (append-nil _) ∙ rw (other_test q r n) refl)
    ]

all-more : (ladder : Ladder) (r : ℕ) (parts : List Part) (events : List Event) → AreLegal parts events
    → items_of ladder r (part_at (after_all parts events) r) ≡ items_of ladder r (part_at parts r) ++ of_rendition r (blocks ladder parts events)
unfolding AreLegal after_all blocks
all-more ladder r parts [] legal = sym (append-nil (items_of ladder r (part_at parts r)))
all-more ladder r parts (e ∷ events) legal =
    all-more ladder r (after parts e) events legal.2
    ∙ (ap (λ (l : List ItemValue). l ++ of_rendition r (blocks ladder (after parts e) events)) (one-more ladder r parts e legal.0 legal.1)
    ∙ (append_assoc (items_of ladder r (part_at parts r)) (of_rendition r (block ladder parts e)) _
    ∙ ap (λ (l : List ItemValue). items_of ladder r (part_at parts r) ++ l) (sym (filter-append (is_of r) (block ladder parts e) (blocks ladder (after parts e) events)))))

none-at : (n r : ℕ) → part_at (replicate n no_part) r ≡ no_part
none-at zero r = refl
none-at (suc n) zero = refl
none-at (suc n) (suc r) = none-at n r

pub seen : (ladder : Ladder) (parts : List Part) (items : List ItemValue) (r : ℕ) → Weaves ladder parts items
    → of_rendition r items ≡ items_of ladder r (part_at parts r)
unfolding items_from
seen ladder parts items r w =
    ap (of_rendition r) w.items_are
    ∙ sym (ap (λ (ps : List Part). items_of ladder r (part_at ps r)) (sym w.parts_are)
    ∙ (all-more ladder r (none_of ladder) w.events w.legal
    ∙ ap (λ (q : Part). items_of ladder r q ++ of_rendition r (blocks ladder (none_of ladder) w.events)) (none-at (length ladder.renditions) r)))
