-- The four items of a segment stand together in a weave.
use Rattle.std.proofs.Common.{◌≡◌, ◌∙◌, ℕ, List, [], ◌∷◌, ◌++◌, take, drop, refl, ap, sym, subst, append_assoc}
use Rattle.std.proofs.lemmas.List.{append-nil}
use Rattle.cutter.specs.Plans.{SegmentPlan}
use Rattle.item_io.specs.Items.{ItemValue, SegmentValue, SegmentItem, MasterItem}
use Rattle.ladder_items.specs.Ladder.{Ladder}
use Rattle.ladder_items.specs.Items.{Part}
use Rattle.ladder_items.specs.Weave.{Event, Row, End, after, after_all, AreLegal, block, blocks, none_of, Weaves}
use Rattle.ladder_laws.specs.Seen.{IsRowBehind, BeginsRow, EndsRow}
use Rattle.ladder_items.proofs.Rows.{after_all-append, blocks-append, legal-append}

legal-front : (parts : List Part) (xs ys : List Event) → AreLegal parts (xs ++ ys) → AreLegal parts xs
unfolding AreLegal
legal-front parts [] ys legal = tt
legal-front parts (x ∷ xs) ys legal = (legal.0, legal.1, legal-front (after parts x) xs ys legal.2)

pub legal-behind : (parts : List Part) (xs ys : List Event) → AreLegal parts (xs ++ ys) → AreLegal (after_all parts xs) ys
unfolding AreLegal after_all
legal-behind parts [] ys legal = legal
legal-behind parts (x ∷ xs) ys legal = legal-behind (after parts x) xs ys legal.2

-- a segment of these events behind some of them
behind-row : (ladder : Ladder) (earlier : List Event) (r : ℕ) (plan : SegmentPlan) (later : List Event)
    → AreLegal (none_of ladder) (earlier ++ Row r plan ∷ later)
    → IsRowBehind ladder (blocks ladder (none_of ladder) earlier) (block ladder (after_all (none_of ladder) earlier) (Row r plan))
unfolding AreLegal after_all blocks
behind-row ladder earlier r plan later legal =
    let none = none_of ladder in
    let front = legal-front none earlier (Row r plan ∷ later) legal in
    let here = legal-behind none earlier (Row r plan ∷ later) legal in
    record {
      parts = after_all none earlier;
      r = r;
      plan = plan;
      weave = record { events = earlier; legal = front; parts_are = refl; items_are = refl };
      rendition = here.0;
      going = here.1;
      row = refl;
      so_far = record {
        events = earlier ++ Row r plan ∷ [];
        legal = legal-append none earlier (Row r plan ∷ []) front (here.0, here.1, tt);
        parts_are = after_all-append none earlier (Row r plan ∷ []);
        items_are = sym (blocks-append ladder none earlier (Row r plan ∷ []) ∙ ap (λ l. blocks ladder none earlier ++ l) (append-nil _));
      };
    }

-- a master among the items of events: those of a segment end with it
record MasterAt (ladder : Ladder) (parts : List Part) (events : List Event) (front : List ItemValue) (text : List ℕ) : Type 0 where
  earlier : List Event
  r : ℕ
  plan : SegmentPlan
  later : List Event
  all : events ≡ earlier ++ Row r plan ∷ later
  ends : front ++ MasterItem text ∷ [] ≡ blocks ladder parts earlier ++ block ladder (after_all parts earlier) (Row r plan)

-- one event more in front
master-next : (ladder : Ladder) (parts : List Part) (e : Event) (events : List Event) (given front : List ItemValue) (text : List ℕ)
    → given ≡ block ladder parts e → MasterAt ladder (after parts e) events front text → MasterAt ladder parts (e ∷ events) (given ++ front) text
unfolding after_all blocks
master-next ladder parts e events given front text is at = record {
  earlier = e ∷ at.earlier;
  r = at.r;
  plan = at.plan;
  later = at.later;
  all = ap (λ l. e ∷ l) at.all;
  ends = append_assoc given front (MasterItem text ∷ [])
      ∙ (ap (λ l. l ++ (front ++ MasterItem text ∷ [])) is
      ∙ (ap (λ l. block ladder parts e ++ l) at.ends ∙ sym (append_assoc (block ladder parts e) _ _)));
}

master-at : (ladder : Ladder) (parts : List Part) (events : List Event) (front : List ItemValue) (text : List ℕ) (behind : List ItemValue)
    → blocks ladder parts events ≡ front ++ MasterItem text ∷ behind → MasterAt ladder parts events front text
unfolding after_all blocks
master-at ladder parts [] [] text behind e = cc
master-at ladder parts [] (a ∷ front) text behind e = cc
master-at ladder parts (Row r plan ∷ events) [] text behind e = cc
master-at ladder parts (Row r plan ∷ events) (a ∷ []) text behind e = cc
master-at ladder parts (Row r plan ∷ events) (a ∷ b ∷ []) text behind e = cc
master-at ladder parts (Row r plan ∷ events) (a ∷ b ∷ c ∷ []) text behind e =
    record { earlier = []; r = r; plan = plan; later = events; all = refl; ends = sym (ap (take 4) e) }
master-at ladder parts (Row r plan ∷ events) (a ∷ b ∷ c ∷ d ∷ front) text behind e =
    master-next ladder parts (Row r plan) events (a ∷ b ∷ c ∷ d ∷ []) front text (sym (ap (take 4) e))
    (master-at ladder (after parts (Row r plan)) events front text behind (ap (drop 4) e))
master-at ladder parts (End r ∷ events) [] text behind e = cc
master-at ladder parts (End r ∷ events) (a ∷ []) text behind e = cc
master-at ladder parts (End r ∷ events) (a ∷ b ∷ front) text behind e =
    master-next ladder parts (End r) events (a ∷ b ∷ []) front text (sym (ap (take 2) e))
    (master-at ladder (after parts (End r)) events front text behind (ap (drop 2) e))

-- a segment among the items of events: what stands from there on begins with those of the segment
pub record SegmentAt (ladder : Ladder) (parts : List Part) (events : List Event) (front behind : List ItemValue) : Type 0 where
  pub earlier : List Event
  pub r : ℕ
  pub plan : SegmentPlan
  pub later : List Event
  pub all : events ≡ earlier ++ Row r plan ∷ later
  pub front_is : front ≡ blocks ladder parts earlier
  pub rest : List ItemValue
  pub begins : behind ≡ block ladder (after_all parts earlier) (Row r plan) ++ rest

segment-next : (ladder : Ladder) (parts : List Part) (e : Event) (events : List Event) (given front behind : List ItemValue)
    → given ≡ block ladder parts e → SegmentAt ladder (after parts e) events front behind → SegmentAt ladder parts (e ∷ events) (given ++ front) behind
unfolding after_all blocks
segment-next ladder parts e events given front behind is at = record {
  earlier = e ∷ at.earlier;
  r = at.r;
  plan = at.plan;
  later = at.later;
  all = ap (λ l. e ∷ l) at.all;
  front_is = ap (λ l. l ++ front) is ∙ ap (λ l. block ladder parts e ++ l) at.front_is;
  rest = at.rest;
  begins = at.begins;
}

pub segment-at : (ladder : Ladder) (parts : List Part) (events : List Event) (front : List ItemValue) (s : SegmentValue) (behind : List ItemValue)
    → blocks ladder parts events ≡ front ++ SegmentItem s ∷ behind → SegmentAt ladder parts events front (SegmentItem s ∷ behind)
unfolding after_all blocks
segment-at ladder parts [] [] s behind e = cc
segment-at ladder parts [] (a ∷ front) s behind e = cc
segment-at ladder parts (Row r plan ∷ events) [] s behind e = record {
  earlier = [];
  r = r;
  plan = plan;
  later = events;
  all = refl;
  front_is = refl;
  rest = blocks ladder (after parts (Row r plan)) events;
  begins = sym e;
}
segment-at ladder parts (Row r plan ∷ events) (a ∷ []) s behind e = cc
segment-at ladder parts (Row r plan ∷ events) (a ∷ b ∷ []) s behind e = cc
segment-at ladder parts (Row r plan ∷ events) (a ∷ b ∷ c ∷ []) s behind e = cc
segment-at ladder parts (Row r plan ∷ events) (a ∷ b ∷ c ∷ d ∷ front) s behind e =
    segment-next ladder parts (Row r plan) events (a ∷ b ∷ c ∷ d ∷ []) front (SegmentItem s ∷ behind) (sym (ap (take 4) e))
    (segment-at ladder (after parts (Row r plan)) events front s behind (ap (drop 4) e))
segment-at ladder parts (End r ∷ events) [] s behind e = cc
segment-at ladder parts (End r ∷ events) (a ∷ []) s behind e = cc
segment-at ladder parts (End r ∷ events) (a ∷ b ∷ front) s behind e =
    segment-next ladder parts (End r) events (a ∷ b ∷ []) front (SegmentItem s ∷ behind) (sym (ap (take 2) e))
    (segment-at ladder (after parts (End r)) events front s behind (ap (drop 2) e))

pub segments : (ladder : Ladder) (parts : List Part) (front : List ItemValue) (s : SegmentValue) (behind : List ItemValue)
    → Weaves ladder parts (front ++ SegmentItem s ∷ behind) → BeginsRow ladder front (SegmentItem s ∷ behind)
segments ladder parts front s behind w =
    let none = none_of ladder in
    let at = segment-at ladder none w.events front s behind (sym w.items_are) in
    let four = block ladder (after_all none at.earlier) (Row at.r at.plan) in
    record {
      four = four;
      rest = at.rest;
      split = at.begins;
      row = subst (λ l. IsRowBehind ladder l four) (sym at.front_is) (behind-row ladder at.earlier at.r at.plan at.later (subst (AreLegal none) at.all w.legal));
    }

pub masters : (ladder : Ladder) (parts : List Part) (front : List ItemValue) (text : List ℕ) (behind : List ItemValue)
    → Weaves ladder parts (front ++ MasterItem text ∷ behind) → EndsRow ladder (front ++ MasterItem text ∷ [])
masters ladder parts front text behind w =
    let none = none_of ladder in
    let at = master-at ladder none w.events front text behind (sym w.items_are) in
    record {
      earlier = blocks ladder none at.earlier;
      four = block ladder (after_all none at.earlier) (Row at.r at.plan);
      split = at.ends;
      row = behind-row ladder at.earlier at.r at.plan at.later (subst (AreLegal none) at.all w.legal);
    }
