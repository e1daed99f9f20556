-- A media playlist among the items that a rendition gives alone, and what stands before it.
use Rattle.std.proofs.Common.{◌≡◌, ◌∙◌, ℕ, Bool, true, false, List, [], ◌∷◌, ◌++◌, map, filter, refl, ap, sym, append_assoc}
use Rattle.cutter.specs.Plans.{SegmentPlan}
use Rattle.item_io.specs.Items.{ItemValue, SegmentValue, PlaylistValue, SegmentItem, MediaItem, FramesItem}
use Rattle.ladder_items.specs.Ladder.{Ladder}
use Rattle.ladder_items.specs.Items.{Part, segment_item, media_item, frames_item, items_from, end_items}
use Rattle.std.proofs.lemmas.List.Elements.{filter-append}
use Rattle.ladder_laws.specs.Listings.{is_segment}
use Rattle.ladder_laws.specs.Seen.{is_of, of_rendition}
use Rattle.ladder_laws.proofs.Alone.{same_test}

-- the playlist is that of the plans given so far, whose segments stand before it
pub record IsOfGiven (ladder : Ladder) (r : ℕ) (before plans : List SegmentPlan) (front : List ItemValue) (media : PlaylistValue) : Type 0 where
  pub given : List SegmentPlan
  pub rest : List SegmentPlan
  pub ended : Bool
  pub plans_are : plans ≡ given ++ rest
  pub media_is : MediaItem media ≡ media_item ladder r (before ++ given) ended
  pub segments_are : filter is_segment front ≡ map (segment_item ladder r) given

no-end : (front : List ItemValue) (x : ItemValue) (behind : List ItemValue) → front ++ x ∷ behind ≡ [] → ⊥
no-end [] x behind e = cc
no-end (y ∷ front) x behind e = cc

-- three items behind one another are these
same-three : (x y z a b c : ItemValue) (xs ys : List ItemValue) → x ∷ y ∷ z ∷ xs ≡ a ∷ b ∷ c ∷ ys → (x ≡ a) × (y ≡ b) × (z ≡ c) × (xs ≡ ys)
same-three x y z a b c xs ys e = (cc, cc, cc, cc)

same-two : (x y a b : ItemValue) (xs ys : List ItemValue) → x ∷ y ∷ xs ≡ a ∷ b ∷ ys → (x ≡ a) × (y ≡ b) × (xs ≡ ys)
same-two x y a b xs ys e = (cc, cc, cc)

not-frames : (a b : PlaylistValue) → MediaItem a ≡ FramesItem b → ⊥
not-frames a b e = cc

not-segment : (a : PlaylistValue) (b : SegmentValue) (xs ys : List ItemValue) → MediaItem a ∷ xs ≡ SegmentItem b ∷ ys → ⊥
not-segment a b xs ys e = cc

same-first : (a b : ItemValue) (xs ys : List ItemValue) → a ∷ xs ≡ b ∷ ys → a ≡ b
same-first a b xs ys e = cc

pub split : (ladder : Ladder) (r : ℕ) (before plans : List SegmentPlan) (part : Part) (ended : Bool) (front : List ItemValue) (media : PlaylistValue) (behind : List ItemValue)
    → part.plans ≡ before ++ plans → front ++ MediaItem media ∷ behind ≡ items_from ladder r before plans ++ end_items ladder r part ended
    → IsOfGiven ladder r before plans front media
unfolding items_from
split ladder r before [] part false front media behind all e = absurd (no-end front (MediaItem media) behind e)
split ladder r before [] part true [] media behind all e = record {
  given = [];
  rest = [];
  ended = true;
  plans_are = refl;
  media_is = same-first (MediaItem media) (media_item ladder r part.plans true) behind (frames_item ladder r part.plans true ∷ []) e ∙ ap (λ l. media_item ladder r l true) all;
  segments_are = refl;
}
split ladder r before [] part true (x ∷ []) media behind all e =
    absurd (not-frames media _ (same-two x (MediaItem media) (media_item ladder r part.plans true) (frames_item ladder r part.plans true) behind [] e).1)
split ladder r before [] part true (x ∷ y ∷ front) media behind all e =
    absurd (no-end front (MediaItem media) behind (same-two x y (media_item ladder r part.plans true) (frames_item ladder r part.plans true) (front ++ MediaItem media ∷ behind) [] e).2)
split ladder r before (plan ∷ plans) part ended [] media behind all e = absurd (not-segment media _ behind _ e)
split ladder r before (plan ∷ plans) part ended (x ∷ []) media behind all e =
    let same = same-two x (MediaItem media) (segment_item ladder r plan) (media_item ladder r (before ++ plan ∷ []) false) behind _ e in
    record {
      given = plan ∷ [];
      rest = plans;
      ended = false;
      plans_are = refl;
      media_is = same.1;
      segments_are = ap (λ (i : ItemValue). filter is_segment (i ∷ [])) same.0;
    }
split ladder r before (plan ∷ plans) part ended (x ∷ y ∷ []) media behind all e =
    absurd (not-frames media _ (same-three x y (MediaItem media) (segment_item ladder r plan) (media_item ladder r (before ++ plan ∷ []) false) (frames_item ladder r (before ++ plan ∷ []) false) behind _ e).2)
split ladder r before (plan ∷ plans) part ended (x ∷ y ∷ z ∷ front) media behind all e =
    let same = same-three x y z (segment_item ladder r plan) (media_item ladder r (before ++ plan ∷ []) false) (frames_item ladder r (before ++ plan ∷ []) false) (front ++ MediaItem media ∷ behind) _ e in
    let then = split ladder r (before ++ plan ∷ []) plans part ended front media behind (all ∙ sym (append_assoc before (plan ∷ []) plans)) same.3 in
    record {
      given = plan ∷ then.given;
      rest = then.rest;
      ended = then.ended;
      plans_are = ap (λ l. plan ∷ l) then.plans_are;
      media_is = then.media_is ∙ ap (λ l. media_item ladder r l then.ended) (append_assoc before (plan ∷ []) then.given);
      segments_are = ap (λ (i : ItemValue). filter is_segment (i ∷ y ∷ z ∷ front)) same.0
          ∙ (ap (λ (i : ItemValue). filter is_segment (segment_item ladder r plan ∷ i ∷ z ∷ front)) same.1
          ∙ (ap (λ (i : ItemValue). filter is_segment (segment_item ladder r plan ∷ media_item ladder r (before ++ plan ∷ []) false ∷ i ∷ front)) same.2
          ∙ ap (λ l. segment_item ladder r plan ∷ l) then.segments_are));
    }

-- the items of the playlist's rendition, split at it
pub seen-split : (front : List ItemValue) (media : PlaylistValue) (behind : List ItemValue)
    → of_rendition media.rendition (front ++ MediaItem media ∷ behind) ≡ of_rendition media.rendition front ++ MediaItem media ∷ of_rendition media.rendition behind
seen-split front media behind =
    let r = media.rendition in
    let here : of_rendition r (MediaItem media ∷ behind) ≡ MediaItem media ∷ of_rendition r behind = rw (same_test r) refl in
    filter-append (is_of r) front (MediaItem media ∷ behind) ∙ ap (λ l. of_rendition r front ++ l) here

pub same-media : (a b : PlaylistValue) → MediaItem a ≡ MediaItem b → a ≡ b
same-media a b e = cc
