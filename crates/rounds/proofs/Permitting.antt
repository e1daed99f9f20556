-- What a round holds and shows may be sealed.
use Rattle.std.proofs.Common.{◌≡◌, ◌∙◌, ◌⊎◌, inl, inr, ℕ, ◌+◌, ◌<◌, List, [], ◌∷◌, ◌++◌, Option, Some, None, IfSome, OnErr, OnOk, Result, Ok, Err, Bool, map, length, ap, sym, subst, arith, length-append}
use Rattle.std.specs.List.{slice_get, slice_index_or}
use Rattle.std.proofs.Math.ListN.{set, get_or}
use Rattle.std.proofs.lemmas.Bool.{cases_eq, cases_lt}
use Rattle.std.proofs.lemmas.List.{get_or-map, length-map, get_or-set_same, get_or-set_other, map-set}
use Rattle.cutter.specs.Plans.{SegmentPlan}
use Rattle.segment_job.specs.Rotation.{KeyRotation}
use Rattle.segment_job.specs.Segments.{SealedSegment}
use Rattle.flow_core.specs.declared.slot.Slot.{Slot}
use Rattle.flow_core.specs.Gatherings.{Gathering, sequence_at, sequences_from, with_sequence}
use Rattle.flow_core.specs.Sequences.{passed, with_plan, with_segment}
use Rattle.live_board.specs.Counts.{counts_shown}
use Rattle.live_board.specs.Snapshots.{Known, SnapshotFacts}
use Rattle.item_io.specs.Views.{OutletView, SourceView}
use Rattle.ladder_items.specs.declared.fault.PackFault.{PackFault}
use Rattle.ladder_items.specs.Ladder.{Ladder, RenditionValue}
use Rattle.ladder_items.specs.Giving.{IsNext}
use Rattle.ladder_items.specs.Items.{Part, no_part, part_at, count, shown_all}
use Rattle.ladder_items.specs.Shown.{Shown}
use Rattle.ladder_items.specs.Weave.{Row, after, grown}
use Rattle.ladder_items.proofs.Blocks.{after-each}
use Rattle.rounds.specs.Permitted.{HoldsPermitted, MayBeSealed, ShowsLetThrough, ShowsPermitted, or_shown, shown_at}
use Rattle.rounds.specs.declared.giving.broadcast.Broadcast.{Broadcast}
use Rattle.rounds.specs.declared.run.course.Course.{Course}
use Rattle.rounds.specs.Courses.{GivesNext, GivesNextInPart, IsNextOf, Start}
use Rattle.rounds.specs.Rounds.{InRound}
use Rattle.rounds.specs.Showing.{counts_of, facts_of, snapshot_of}
use Rattle.rounds.proofs.Holding.{held-at, held-none, held-passed, held-plan, held-segment, held-slot}
use Rattle.rounds.proofs.Running.{counts-last}
use Rattle.rounds.proofs.Steps.{counts-are}

-- a number below a count of those of which the one at r rose by one lay below it before, or is what the one at r was
below-risen : (ns : List ℕ) (r q n : ℕ) → r < length ns → n < slice_index_or (set ns r (get_or ns r 0 + 1)) q 0
    → (n < slice_index_or ns q 0) ⊎ ((q ≡ r) × (n ≡ get_or ns r 0))
below-risen ns r q n within below =
    elim (cases_eq q r) [
      | inl same ↦
          let now = subst (λ (k : ℕ). n < slice_index_or (set ns r (get_or ns r 0 + 1)) k 0) same below in
          let is = get_or-set_same ns r (get_or ns r 0 + 1) 0 within in
          elim (cases_eq n (get_or ns r 0)) [
            | inl last ↦ inr (same, last)
            | inr other ↦ inl (subst (λ (k : ℕ). n < slice_index_or ns k 0) (sym same) (omega (arith, now, is, other)))
          ]
      | inr other ↦ inl (omega (arith, below, get_or-set_other ns r q (get_or ns r 0 + 1) 0 other))
    ]

module _ (permits : ℕ → ℕ → Type 0) where
  abbrev may : Slot → Type 0
  may slot = MayBeSealed permits slot.segment

  -- a collector holds one more that may be sealed
  pub holds-segment : (g : Gathering) (r : ℕ) (segment : SealedSegment) → permits segment.plan.rendition segment.plan.number
      → HoldsPermitted permits g.sequences → HoldsPermitted permits (with_sequence g r (with_segment (sequence_at g r) segment)).sequences
  holds-segment g r segment one all = held-segment may g r segment one all

  -- it expects one more
  pub holds-plan : (g : Gathering) (r : ℕ) (plan : SegmentPlan)
      → HoldsPermitted permits g.sequences → HoldsPermitted permits (with_sequence g r (with_plan (sequence_at g r) plan)).sequences
  holds-plan g r plan all = held-plan may g r plan tt all

  -- it handed one out
  pub holds-passed : (g : Gathering) (r : ℕ) → HoldsPermitted permits g.sequences → HoldsPermitted permits (with_sequence g r (passed (sequence_at g r))).sequences
  holds-passed g r all = held-passed may g r all

  -- what stands in front may be sealed
  pub next-may : (g : Gathering) (r : ℕ) (segment : SealedSegment) → slice_get (sequence_at g r).slots 0 ≡ Some (record { plan = segment.plan; segment = Some segment })
      → HoldsPermitted permits g.sequences → permits segment.plan.rendition segment.plan.number
  next-may g r segment at all = held-slot may (sequence_at g r).slots 0 (record { plan = segment.plan; segment = Some segment }) at (held-at may g.sequences r all)

  pub next-some : (g : Gathering) (r : ℕ) (taken : Option SealedSegment)
      → IfSome taken (λ segment. slice_get (sequence_at g r).slots 0 ≡ Some (record { plan = segment.plan; segment = Some segment }))
      → HoldsPermitted permits g.sequences → IfSome taken (λ segment. permits segment.plan.rendition segment.plan.number)
  next-some g r None first all = tt
  next-some g r (Some segment) first all = next-may g r segment first all

  -- a new collector holds nothing
  pub holds-none : (r : ℕ) (keys : List KeyRotation) (starts : List ℕ) → HoldsPermitted permits (sequences_from r keys starts)
  holds-none r keys starts = held-none may r keys starts

  -- a segment more is shown, which may be
  pub shows-row : (ladder : Ladder) (parts : List Part) (r : ℕ) (plan : SegmentPlan) (shown now : List Shown) (list list_now : List SnapshotFacts)
      → counts_shown list ≡ counts_of shown → IsNext ladder r parts shown plan → now ≡ shown_all ladder (after parts (Row r plan)) → counts_shown list_now ≡ counts_of now
      → permits plan.rendition plan.number → ShowsPermitted permits list → ShowsPermitted permits list_now
  shows-row ladder parts r plan shown now list list_now was next is then one all q n below =
      let ns = map count parts in
      let before = was ∙ counts-are ladder parts shown next.goes_on.each next.goes_on.shown_are in
      let risen = length-append (part_at parts r).plans (plan ∷ []) ∙ ap (λ (m : ℕ). m + 1) (sym (get_or-map count parts r no_part 0 next.goes_on.within)) in
      let behind = then ∙ (counts-are ladder (after parts (Row r plan)) now (after-each parts r plan ∙ next.goes_on.each) is
      ∙ (map-set count parts r (grown (part_at parts r) plan) ∙ ap (set ns r) risen)) in
      let within : r < length ns = omega (arith, length-map parts count, next.goes_on.within) in
      elim (below-risen ns r q n within (subst (λ (l : List ℕ). n < slice_index_or l q 0) behind below)) [
        | inl old ↦ all q n (subst (λ (l : List ℕ). n < slice_index_or l q 0) (sym before) old)
        | inr last ↦
            let number : plan.number ≡ n = next.plan_is.number ∙ (sym (get_or-map count parts r no_part 0 next.goes_on.within) ∙ sym last.1) in
            subst (permits q) number (subst (λ (k : ℕ). permits k plan.number) (next.plan_is.rendition ∙ sym last.0) one)
      ]

-- an end that is shown adds no segment
pub shows-end : (renditions : List RenditionValue) (list now : List SnapshotFacts) (shown : List Shown) (ended : List Bool) → now ≡ list ++ facts_of renditions shown ended ∷ []
    → counts_shown list ≡ counts_of shown → counts_shown now ≡ counts_shown list
unfolding facts_of
shows-end renditions list now shown ended is was = ap counts_shown is ∙ (counts-last list (facts_of renditions shown ended) ∙ sym was)

-- what is shown behind it was let through, or was shown before
pub let-through : (lets : ℕ → ℕ → Type 0) (before now : List SnapshotFacts) → ShowsPermitted (or_shown lets before) now → ShowsLetThrough lets before now
let-through lets before now all q n from below =
    elim (all q n below) [
      | inl passed ↦ passed
      | inr old ↦ absurd (omega (arith, from, old))
    ]

-- from one list of snapshots to the next
pub through-then : (lets : ℕ → ℕ → Type 0) (a b c : List SnapshotFacts) → ShowsLetThrough lets a b → ShowsLetThrough lets b c → ShowsLetThrough lets a c
through-then lets a b c first next q n from below =
    elim (cases_lt n (shown_at b q)) [
      | inl old ↦ first q n from old
      | inr new ↦ next q n new below
    ]

-- where as many are shown as before
pub through-same : (lets : ℕ → ℕ → Type 0) (a b c : List SnapshotFacts) → counts_shown c ≡ counts_shown b → ShowsLetThrough lets a b → ShowsLetThrough lets a c
through-same lets a b c same all q n from below = all q n from (subst (λ (l : List ℕ). n < slice_index_or l q 0) same below)

pub through-none : (lets : ℕ → ℕ → Type 0) (a : List SnapshotFacts) → ShowsLetThrough lets a a
through-none lets a q n from below = absurd (omega (arith, from, below))

-- where what was shown stood so at first, and stands so at last
pub through-as : (lets : ℕ → ℕ → Type 0) (a b c d : Known) → b ≡ a → d ≡ c → ShowsLetThrough lets b.list c.list → ShowsLetThrough lets a.list d.list
through-as lets a b c d first last all =
    subst (λ (k : Known). ShowsLetThrough lets k.list d.list) first (subst (λ (k : Known). ShowsLetThrough lets b.list k.list) (sym last) all)

-- where nothing more is shown
pub through-unshown : (lets : ℕ → ℕ → Type 0) (a b : List SnapshotFacts) → b ≡ a → ShowsLetThrough lets a b
through-unshown lets a b same = subst (ShowsLetThrough lets a) (sym same) (through-none lets a)

-- a segment that may be was given, or in part
pub shows-given : {X Y R A : Type 0} (permits : ℕ → ℕ → Type 0) (out : OutletView Y) (ladder : Ladder) (r : ℕ) (plan : SegmentPlan) (old new : Broadcast X Y R) (answer : Result A PackFault)
    → IsNextOf ladder r plan old.course → counts_shown old.held.publisher.list ≡ counts_of old.course.playlists.items → permits plan.rendition plan.number
    → OnOk answer (GivesNext out ladder r plan old new) → OnErr answer (GivesNextInPart out ladder r plan old new)
    → ShowsPermitted permits old.held.publisher.list → ShowsPermitted permits new.held.publisher.list
unfolding facts_of
shows-given permits out ladder r plan old new (Ok _) next was one whole some all =
    let gave = whole next.0 next.1 next.2 in
    shows-row permits ladder next.0 r plan old.course.playlists.items new.course.playlists.items old.held.publisher.list new.held.publisher.list was next.1 gave.shown
    (ap counts_shown gave.shows ∙ (counts-last old.held.publisher.list (snapshot_of ladder (after next.0 (Row r plan))) ∙ ap counts_of (sym gave.shown))) one all
shows-given permits out ladder r plan old new (Err _) next was one whole some all = subst (ShowsPermitted permits) (sym (some next.0 next.1).unshown) all

-- a run stands in a round however its publisher is told
pub in-shown : {X Y : Type 0} (input : SourceView X) (out : OutletView Y) (ladder : Ladder) (start : Start X Y) (unfed : List (List SegmentPlan)) (course : Course X Y) (g : Gathering)
    (shows now : Known) → now ≡ shows → InRound input out ladder start unfed course shows g → InRound input out ladder start unfed course now g
in-shown input out ladder start unfed course g shows now same stands = subst (λ (k : Known). InRound input out ladder start unfed course k g) (sym same) stands
