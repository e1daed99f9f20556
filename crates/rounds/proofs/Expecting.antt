-- A round on its way: a plan is expected.
use Rattle.std.proofs.Common.{◌≡◌, ◌∙◌, inl, inr, ℕ, suc, ◌+◌, ◌<◌, ◌≤◌, Bool, true, false, List, [], ◌∷◌, ◌++◌, length, drop, Some, None, refl, ap, sym, subst, arith, append_assoc}
use Rattle.std.specs.Prelude.{nat_lt}
use Rattle.std.specs.List.{slice_get, slice_set}
use Rattle.std.proofs.lemmas.Bool.{cases_eq}
use Rattle.std.proofs.lemmas.Bool.Decides.{nat_tests}
use Rattle.std.proofs.lemmas.List.{length-set, length-map, map-append, get_or-set_same, get_or-set_other, get_or_past}
use Rattle.std.proofs.Math.Seq.{drop-cons}
use Rattle.std.proofs.lemmas.Option.{get_or_from_slice_get, slice_get_within}
use Rattle.cutter.specs.Plans.{SegmentPlan}
use Rattle.cutter.specs.Ordered.{IsPlan}
use Rattle.flow_core.specs.declared.slot.Slot.{Slot}
use Rattle.flow_core.specs.Sequences.{SequenceValue, following, with_plan}
use Rattle.flow_core.specs.Gatherings.{Gathering, sequence_at, with_sequence}
use Rattle.flow_core.proofs.Flowing.{sequence-same, sequence-other, field-kept}
use Rattle.live_board.specs.Snapshots.{Known}
use Rattle.item_io.specs.Views.{OutletView, SourceView}
use Rattle.ladder_items.specs.Ladder.{Ladder}
use Rattle.ladder_items.specs.Items.{part_at, count}
use Rattle.ladder_items.proofs.Worlds.{InOrder, parts-of, parts-length}
use Rattle.rounds.specs.declared.run.course.Course.{Course}
use Rattle.rounds.specs.Courses.{Start}
use Rattle.rounds.specs.Rounds.{InRound, expected, unfed_of, segments_in, gathered}
use Rattle.rounds.proofs.Collecting.{gathered-set}
use Rattle.rounds.proofs.Running.{waits-next}
use Rattle.rounds.proofs.Rounding.{count-at}

-- no segment came for a plan that is expected now
pub segments-more : (slots : List Slot) (plan : SegmentPlan) → segments_in (slots ++ record { plan = plan; segment = None } ∷ []) ≡ segments_in slots
segments-more [] plan = refl
segments-more (s ∷ slots) plan = omega (arith, segments-more slots plan)

pub expects-gathered : (g h : Gathering) (r : ℕ) (plan : SegmentPlan) → r < length g.sequences → h ≡ with_sequence g r (with_plan (sequence_at g r) plan) → gathered h.sequences ≡ gathered g.sequences
expects-gathered g h r plan below is =
    let moved = gathered-set g r (with_plan (sequence_at g r) plan) below in
    let same = segments-more (sequence_at g r).slots plan in
    ap (λ (x : Gathering). gathered x.sequences) is ∙ omega (arith, moved, same)

-- what lies from a plan of a spool on
pub drop-at : (spool : List SegmentPlan) (i : ℕ) (plan : SegmentPlan) → slice_get spool i ≡ Some plan → drop i spool ≡ plan ∷ drop (i + 1) spool
drop-at spool i plan at =
    let more : suc i ≡ i + 1 = omega arith in
    drop-cons spool i plan (slice_get_within spool i plan at)
    ∙ (ap (λ (p : SegmentPlan). p ∷ drop (suc i) spool) (get_or_from_slice_get spool i plan plan at) ∙ ap (λ (n : ℕ). plan ∷ drop n spool) more)

-- the next plan of a spool that is being fed
pub next-unfed : (unfed : List (List SegmentPlan)) (r i : ℕ) (spool : List SegmentPlan) (plan : SegmentPlan) → r < length unfed → slice_get spool i ≡ Some plan
    → unfed_of (slice_set unfed r (drop i spool)) r ≡ plan ∷ drop (i + 1) spool
next-unfed unfed r i spool plan below at = get_or-set_same unfed r (drop i spool) [] below ∙ drop-at spool i plan at

-- the spools of the renditions before r were fed
pub fed-before : (left : List (List SegmentPlan)) (r : ℕ) → r < length left → ((k : ℕ) → k < r → unfed_of left k ≡ []) → (k : ℕ) → k < r + 1 → unfed_of (slice_set left r []) k ≡ []
fed-before left r within before k below =
    elim (cases_eq k r) as (λ _. unfed_of (slice_set left r []) k ≡ []) [
      | inl q ↦ ap (unfed_of (slice_set left r [])) q ∙ get_or-set_same left r [] [] within
      | inr q ↦ get_or-set_other left r k [] [] q ∙ before k (omega (arith, below, q))
    ]

pub unfed-behind : (left spools : List (List SegmentPlan)) (r : ℕ) → ((k : ℕ) → r ≤ k → unfed_of left k ≡ unfed_of spools k) → (k : ℕ) → r + 1 ≤ k → unfed_of (slice_set left r []) k ≡ unfed_of spools k
unfed-behind left spools r behind k above =
    let other : k ≡ r → ⊥ = λ q. absurd (omega (arith, above, q)) in
    get_or-set_other left r k [] [] other ∙ behind k (omega (arith, above))

-- all were
fed-by : (b : Bool) (left : List (List SegmentPlan)) (n k : ℕ) → nat_lt k n ≡ b → length left ≤ n → ((k : ℕ) → k < n → unfed_of left k ≡ []) → unfed_of left k ≡ []
fed-by true left n k is all fed = fed k (grind (arith, nat_tests, is))
fed-by false left n k is all fed = get_or_past left k [] (grind (arith, nat_tests, is, all))

pub all-fed : (left : List (List SegmentPlan)) (n : ℕ) → length left ≤ n → ((k : ℕ) → k < n → unfed_of left k ≡ []) → (k : ℕ) → unfed_of left k ≡ []
all-fed left n all fed k = fed-by (nat_lt k n) left n k refl all fed

module _ (X Y : Type 0) (input : SourceView X) (out : OutletView Y) (ladder : Ladder) (start : Start X Y) (unfed : List (List SegmentPlan)) (course : Course X Y) (shows : Known) (g : Gathering)
    (i : InRound input out ladder start unfed course shows g) (r : ℕ) (below : r < length ladder.renditions) (plan : SegmentPlan) (left : List SegmentPlan) (is : unfed_of unfed r ≡ plan ∷ left) where
  -- the next plan of a rendition follows those that are expected
  pub plan-follows : InOrder ladder → IsPlan r ladder.cut (following (sequence_at g r)) plan
  plan-follows order =
      let parts = parts-of ladder i.on.world.events in
      let each = parts-length ladder i.on.world.events in
      let front = expected (sequence_at g r) in
      let size : length front ≡ length (sequence_at g r).slots = length-map (sequence_at g r).slots (λ (slot : Slot). slot.plan) in
      let next = i.nexts r (omega (arith, below, i.each)) in
      let shown = count-at ladder parts course.playlists.items r each (omega (arith, each, below)) i.on.world.shown_are in
      let number : count (part_at parts r) + length front ≡ following (sequence_at g r) = omega (arith, size, next, shown) in
      subst (λ (n : ℕ). IsPlan r ladder.cut n plan) number
      (waits-next X Y input out ladder start course shows i.waiting i.on order r below front plan left (i.waits r ∙ ap (λ (l : List SegmentPlan). front ++ l) is))

  -- it is expected now
  pub in-expect : (h : Gathering) → h ≡ with_sequence g r (with_plan (sequence_at g r) plan) → InRound input out ladder start (slice_set unfed r left) course shows h
  in-expect h same =
      let sequence = sequence_at g r in
      let then = with_plan sequence plan in
      let c = with_sequence g r then in
      let inner : r < length g.sequences = omega (arith, below, i.each) in
      let inner_unfed : r < length unfed = omega (arith, below, i.all) in
      let size = length-set g.sequences r then in
      let wait : (k : ℕ) → i.waiting k ≡ expected (sequence_at c k) ++ unfed_of (slice_set unfed r left) k =
      λ k.
      elim (cases_eq k r) as (λ _. i.waiting k ≡ expected (sequence_at c k) ++ unfed_of (slice_set unfed r left) k) [
        | inl q ↦
            let here : expected (sequence_at c k) ≡ expected sequence ++ plan ∷ [] =
            ap expected (sequence-same g r k then inner q) ∙ map-append (λ (s : Slot). s.plan) sequence.slots (record { plan = plan; segment = None } ∷ []) in
            let fed : unfed_of (slice_set unfed r left) k ≡ left = ap (unfed_of (slice_set unfed r left)) q ∙ get_or-set_same unfed r left [] inner_unfed in
            ap i.waiting q
            ∙ (i.waits r
            ∙ (ap (λ (l : List SegmentPlan). expected sequence ++ l) is
            ∙ (sym (append_assoc (expected sequence) (plan ∷ []) left)
            ∙ (ap (λ (l : List SegmentPlan). l ++ left) (sym here) ∙ ap (λ (l : List SegmentPlan). expected (sequence_at c k) ++ l) (sym fed)))))
        | inr q ↦
            i.waits k
            ∙ (ap (λ (l : SequenceValue). expected l ++ unfed_of unfed k) (sym (sequence-other g r k then q))
            ∙ ap (λ (l : List SegmentPlan). expected (sequence_at c k) ++ l) (sym (get_or-set_other unfed r k left [] q)))
      ] in
      subst (λ (d : Gathering). InRound input out ladder start (slice_set unfed r left) course shows d) (sym same) (record {
        waiting = i.waiting;
        on = i.on;
        waits = wait;
        each = size ∙ i.each;
        all = length-set unfed r left ∙ i.all;
        nexts = λ k small. field-kept (λ (l : SequenceValue). l.next) g r then inner refl k _ refl ∙ i.nexts k (omega (arith, small, size));
        keys = λ k small. field-kept (λ (l : SequenceValue). l.keys) g r then inner refl k _ refl ∙ i.keys k (omega (arith, small, size));
      })
