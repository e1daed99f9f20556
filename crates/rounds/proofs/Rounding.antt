-- A round on its way: the next segment of a rendition is given.
use Rattle.std.proofs.Common.{◌≡◌, ◌∙◌, inl, inr, ℕ, ◌+◌, ◌<◌, ◌≤◌, ◌^◌, Bool, true, false, List, [], ◌∷◌, ◌++◌, length, map, drop, Some, refl, ap, sym, subst, arith, length-append}
use Rattle.std.specs.Prelude.{nat_lt}
use Rattle.std.specs.List.{slice_get, slice_index_or}
use Rattle.std.proofs.lemmas.Bool.{cases_eq}
use Rattle.std.proofs.lemmas.Bool.Decides.{nat_tests}
use Rattle.std.proofs.lemmas.List.{length-set, get_or-map}
use Rattle.std.proofs.Math.ListN.{get_or-eq_default}
use Rattle.cutter.specs.Plans.{SegmentPlan}
use Rattle.segment_job.specs.Segments.{SealedSegment, sealed_segment}
use Rattle.flow_core.specs.declared.slot.Slot.{Slot}
use Rattle.flow_core.specs.Slots.{lacking, leading}
use Rattle.flow_core.specs.Sequences.{SequenceValue, passed}
use Rattle.flow_core.specs.Gatherings.{Gathering, no_sequence, sequence_at, with_sequence, awaited, missing_in}
use Rattle.flow_core.proofs.Gathering.{awaited-set}
use Rattle.flow_core.proofs.Flowing.{sequence-same, sequence-other, inside}
use Rattle.live_board.specs.Snapshots.{Known}
use Rattle.item_io.specs.Views.{OutletView, SourceView}
use Rattle.ladder_items.specs.declared.fault.PackFault.{PackFault}
use Rattle.ladder_items.specs.Ladder.{Ladder, rendition_at}
use Rattle.ladder_items.specs.Items.{Part, no_part, part_at, count, shown_all}
use Rattle.ladder_items.specs.Shown.{Shown}
use Rattle.ladder_items.specs.Weave.{Row, after}
use Rattle.ladder_items.specs.Giving.{IsNext}
use Rattle.ladder_items.specs.Putting.{SaysFailures}
use Rattle.ladder_items.proofs.Blocks.{grown-at, after-each}
use Rattle.ladder_items.proofs.Elsewhere.{after-other}
use Rattle.ladder_items.proofs.Worlds.{InOrder, parts-of, parts-length}
use Rattle.rounds.specs.declared.run.course.Course.{Course}
use Rattle.rounds.specs.Showing.{counts_of}
use Rattle.rounds.specs.Courses.{Gave, GaveSome, ReadsNone, Start, IsStopped, SaysSudden}
use Rattle.rounds.specs.Rounds.{Keeps, InRound, NoneReady, expected, unfed_of, segments_in, gathered}
use Rattle.rounds.proofs.Collecting.{gathered-set, missing-sequence}
use Rattle.rounds.proofs.Steps.{counts-are}
use Rattle.rounds.proofs.Running.{stage-of, stopped-here, first-next, waits-going, on-failures, on-gave, on-ungiven, row-moved, row-begins}

-- how many segments a rendition shows
pub count-at : (ladder : Ladder) (parts : List Part) (shown : List Shown) (k : ℕ) → length parts ≡ length ladder.renditions → k < length parts → shown ≡ shown_all ladder parts
    → slice_index_or (counts_of shown) k 0 ≡ count (part_at parts k)
count-at ladder parts shown k each below is =
    ap (λ (l : List ℕ). slice_index_or l k 0) (counts-are ladder parts shown each is) ∙ get_or-map count parts k no_part 0 below

-- the first slot
front-of : (slots : List Slot) (plan : SegmentPlan) (segment : SealedSegment) → slice_get slots 0 ≡ Some (record { plan = plan; segment = Some segment })
    → (map (λ (slot : Slot). slot.plan) slots ≡ plan ∷ map (λ (slot : Slot). slot.plan) (drop 1 slots)) × (segments_in slots ≡ 1 + segments_in (drop 1 slots))
front-of [] plan segment at = cc
front-of (s ∷ slots) plan segment at =
    let is : s ≡ record { plan = plan; segment = Some segment } = cc in
    (ap (λ (x : Slot). x.plan ∷ map (λ (slot : Slot). slot.plan) slots) is, ap (λ (x : Slot). segments_in (x ∷ slots)) is)

one-less : (slots : List Slot) (plan : SegmentPlan) (segment : SealedSegment) → slice_get slots 0 ≡ Some (record { plan = plan; segment = Some segment }) → length (drop 1 slots) + 1 ≡ length slots
one-less [] plan segment at = cc
one-less (s ∷ slots) plan segment at = omega arith

-- a segment that is handed out counts on
pub passed-gathered : (g : Gathering) (r : ℕ) (plan : SegmentPlan) (segment : SealedSegment) → slice_get (sequence_at g r).slots 0 ≡ Some (record { plan = plan; segment = Some segment })
    → gathered (with_sequence g r (passed (sequence_at g r))).sequences ≡ gathered g.sequences
passed-gathered g r plan segment at =
    let moved = gathered-set g r (passed (sequence_at g r)) (inside g r 0 _ at) in
    let front = (front-of (sequence_at g r).slots plan segment at).1 in
    omega (arith, moved, front)

-- and no plan more or fewer is missing
front-lacking : (slots : List Slot) (plan : SegmentPlan) (segment : SealedSegment) → slice_get slots 0 ≡ Some (record { plan = plan; segment = Some segment }) → lacking slots ≡ lacking (drop 1 slots)
front-lacking [] plan segment at = cc
front-lacking (s ∷ slots) plan segment at =
    let is : s ≡ record { plan = plan; segment = Some segment } = cc in
    ap (λ (x : Slot). lacking (x ∷ slots)) is

pub passed-missing : (g : Gathering) (r : ℕ) (plan : SegmentPlan) (segment : SealedSegment) → slice_get (sequence_at g r).slots 0 ≡ Some (record { plan = plan; segment = Some segment })
    → length (missing_in (with_sequence g r (passed (sequence_at g r))).sequences) ≡ length (missing_in g.sequences)
passed-missing g r plan segment at =
    let moved = missing-sequence g.sequences r (passed (sequence_at g r)) no_sequence (inside g r 0 _ at) in
    let same = ap length (front-lacking (sequence_at g r).slots plan segment at) in
    omega (arith, moved, same)

-- it stood in front
pub front-ready : (slots : List Slot) (plan : SegmentPlan) (segment : SealedSegment) → slice_get slots 0 ≡ Some (record { plan = plan; segment = Some segment }) → leading slots ≡ 0 → ⊥
front-ready [] plan segment at none = cc
front-ready (s ∷ slots) plan segment at none =
    let is : s ≡ record { plan = plan; segment = Some segment } = cc in
    absurd (omega (arith, none, ap (λ (x : Slot). leading (x ∷ slots)) is))

-- and leaves one plan fewer
pub passed-fewer : (g : Gathering) (r : ℕ) (plan : SegmentPlan) (segment : SealedSegment) → slice_get (sequence_at g r).slots 0 ≡ Some (record { plan = plan; segment = Some segment })
    → awaited (with_sequence g r (passed (sequence_at g r))).sequences + 1 ≡ awaited g.sequences
passed-fewer g r plan segment at =
    let moved = awaited-set g.sequences r (passed (sequence_at g r)) (inside g r 0 _ at) in
    let front : length (drop 1 (sequence_at g r).slots) + 1 ≡ length (sequence_at g r).slots = one-less (sequence_at g r).slots plan segment at in
    omega (arith, moved, front)

-- where the renditions of a collector have nothing in front, none does
dry-by : (b : Bool) (g : Gathering) (n k : ℕ) → nat_lt k n ≡ b → length g.sequences ≤ n → ((k : ℕ) → k < n → leading (sequence_at g k).slots ≡ 0) → leading (sequence_at g k).slots ≡ 0
dry-by true g n k is few dry = dry k (grind (arith, nat_tests, is))
dry-by false g n k is few dry =
    let past : length g.sequences ≤ k = grind (arith, nat_tests, is, few) in
    ap (λ (l : SequenceValue). leading l.slots) (get_or-eq_default g.sequences no_sequence past)

pub none-ready : (g : Gathering) (n : ℕ) → length g.sequences ≤ n → ((k : ℕ) → k < n → leading (sequence_at g k).slots ≡ 0) → NoneReady g
none-ready g n few dry k = dry-by (nat_lt k n) g n k refl few dry

module _ (X Y : Type 0) (input : SourceView X) (out : OutletView Y) (ladder : Ladder) where
  -- segments came
  pub in-keeps : (start : Start X Y) (unfed : List (List SegmentPlan)) (course : Course X Y) (shows : Known) (g h : Gathering) → Keeps g h
      → InRound input out ladder start unfed course shows g → InRound input out ladder start unfed course shows h
  in-keeps start unfed course shows g h keeps i = record {
    waiting = i.waiting;
    on = i.on;
    waits = λ k. i.waits k ∙ ap (λ (l : List SegmentPlan). l ++ unfed_of unfed k) (sym (keeps.each k).2);
    each = keeps.count ∙ i.each;
    all = i.all;
    nexts = λ k below. (keeps.each k).1 ∙ i.nexts k (omega (arith, below, keeps.count));
    keys = λ k below. (keeps.each k).0 ∙ i.keys k (omega (arith, below, keeps.count));
  }

  -- the round was stopped between two steps
  pub in-stopped : (start : Start X Y) (unfed : List (List SegmentPlan)) (course : Course X Y) (shows : Known) (g : Gathering) (fault : PackFault)
      → SaysSudden fault (out.failures course.outlet) (out.failures course.outlet) → InRound input out ladder start unfed course shows g → IsStopped input out ladder start course shows fault
  in-stopped start unfed course shows g fault says i = stopped-here X Y input out ladder start course shows i.waiting fault says i.on

  pub in-failures : (start : Start X Y) (unfed : List (List SegmentPlan)) (course : Course X Y) (shows : Known) (g : Gathering) → InRound input out ladder start unfed course shows g
      → out.failures course.outlet < 2 ^ 63
  in-failures start unfed course shows g i = (on-failures X Y input out ladder start course shows i.waiting i.on).1

  -- the segment that came for the first plan of a rendition
  module _ (start : Start X Y) (unfed : List (List SegmentPlan)) (course : Course X Y) (shows : Known) (g : Gathering) (i : InRound input out ladder start unfed course shows g) (order : InOrder ladder)
      (r : ℕ) (segment : SealedSegment) (at : slice_get (sequence_at g r).slots 0 ≡ Some (record { plan = segment.plan; segment = Some segment })) where
    pub in-within : r < length ladder.renditions
    in-within = omega (arith, inside g r 0 _ at, i.each)

    pub in-front : i.waiting r ≡ segment.plan ∷ (expected (passed (sequence_at g r)) ++ unfed_of unfed r)
    in-front = i.waits r ∙ ap (λ (l : List SegmentPlan). l ++ unfed_of unfed r) (front-of (sequence_at g r).slots segment.plan segment at).0

    pub in-next : IsNext ladder r (parts-of ladder i.on.world.events) course.playlists.items segment.plan
    in-next = first-next X Y input out ladder start course shows i.waiting i.on order r in-within segment.plan _ in-front

    pub in-sealed : segment ≡ sealed_segment (sequence_at g r).keys segment.plan → segment ≡ sealed_segment (rendition_at ladder r).keys segment.plan
    in-sealed sealed = sealed ∙ ap (λ keys. sealed_segment keys segment.plan) (i.keys r (inside g r 0 _ at))

    pub in-gave : (now : Course X Y) (shows_now : Known) (h : Gathering) → Gave out ladder (parts-of ladder i.on.world.events) (Row r segment.plan) course now shows.list shows_now.list
        → ReadsNone course now → shows_now.board ≡ shows.board → h ≡ with_sequence g r (passed (sequence_at g r)) → InRound input out ladder start unfed now shows_now h
    in-gave now shows_now h gave none board is =
        let then = passed (sequence_at g r) in
        let c = with_sequence g r then in
        let inner = inside g r 0 _ at in
        let parts = parts-of ladder i.on.world.events in
        let each = parts-length ladder i.on.world.events in
        let within : r < length parts = omega (arith, each, in-within) in
        let s = stage-of X Y input out ladder start course shows i.waiting i.on r in-within in
        let still : ℕ → List SegmentPlan = λ k. expected (sequence_at c k) ++ unfed_of unfed k in
        let here = sequence-same g r r then inner refl in
        let o = on-gave X Y input out ladder start r course now shows shows_now i.waiting still (Row r segment.plan) s.2 i.on s.3 refl (waits-going X Y input out ladder start course shows i.waiting i.on r in-within segment.plan _ in-front)
        gave none board
        (rw here (row-moved X Y input out ladder start course shows i.waiting i.on r in-within segment.plan _ in-front))
        (λ k other. ap (λ (l : SequenceValue). expected l ++ unfed_of unfed k) (sequence-other g r k then other) ∙ sym (i.waits k)) in
        let next : (k : ℕ) → k < length g.sequences → (sequence_at c k).next ≡ slice_index_or (counts_of now.playlists.items) k 0 =
        λ k below.
        let inside_k : k < length parts = omega (arith, each, below, i.each) in
        let old = count-at ladder parts course.playlists.items k each inside_k i.on.world.shown_are in
        let new = count-at ladder (after parts (Row r segment.plan)) now.playlists.items k (after-each parts r segment.plan ∙ each) (omega (arith, inside_k, after-each parts r segment.plan)) gave.shown in
        elim (cases_eq k r) as (λ _. (sequence_at c k).next ≡ slice_index_or (counts_of now.playlists.items) k 0) [
          | inl q ↦
              let grew : count (part_at (after parts (Row r segment.plan)) k) ≡ count (part_at parts k) + 1 =
              ap (λ (j : ℕ). count (part_at (after parts (Row r segment.plan)) j)) q
              ∙ (ap count (grown-at parts r segment.plan within) ∙ (length-append (part_at parts r).plans (segment.plan ∷ []) ∙ ap (λ (j : ℕ). count (part_at parts j) + 1) (sym q))) in
              let was : (sequence_at c k).next ≡ (sequence_at g k).next + 1 = ap (λ (l : SequenceValue). l.next) (sequence-same g r k then inner q) ∙ ap (λ (j : ℕ). (sequence_at g j).next + 1) (sym q) in
              omega (arith, was, i.nexts k below, old, grew, new)
          | inr q ↦
              let same = ap count (after-other r k parts (Row r segment.plan) refl q) in
              let was = ap (λ (l : SequenceValue). l.next) (sequence-other g r k then q) in
              omega (arith, was, i.nexts k below, old, same, new)
        ] in
        let key : (k : ℕ) → k < length g.sequences → (sequence_at c k).keys ≡ (rendition_at ladder k).keys =
        λ k below.
        elim (cases_eq k r) as (λ _. (sequence_at c k).keys ≡ (rendition_at ladder k).keys) [
          | inl q ↦ ap (λ (l : SequenceValue). l.keys) (sequence-same g r k then inner q) ∙ (ap (λ (j : ℕ). (sequence_at g j).keys) (sym q) ∙ i.keys k below)
          | inr q ↦ ap (λ (l : SequenceValue). l.keys) (sequence-other g r k then q) ∙ i.keys k below
        ] in
        let size = length-set g.sequences r then in
        subst (λ (d : Gathering). InRound input out ladder start unfed now shows_now d) (sym is) (record {
          waiting = still;
          on = o.0;
          waits = λ k. refl;
          each = size ∙ i.each;
          all = i.all;
          nexts = λ k below. next k (omega (arith, below, size));
          keys = λ k below. key k (omega (arith, below, size));
        })

    pub in-ungiven : (now : Course X Y) (shows_now : Known) (fault : PackFault) → GaveSome out ladder (parts-of ladder i.on.world.events) (Row r segment.plan) course now shows.list shows_now.list
        → ReadsNone course now → shows_now.board ≡ shows.board → SaysFailures fault (out.failures course.outlet) (out.failures now.outlet)
        → IsStopped input out ladder start now shows_now fault
    in-ungiven now shows_now fault gave none board says =
        let s = stage-of X Y input out ladder start course shows i.waiting i.on r in-within in
        on-ungiven X Y input out ladder start r course now shows shows_now i.waiting (Row r segment.plan) s.2 fault i.on s.3 refl (waits-going X Y input out ladder start course shows i.waiting i.on r in-within segment.plan _ in-front)
        gave none board (row-begins X Y input out ladder start course shows i.waiting i.on r in-within segment.plan _ in-front) says
