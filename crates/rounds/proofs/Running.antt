-- A run on its way: a segment or an end is given, or the run is stopped.
use Rattle.std.proofs.Common.{◌≡◌, ◌∙◌, ℕ, ◌+◌, ◌<◌, ◌^◌, Bool, true, false, List, [], ◌∷◌, ◌++◌, length, Some, refl, ap, sym, subst, arith, length-append, append_assoc}
use Rattle.std.specs.List.{slice_get}
use Rattle.std.proofs.lemmas.List.{append-nil}
use Rattle.std.proofs.lemmas.List.Elements.{All-cons}
use Rattle.std.proofs.lemmas.Option.{get_or_from_slice_get, slice_get_within}
use Rattle.cutter.specs.Plans.{SegmentPlan}
use Rattle.cutter.specs.Ordered.{IsPlan}
use Rattle.live_board.specs.Snapshots.{SnapshotFacts, Known}
use Rattle.live_board.specs.Counts.{counts_shown}
use Rattle.item_io.specs.Views.{OutletView, SourceView}
use Rattle.ingest.specs.Lanes.{made_of}
use Rattle.ingest.specs.declared.lane.Lane.{Lane}
use Rattle.ladder_items.specs.declared.fault.PackFault.{PackFault}
use Rattle.ladder_items.specs.Ladder.{Ladder}
use Rattle.ladder_items.specs.Items.{Part, part_at, count, shown_all}
use Rattle.ladder_items.specs.Weave.{Event, Row, rendition_of, AreLegal, after, after_all, block, blocks, none_of}
use Rattle.ladder_items.specs.Giving.{IsGoing, IsNext}
use Rattle.ladder_items.specs.Lanes.{BeginsMade}
use Rattle.ladder_items.specs.Putting.{PutAll, PutSome, SaysFailures, of_failures}
use Rattle.ladder_items.specs.Runs.{run_of}
use Rattle.ladder_items.specs.World.{World, Stage, AreOf, stream_at}
use Rattle.ladder_items.proofs.Blocks.{grown-at}
use Rattle.ladder_items.proofs.Elsewhere.{some-at}
use Rattle.ladder_items.proofs.Endings.{says-as}
use Rattle.ladder_items.proofs.Rows.{after_all-append}
use Rattle.ladder_items.proofs.Worlds.{InOrder, IsMoved, parts-of, parts-length, put-back, world-gave, world-stop, world-ungiven}
use Rattle.rounds.specs.declared.run.course.Course.{Course}
use Rattle.rounds.specs.Showing.{counts_of, facts_of, snapshot_of, shown_by, ends_of}
use Rattle.rounds.specs.Courses.{Gave, GaveSome, ReadsNone, Start, IsOn, IsStopped, of_sudden, turns_at, SaysSudden}

not-true : (b : Bool) → (b ≡ true → ⊥) → b ≡ false
not-true true e = absurd (e refl)
not-true false e = refl

apart : (b : Bool) → b ≡ false → b ≡ true → ⊥
apart true e f = cc
apart false e f = cc

clash : {A : Type 0} (x : A) (xs : List A) → x ∷ xs ≡ [] → ⊥
clash x xs e = cc

-- a place behind some elements
pub get-behind : {A : Type 0} (front behind : List A) (p : A) → slice_get (front ++ p ∷ behind) (length front) ≡ Some p
get-behind [] behind p = refl
get-behind (x ∷ front) behind p = get-behind front behind p

-- nothing was read, twice
pub reads-same : {X Y : Type 0} (course : Course X Y) → ReadsNone course course
reads-same course = record { sources = refl; lanes = refl; turns = refl; reads = refl }

pub reads-then : {X Y : Type 0} (a b c : Course X Y) → ReadsNone a b → ReadsNone b c → ReadsNone a c
reads-then a b c f g = record { sources = g.sources ∙ f.sources; lanes = g.lanes ∙ f.lanes; turns = g.turns ∙ f.turns; reads = g.reads ∙ f.reads }

-- the course that nothing was read of
pub as-read : {X Y : Type 0} (course now : Course X Y) → ReadsNone course now → record course { playlists = now.playlists; ended = now.ended; outlet = now.outlet } ≡ now
as-read course now none = λ i. record now { sources = sym none.sources i; lanes = sym none.lanes i; turns = sym none.turns i; reads = sym none.reads i }

-- one event more
pub shown_by-more : (ladder : Ladder) (parts : List Part) (events : List Event) (e : Event)
    → shown_by ladder parts (events ++ e ∷ []) ≡ shown_by ladder parts events ++ snapshot_of ladder (after (after_all parts events) e) ∷ []
unfolding shown_by after_all
shown_by-more ladder parts [] e = refl
shown_by-more ladder parts (x ∷ events) e = ap (λ (l : List SnapshotFacts). snapshot_of ladder (after parts x) ∷ l) (shown_by-more ladder (after parts x) events e)

one-after : (parts : List Part) (events : List Event) (e : Event) → after_all parts (events ++ e ∷ []) ≡ after (after_all parts events) e
unfolding after_all
one-after parts events e = after_all-append parts events (e ∷ [])

one-block : (ladder : Ladder) (parts : List Part) (e : Event) → blocks ladder parts (e ∷ []) ≡ block ladder parts e
unfolding blocks
one-block ladder parts e = append-nil (block ladder parts e)

alone : (parts : List Part) (e : Event) → after_all parts (e ∷ []) ≡ after parts e
unfolding after_all
alone parts e = refl

one-of : (r : ℕ) (parts : List Part) (e : Event) → rendition_of e ≡ r → r < length parts → (part_at parts r).ended ≡ false → AreOf r parts (e ∷ [])
unfolding AreLegal
one-of r parts e is within going = record {
  of_r = All-cons (λ (e : Event). rendition_of e ≡ r) e [] is (λ k d below. absurd (omega (arith, below)));
  legal = subst (λ (k : ℕ). (k < length parts) × ((part_at parts k).ended ≡ false) × AreLegal (after parts e) []) (sym is) (within, going, tt);
}

-- the counts of the last snapshot
pub counts-last : (list : List SnapshotFacts) (s : SnapshotFacts) → counts_shown (list ++ s ∷ []) ≡ s.counts
counts-last [] s = refl
counts-last (x ∷ []) s = refl
counts-last (x ∷ y ∷ list) s = counts-last (y ∷ list) s

-- a fault that stops a run at once
pub says-sudden : (fault : PackFault) (a b c : ℕ) → b ≡ a → SaysFailures fault b c → SaysSudden fault a c
says-sudden fault a b c same says =
    says-as (of_failures b c) (of_sudden a c) fault (λ no. no) (λ r stop no. no) (λ one. one ∙ ap (λ n. n + 1) same) (λ none. none ∙ same) (λ r n is no. absurd no) says

module _ (X Y : Type 0) (input : SourceView X) (out : OutletView Y) (ladder : Ladder) where
  -- the outlet's count of failures
  pub on-failures : (start : Start X Y) (course : Course X Y) (shows : Known) (waiting : ℕ → List SegmentPlan) → IsOn input out ladder start course shows waiting
      → (out.failures course.outlet ≡ out.failures start.outlet) × (out.failures course.outlet < 2 ^ 63)
  on-failures start course shows waiting on = (on.world.puts.unfailed, omega (arith, on.world.puts.unfailed, on.failures))

  -- the run was stopped between two steps
  pub stopped-here : (start : Start X Y) (course : Course X Y) (shows : Known) (waiting : ℕ → List SegmentPlan) (fault : PackFault)
      → SaysSudden fault (out.failures course.outlet) (out.failures course.outlet) → IsOn input out ladder start course shows waiting
      → IsStopped input out ladder start course shows fault
  stopped-here start course shows waiting fault says on =
      let w = on.world in
      let c = world-stop X Y input out course.reads ladder (turns_at course) start.sources course.sources.items course.lanes.items course.playlists.items waiting start.outlet course.outlet on.turns on.allowed w in
      record {
        cut = record {
          cut = c.0.cut;
          shows = record { front = w.events; back = []; all = c.1 ∙ sym (append-nil _); few = omega arith; shown = on.list; whole = c.0.given };
        };
        says = subst (λ (n : ℕ). SaysSudden fault n (out.failures course.outlet)) w.puts.unfailed says;
        board = on.board;
        limit = on.limit;
      }

  -- the stage of a rendition
  pub stage-of : (start : Start X Y) (course : Course X Y) (shows : Known) (waiting : ℕ → List SegmentPlan) (on : IsOn input out ladder start course shows waiting) (r : ℕ)
      → r < length ladder.renditions → (a : X) × (b : X) × (lane : Lane) × (slice_get course.lanes.items r ≡ Some lane)
      × Stage input ladder r (turns_at course r) a b lane (stream_at on.world.streams r) (waiting r) (part_at (parts-of ladder on.world.events) r)
  stage-of start course shows waiting on r below =
      let w = on.world in
      let a = some-at start.sources r (omega (arith, below, w.same_before)) in
      let b = some-at course.sources.items r (omega (arith, below, w.same_now)) in
      let m = some-at course.lanes.items r (omega (arith, below, w.same_lanes)) in
      (a.0, b.0, m.0, m.1, w.each r a.0 b.0 m.0 a.1 b.1 m.1)

  -- a rendition of which something waits goes on
  pub waits-going : (start : Start X Y) (course : Course X Y) (shows : Known) (waiting : ℕ → List SegmentPlan) (on : IsOn input out ladder start course shows waiting) (r : ℕ)
      → r < length ladder.renditions → (p : SegmentPlan) (behind : List SegmentPlan) → waiting r ≡ p ∷ behind → (part_at (parts-of ladder on.world.events) r).ended ≡ false
  waits-going start course shows waiting on r below p behind is =
      let s = stage-of start course shows waiting on r below in
      not-true _ (λ ended. clash p behind (sym is ∙ (s.4.ended ended).1))

  -- what waits is in order
  pub waits-next : (start : Start X Y) (course : Course X Y) (shows : Known) (waiting : ℕ → List SegmentPlan) (on : IsOn input out ladder start course shows waiting) → InOrder ladder
      → (r : ℕ) → r < length ladder.renditions → (front : List SegmentPlan) (p : SegmentPlan) (behind : List SegmentPlan) → waiting r ≡ front ++ p ∷ behind
      → IsPlan r ladder.cut (count (part_at (parts-of ladder on.world.events) r) + length front) p
  waits-next start course shows waiting on order r below front p behind is =
      let s = stage-of start course shows waiting on r below in
      let lane = s.2 in
      let given = (part_at (parts-of ladder on.world.events) r).plans in
      let made : (given ++ front) ++ p ∷ (behind ++ lane.intake.filled) ≡ made_of lane.stop r ladder.cut (stream_at on.world.streams r) =
      sym (append_assoc (given ++ front) (p ∷ behind) lane.intake.filled)
      ∙ (ap (λ (l : List SegmentPlan). l ++ lane.intake.filled) (append_assoc given front (p ∷ behind) ∙ (ap (λ (l : List SegmentPlan). given ++ l) (sym is) ∙ s.4.gap))
      ∙ s.4.is_at.made) in
      subst (λ (n : ℕ). IsPlan r ladder.cut n p) (length-append given front)
      (order lane.stop r (stream_at on.world.streams r) (length (given ++ front)) p
      (ap (λ (l : List SegmentPlan). slice_get l (length (given ++ front))) (sym made) ∙ get-behind (given ++ front) (behind ++ lane.intake.filled) p))

  pub is-going : (start : Start X Y) (course : Course X Y) (shows : Known) (waiting : ℕ → List SegmentPlan) (on : IsOn input out ladder start course shows waiting) (r : ℕ)
      → r < length ladder.renditions → (part_at (parts-of ladder on.world.events) r).ended ≡ false → IsGoing ladder r (parts-of ladder on.world.events) course.playlists.items
  is-going start course shows waiting on r below going =
      let each = parts-length ladder on.world.events in
      record { shown_are = on.world.shown_are; each = each; within = omega (arith, each, below); going = going }

  -- the first plan that waits is the next
  pub first-next : (start : Start X Y) (course : Course X Y) (shows : Known) (waiting : ℕ → List SegmentPlan) (on : IsOn input out ladder start course shows waiting) → InOrder ladder
      → (r : ℕ) → r < length ladder.renditions → (p : SegmentPlan) (behind : List SegmentPlan) → waiting r ≡ p ∷ behind
      → IsNext ladder r (parts-of ladder on.world.events) course.playlists.items p
  first-next start course shows waiting on order r below p behind is = record {
    goes_on = is-going start course shows waiting on r below (waits-going start course shows waiting on r below p behind is);
    plan_is = subst (λ (n : ℕ). IsPlan r ladder.cut n p) (omega arith) (waits-next start course shows waiting on order r below [] p behind is);
  }

  -- an event of rendition r was given whole, and shown
  pub on-gave : (start : Start X Y) (r : ℕ) (course now : Course X Y) (shows shows_now : Known) (waiting still : ℕ → List SegmentPlan) (e : Event) (lane : Lane)
      → (on : IsOn input out ladder start course shows waiting) → slice_get course.lanes.items r ≡ Some lane → rendition_of e ≡ r
      → (part_at (parts-of ladder on.world.events) r).ended ≡ false
      → Gave out ladder (parts-of ladder on.world.events) e course now shows.list shows_now.list → ReadsNone course now → shows_now.board ≡ shows.board
      → IsMoved lane lane (still r) (part_at (after (parts-of ladder on.world.events) e) r) → ((k : ℕ) → (k ≡ r → ⊥) → still k ≡ waiting k)
      → (o : IsOn input out ladder start now shows_now still) × (o.world.events ≡ on.world.events ++ e ∷ [])
  unfolding facts_of
  on-gave start r course now shows shows_now waiting still e lane on at is going gave none board moved others =
      let w = on.world in
      let parts = parts-of ladder w.events in
      let each = parts-length ladder w.events in
      let within : r < length parts = omega (arith, slice_get_within course.lanes.items r lane at, w.same_lanes, each) in
      let more = one-after (none_of ladder) w.events e in
      let same = put-back course.lanes.items r lane (sym (get_or_from_slice_get course.lanes.items r lane lane at)) in
      let v = subst (λ (ls : List Lane).
      (v : World (run_of input out course.reads start.sources course.sources.items start.outlet now.outlet) ladder (turns_at course) ls now.playlists.items still) × (v.events ≡ w.events ++ e ∷ [])) same
      (world-gave X Y input out course.reads ladder (turns_at course) r start.sources course.sources.items course.lanes.items course.playlists.items now.playlists.items waiting still
      start.outlet course.outlet now.outlet lane lane (e ∷ []) w at (one-of r parts e is within going)
      (subst (PutAll out course.outlet now.outlet) (sym (one-block ladder parts e)) gave.puts) (gave.shown ∙ ap (shown_all ladder) (sym (alone parts e)))
      (subst (λ (ps : List Part). IsMoved lane lane (still r) (part_at ps r)) (sym (alone parts e)) moved) others) in
      let then : parts-of ladder v.0.events ≡ after parts e = ap (parts-of ladder) v.1 ∙ more in
      subst (λ (c : Course X Y). (o : IsOn input out ladder start c shows_now still) × (o.world.events ≡ w.events ++ e ∷ [])) (as-read course now none) (
        record {
          world = v.0;
          ends = gave.ends ∙ ap ends_of (sym then);
          list = gave.shows
              ∙ (ap (λ (l : List SnapshotFacts). l ++ snapshot_of ladder (after parts e) ∷ []) on.list
              ∙ (append_assoc start.shows.list (shown_by ladder (none_of ladder) w.events) (snapshot_of ladder (after parts e) ∷ [])
              ∙ ap (λ (l : List SnapshotFacts). start.shows.list ++ l) (sym (shown_by-more ladder (none_of ladder) w.events e) ∙ ap (shown_by ladder (none_of ladder)) (sym v.1))));
          counts = ap counts_shown gave.shows ∙ (counts-last shows.list (snapshot_of ladder (after parts e)) ∙ ap counts_of (sym gave.shown));
          board = board ∙ on.board;
          allowed = on.allowed;
          limit = on.limit;
          counted = on.counted;
          turns = on.turns;
          most = on.most;
          left = on.left;
          room = on.room;
          failures = on.failures;
        },
        v.1,
      )

  -- it was given in part, or not shown
  pub on-ungiven : (start : Start X Y) (r : ℕ) (course now : Course X Y) (shows shows_now : Known) (waiting : ℕ → List SegmentPlan) (e : Event) (lane : Lane) (fault : PackFault)
      → (on : IsOn input out ladder start course shows waiting) → slice_get course.lanes.items r ≡ Some lane → rendition_of e ≡ r
      → (part_at (parts-of ladder on.world.events) r).ended ≡ false
      → GaveSome out ladder (parts-of ladder on.world.events) e course now shows.list shows_now.list → ReadsNone course now → shows_now.board ≡ shows.board
      → BeginsMade lane.stop ladder r (stream_at on.world.streams r) (part_at (after (parts-of ladder on.world.events) e) r)
      → SaysFailures fault (out.failures course.outlet) (out.failures now.outlet)
      → IsStopped input out ladder start now shows_now fault
  on-ungiven start r course now shows shows_now waiting e lane fault on at is going gave none board begins says =
      let w = on.world in
      let parts = parts-of ladder w.events in
      let each = parts-length ladder w.events in
      let within : r < length parts = omega (arith, slice_get_within course.lanes.items r lane at, w.same_lanes, each) in
      let c = world-ungiven X Y input out course.reads ladder (turns_at course) r start.sources course.sources.items course.lanes.items course.playlists.items waiting
      start.outlet course.outlet now.outlet lane (e ∷ []) at on.turns on.allowed w (one-of r parts e is within going)
      (subst (PutSome out course.outlet now.outlet) (sym (one-block ladder parts e)) gave.some)
      (subst (λ (ps : List Part). BeginsMade lane.stop ladder r (stream_at w.streams r) (part_at ps r)) (sym (alone parts e)) begins) in
      subst (λ (c : Course X Y). IsStopped input out ladder start c shows_now fault) (as-read course now none) (record {
        cut = record {
          cut = c.0.cut;
          shows = record { front = w.events; back = e ∷ []; all = c.1; few = omega arith; shown = gave.unshown ∙ on.list; whole = c.0.given };
        };
        says = says-sudden fault (out.failures start.outlet) (out.failures course.outlet) (out.failures now.outlet) w.puts.unfailed says;
        board = board ∙ on.board;
        limit = on.limit;
      })

  -- the first plan that waits was given
  pub row-moved : (start : Start X Y) (course : Course X Y) (shows : Known) (waiting : ℕ → List SegmentPlan) (on : IsOn input out ladder start course shows waiting) (r : ℕ)
      → (below : r < length ladder.renditions) (p : SegmentPlan) (behind : List SegmentPlan) → waiting r ≡ p ∷ behind
      → IsMoved (stage-of start course shows waiting on r below).2 (stage-of start course shows waiting on r below).2 behind (part_at (after (parts-of ladder on.world.events) (Row r p)) r)
  row-moved start course shows waiting on r below p behind is =
      let s = stage-of start course shows waiting on r below in
      let parts = parts-of ladder on.world.events in
      let each = parts-length ladder on.world.events in
      let grown = grown-at parts r p (omega (arith, each, below)) in
      let going = waits-going start course shows waiting on r below p behind is in
      record {
        stop = refl;
        intake = refl;
        same = refl;
        gap = ap (λ (q : Part). q.plans ++ behind) grown ∙ (append_assoc (part_at parts r).plans (p ∷ []) behind ∙ (ap (λ (l : List SegmentPlan). (part_at parts r).plans ++ l) (sym is) ∙ s.4.gap));
        ended = λ e. absurd (apart _ (ap (λ (q : Part). q.ended) grown ∙ going) e);
      }

  pub row-begins : (start : Start X Y) (course : Course X Y) (shows : Known) (waiting : ℕ → List SegmentPlan) (on : IsOn input out ladder start course shows waiting) (r : ℕ)
      → (below : r < length ladder.renditions) (p : SegmentPlan) (behind : List SegmentPlan) → waiting r ≡ p ∷ behind
      → BeginsMade (stage-of start course shows waiting on r below).2.stop ladder r (stream_at on.world.streams r) (part_at (after (parts-of ladder on.world.events) (Row r p)) r)
  row-begins start course shows waiting on r below p behind is =
      let s = stage-of start course shows waiting on r below in
      let moved = row-moved start course shows waiting on r below p behind is in
      let parts = parts-of ladder on.world.events in
      let part = part_at (after parts (Row r p)) r in
      record {
        plans = (behind ++ s.2.intake.filled, sym (sym (append_assoc part.plans behind s.2.intake.filled) ∙ (ap (λ (l : List SegmentPlan). l ++ s.2.intake.filled) moved.gap ∙ s.4.is_at.made)));
        ended = λ e. absurd (apart _ (ap (λ (q : Part). q.ended) (grown-at parts r p (omega (arith, parts-length ladder on.world.events, below))) ∙ waits-going start course shows waiting on r below p behind is) e);
      }
