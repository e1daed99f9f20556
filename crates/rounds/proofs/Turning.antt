-- A run on its way: renditions have their turns.
use Rattle.std.proofs.Common.{◌≡◌, ◌≢◌, ◌∙◌, ◌⊎◌, inl, inr, Bool, true, false, ℕ, zero, suc, ◌+◌, ◌*◌, ◌<◌, ◌≤◌, List, [], ◌∷◌, ◌++◌, length, Some, None, refl, ap, sym, subst, arith}
use Rattle.std.specs.Prelude.{Decides, ◌||◌, sum}
use Rattle.std.specs.List.{slice_get, slice_index_or, slice_set}
use Rattle.std.proofs.Math.Nat.{suc-mul}
use Rattle.std.proofs.lemmas.Bool.{cases_eq, cases_lt, false≢true}
use Rattle.std.proofs.lemmas.List.{length-set, get_or-set_same, get_or-set_other, set-set}
use Rattle.std.proofs.lemmas.List.Sums.{sum_by-cons}
use Rattle.std.proofs.lemmas.Option.{slice_get_within}
use Rattle.std.proofs.Math.ListN.{set}
use Rattle.std.proofs.lemmas.List.{append-nil}
use Rattle.ghost_list.specs.Lists.{IsBeginning}
use Rattle.cutter.specs.Plans.{SegmentPlan}
use Rattle.live_board.specs.Snapshots.{Known}
use Rattle.ingest.specs.declared.lane.Lane.{Lane}
use Rattle.item_io.specs.Views.{Leaves, OutletView, SourceView}
use Rattle.ingest.specs.Inputs.{IsRead}
use Rattle.ingest.specs.Lanes.{IsTurned}
use Rattle.ingest.specs.Streams.{closed_of}
use Rattle.ingest.proofs.Turning.{turned-left}
use Rattle.ladder_items.specs.declared.fault.PackFault.TheVariants.{NoMemory}
use Rattle.ladder_items.specs.Ladder.{Ladder}
use Rattle.ladder_items.specs.Weave.{Event, after_all, none_of}
use Rattle.ladder_items.specs.Runs.{run_of}
use Rattle.ladder_items.specs.World.{World}
use Rattle.ladder_items.proofs.Elsewhere.{set-elsewhere, set-here}
use Rattle.ladder_items.proofs.Worlds.{world-read, world-unread}
use Rattle.rounds.specs.declared.run.course.Course.{Course}
use Rattle.rounds.specs.Showing.{counts_of, shown_by, ends_of}
use Rattle.rounds.specs.Courses.{Start, AreLeftInTime, IsLeftInTime, IsOn, IsStopped, LeavesAt, OthersStay, ReadsMore, ReadsNone, StayStopped, turns_at, turns_in}

-- a count in a list of counts
counts-here : (xs : List ℕ) (r n : ℕ) → r < length xs → slice_index_or (slice_set xs r n) r 0 ≡ n
counts-here xs r n within = get_or-set_same xs r n 0 within

pub counts-elsewhere : (xs : List ℕ) (r k n : ℕ) → (k ≡ r → ⊥) → slice_index_or (slice_set xs r n) k 0 ≡ slice_index_or xs k 0
counts-elsewhere xs r k n other = get_or-set_other xs r k n 0 other

counts-length : (xs : List ℕ) (r n : ℕ) → length (slice_set xs r n) ≡ length xs
counts-length xs r n = length-set xs r n

-- one more in their sum
pub counts-sum : (xs : List ℕ) (r : ℕ) → r < length xs → sum (slice_set xs r (slice_index_or xs r 0 + 1)) ≡ sum xs + 1
counts-sum [] r within = absurd (omega (arith, within))
counts-sum (x ∷ xs) zero within = omega (arith, sum_by-cons (λ n. n) (x + 1) xs, sum_by-cons (λ n. n) x xs)
counts-sum (x ∷ xs) (suc r) within =
    omega (arith, counts-sum xs r (omega (arith, within)), sum_by-cons (λ n. n) x (slice_set xs r (slice_index_or xs r 0 + 1)), sum_by-cons (λ n. n) x xs)

-- a sum of counts that are few
pub counts-few : (xs : List ℕ) (most : ℕ) → ((k : ℕ) → slice_index_or xs k 0 ≤ most) → sum xs ≤ length xs * most
counts-few [] most few = omega arith
counts-few (x ∷ xs) most few =
    let rest = counts-few xs most (λ k. few (suc k)) in
    let first : x ≤ most = few zero in
    let size : length (x ∷ xs) * most ≡ length xs * most + most = suc-mul (length xs) most in
    omega (arith, rest, first, size, sum_by-cons (λ n. n) x xs)

-- what has stopped stays so
stay-then : (a b c : List Lane) → StayStopped a b → StayStopped b c → StayStopped a c
stay-then a b c f g k lane at halts =
    let mid = f k lane at halts in
    let now = g k mid.0 mid.1 (λ e. halts (sym mid.2 ∙ e)) in
    (now.0, now.1, now.2 ∙ mid.2)

pub stay-turned : {X Y : Type 0} (r : ℕ) (a b : Course X Y) → OthersStay r a b → ((lane : Lane) → slice_get a.lanes.items r ≡ Some lane → lane.stop ≡ None)
    → StayStopped a.lanes.items b.lanes.items
stay-turned r a b others going k lane at halts =
    elim (cases_eq k r) as (λ _. (now : Lane) × (slice_get b.lanes.items k ≡ Some now) × (now.stop ≡ lane.stop)) [
      | inl q ↦ absurd (halts (going lane (ap (λ (j : ℕ). slice_get a.lanes.items j) (sym q) ∙ at)))
      | inr q ↦ (lane, others.lanes k q ∙ at, refl)
    ]

-- turns that were had
pub more-none : {X Y : Type 0} (course : Course X Y) → ReadsMore course course
more-none course = record { more = omega arith; stays = λ e. refl; stopped = λ k lane at halts. (lane, at, refl) }

pub more-then : {X Y : Type 0} (a b c : Course X Y) → ReadsMore a b → ReadsMore b c → ReadsMore a c
more-then a b c f g = record {
  more = omega (arith, f.more, g.more);
  stays = λ e. g.stays (omega (arith, e, f.more, g.more)) ∙ f.stays (omega (arith, e, f.more, g.more));
  stopped = stay-then _ _ _ f.stopped g.stopped;
}

pub more-unread : {X Y : Type 0} (a b : Course X Y) → ReadsNone a b → ReadsMore a b
more-unread a b none = record { more = omega (arith, ap (λ t. sum t.items) none.turns); stays = λ e. none.lanes; stopped = λ k lane at halts. (lane, ap (λ l. slice_get l.items k) none.lanes ∙ at, refl) }

pub more-looked : {X Y : Type 0} (a b : Course X Y) → b ≡ record a { sources = b.sources } → ReadsMore a b
more-looked a b same = record { more = omega (arith, ap (λ (d : Course _ _). turns_in d) same); stays = λ e. ap (λ (d : Course _ _). d.lanes) same; stopped = λ k lane at halts. (lane, ap (λ (d : Course _ _). slice_get d.lanes.items k) same ∙ at, refl) }

-- whether turns were had
pub none-had : (n : ℕ) → Decides false (n < n)
none-had n = ((λ e. absurd (false≢true e)), λ more. absurd (omega (arith, more)))

had-by : (a b : Bool) (x y z : ℕ) → x ≤ y → y ≤ z → Decides a (x < y) → Decides b (y < z) → ((x < y) ⊎ (y ≤ x)) → Decides (a || b) (x < z)
had-by true b x y z f g p q _ = ((λ e. let less = p.0 refl in omega (arith, less, g)), λ more. refl)
had-by false b x y z f g p q (inl less) = absurd (false≢true (p.1 less))
had-by false b x y z f g p q (inr not) = ((λ e. let less = q.0 e in omega (arith, less, f)), λ more. q.1 (omega (arith, more, not)))

pub had-then : (a b : Bool) (x y z : ℕ) → x ≤ y → y ≤ z → Decides a (x < y) → Decides b (y < z) → Decides (a || b) (x < z)
had-then a b x y z f g p q = had-by a b x y z f g p q (cases_lt x y)

not-by : (x y : ℕ) → Decides false (x < y) → ((x < y) ⊎ (y ≤ x)) → y ≤ x
not-by x y p (inl less) = absurd (false≢true (p.1 less))
not-by x y p (inr not) = not

pub none-more : (b : Bool) (x y : ℕ) → b ≡ false → Decides b (x < y) → y ≤ x
none-more b x y is p = not-by x y (subst (λ (a : Bool). Decides a (x < y)) is p) (cases_lt x y)

-- no other rendition had a turn
pub others-none : {X Y : Type 0} (r : ℕ) (course : Course X Y) → OthersStay r course course
others-none r course = record { turns = λ k other. refl; lanes = λ k other. refl; sources = λ k other. refl }

pub others-then : {X Y : Type 0} (r : ℕ) (a b c : Course X Y) → OthersStay r a b → OthersStay r b c → OthersStay r a c
others-then r a b c f g = record {
  turns = λ k other. g.turns k other ∙ f.turns k other;
  lanes = λ k other. g.lanes k other ∙ f.lanes k other;
  sources = λ k other. g.sources k other ∙ f.sources k other;
}

pub others-looked : {X Y : Type 0} (r : ℕ) (a b : Course X Y) → b.sources.items ≡ a.sources.items → b ≡ record a { sources = b.sources } → OthersStay r a b
others-looked r a b sources same = record {
  turns = λ k other. ap (λ (d : Course _ _). turns_at d k) same;
  lanes = λ k other. ap (λ (d : Course _ _). slice_get d.lanes.items k) same;
  sources = λ k other. ap (λ l. slice_get l k) sources;
}

pub others-turned : {X Y : Type 0} (r : ℕ) (course now : Course X Y) (c : X) (moved : Lane)
    → now.sources.items ≡ set course.sources.items r c → now.lanes.items ≡ set course.lanes.items r moved
    → ((k : ℕ) → (k ≡ r → ⊥) → turns_at now k ≡ turns_at course k) → OthersStay r course now
others-turned r course now c moved sources lanes turns = record {
  turns = turns;
  lanes = λ k other. ap (λ l. slice_get l k) lanes ∙ set-elsewhere course.lanes.items r k moved other;
  sources = λ k other. ap (λ l. slice_get l k) sources ∙ set-elsewhere course.sources.items r k c other;
}

-- a turn was counted, and its source left if that was the last one
pub turned-counted : {X : Type 0} (input : SourceView X) (reads turns r : ℕ) (old now : List X) (a b : X) (was is : Lane) → IsTurned input a b was is
    → (is.stop ≢ None → input.is_left b ≡ true) → (is.stop ≡ None → input.is_left b ≡ false)
    → (reads ≤ turns → LeavesAt input r (set old r b) now) → (turns < reads → now ≡ set old r b)
    → (c : X) × (now ≡ set old r c) × IsTurned input a c was is × IsLeftInTime input reads turns is.stop c
turned-counted {X} input reads turns r old now a b was is turned left unleft last others =
    elim (cases_lt turns reads) as (λ _. (c : X) × (now ≡ set old r c) × IsTurned input a c was is × IsLeftInTime input reads turns is.stop c) [
      | inl below ↦ (b, others below, turned, record { stops = left; rests = λ most. absurd (omega (arith, below, most)); goes_on = λ none some less. unleft none })
      | inr most ↦
          let l = last most in
          let same : b ≡ l.source = set-here old r b l.source l.was in
          let leaves : Leaves input b l.source_now = subst (λ (x : X). Leaves input x l.source_now) (sym same) l.left in (
            l.source_now,
            l.is ∙ set-set old r b l.source_now,
            turned-left input a b l.source_now was is leaves turned,
            record { stops = λ no. leaves.is_left; rests = λ all. leaves.is_left; goes_on = λ none some less. absurd (omega (arith, less, most)) },
          )
    ]

-- rendition r had a turn, and its source was left in time
left-read : {X Y : Type 0} (input : SourceView X) (r : ℕ) (course now : Course X Y) (c : X) (moved : Lane)
    → now.sources.items ≡ set course.sources.items r c → now.lanes.items ≡ set course.lanes.items r moved → now.reads ≡ course.reads
    → turns_at now r ≡ turns_at course r + 1 → ((k : ℕ) → (k ≡ r → ⊥) → turns_at now k ≡ turns_at course k)
    → IsLeftInTime input course.reads (turns_at course r + 1) moved.stop c → AreLeftInTime input course → AreLeftInTime input now
left-read {X} input r course now c moved sources lanes reads one others left before k l s at there =
    let lane_at : slice_get (set course.lanes.items r moved) k ≡ Some l = ap (λ (ls : List Lane). slice_get ls k) (sym lanes) ∙ at in
    let source_at : slice_get (set course.sources.items r c) k ≡ Some s = ap (λ (xs : List X). slice_get xs k) (sym sources) ∙ there in
    subst (λ (n : ℕ). IsLeftInTime input n (turns_at now k) l.stop s) (sym reads)
    (elim (cases_eq k r) as (λ _. IsLeftInTime input course.reads (turns_at now k) l.stop s) [
      | inl q ↦
          let same_lane : moved ≡ l = set-here course.lanes.items r moved l (subst (λ (j : ℕ). slice_get (set course.lanes.items r moved) j ≡ Some l) q lane_at) in
          let same_source : c ≡ s = set-here course.sources.items r c s (subst (λ (j : ℕ). slice_get (set course.sources.items r c) j ≡ Some s) q source_at) in
          let turns : turns_at course r + 1 ≡ turns_at now k = sym one ∙ ap (λ (j : ℕ). turns_at now j) (sym q) in
          subst (λ (n : ℕ). IsLeftInTime input course.reads n l.stop s) turns
          (subst (λ (m : Lane). IsLeftInTime input course.reads (turns_at course r + 1) m.stop s) same_lane
          (subst (λ (x : X). IsLeftInTime input course.reads (turns_at course r + 1) moved.stop x) same_source left))
      | inr q ↦
          subst (λ (n : ℕ). IsLeftInTime input course.reads n l.stop s) (sym (others k q))
          (before k l s (sym (set-elsewhere course.lanes.items r k moved q) ∙ lane_at) (sym (set-elsewhere course.sources.items r k c q) ∙ source_at))
    ])

module _ (X Y : Type 0) (input : SourceView X) (out : OutletView Y) (ladder : Ladder) where
  -- nothing was given, so that all that is shown stands
  pub on-with : (start : Start X Y) (course now : Course X Y) (shows : Known) (waiting still : ℕ → List SegmentPlan) (on : IsOn input out ladder start course shows waiting)
      → (u : World (run_of input out now.reads start.sources now.sources.items start.outlet now.outlet) ladder (turns_at now) now.lanes.items now.playlists.items still)
      → u.events ≡ on.world.events → now.ended ≡ course.ended → now.playlists ≡ course.playlists → now.reads ≡ course.reads
      → length now.turns.items ≡ length ladder.renditions → ((k : ℕ) → turns_at now k ≤ now.reads) → AreLeftInTime input now → IsOn input out ladder start now shows still
  on-with start course now shows waiting still on u events ended playlists reads counted turns left = record {
    world = u;
    ends = ap (λ e. e.items) ended ∙ (on.ends ∙ ap (λ (l : List Event). ends_of (after_all (none_of ladder) l)) (sym events));
    list = on.list ∙ ap (λ (l : List Event). start.shows.list ++ shown_by ladder (none_of ladder) l) (sym events);
    counts = on.counts ∙ ap (λ p. counts_of p.items) (sym playlists);
    board = on.board;
    allowed = on.allowed;
    limit = reads ∙ on.limit;
    counted = counted;
    turns = turns;
    most = rw reads on.most;
    left = left;
    room = rw reads on.room;
    failures = on.failures;
  }

  -- sources were looked at, and none was read
  pub on-looked : (start : Start X Y) (course now : Course X Y) (shows : Known) (waiting : ℕ → List SegmentPlan)
      → now.sources.items ≡ course.sources.items → now ≡ record course { sources = now.sources }
      → IsOn input out ladder start course shows waiting → IsOn input out ladder start now shows waiting
  on-looked start course now shows waiting sources same on =
      let w = on.world in
      let pair : (u : World (run_of input out course.reads start.sources now.sources.items start.outlet course.outlet) ladder (turns_at course) course.lanes.items course.playlists.items waiting) × (u.events ≡ w.events) =
      subst (λ (xs : List X). (u : World (run_of input out course.reads start.sources xs start.outlet course.outlet) ladder (turns_at course) course.lanes.items course.playlists.items waiting) × (u.events ≡ w.events)) (sym sources) (w, refl) in
      subst (λ (d : Course X Y). IsOn input out ladder start d shows waiting) (sym same)
      (on-with start course (record course { sources = now.sources }) shows waiting waiting on pair.0 pair.1 refl refl refl on.counted on.turns
      (λ k lane source at there. on.left k lane source at (ap (λ (xs : List X). slice_get xs k) (sym sources) ∙ there)))

  -- rendition r had its turn
  pub on-read : (start : Start X Y) (r : ℕ) (course now : Course X Y) (shows : Known) (waiting : ℕ → List SegmentPlan) (b c : X) (lane moved : Lane)
      → slice_get course.sources.items r ≡ Some b → slice_get course.lanes.items r ≡ Some lane → lane.stop ≡ None → IsTurned input b c lane moved
      → now.sources.items ≡ set course.sources.items r c → now.lanes.items ≡ set course.lanes.items r moved → now.turns.items ≡ slice_set course.turns.items r (turns_at course r + 1)
      → now ≡ record course { sources = now.sources; lanes = now.lanes; turns = now.turns } → turns_at course r < course.reads
      → IsLeftInTime input course.reads (turns_at course r + 1) moved.stop c
      → IsOn input out ladder start course shows waiting → IsOn input out ladder start now shows waiting
  on-read start r course now shows waiting b c lane moved f g goes_on turn sources lanes turns same below left on =
      let w = on.world in
      let then : Course X Y = record course { sources = now.sources; lanes = now.lanes; turns = now.turns } in
      let within : r < length course.turns.items = omega (arith, slice_get_within course.lanes.items r lane g, w.same_lanes, on.counted) in
      let one : turns_at now r ≡ turns_at course r + 1 = ap (λ (l : List ℕ). slice_index_or l r 0) turns ∙ counts-here course.turns.items r (turns_at course r + 1) within in
      let others : (k : ℕ) → (k ≡ r → ⊥) → turns_at now k ≡ turns_at course k = λ k other. ap (λ (l : List ℕ). slice_index_or l k 0) turns ∙ counts-elsewhere course.turns.items r k (turns_at course r + 1) other in
      let v = world-read X Y input out course.reads ladder (turns_at course) (turns_at now) r start.sources course.sources.items course.lanes.items course.playlists.items waiting start.outlet course.outlet b c lane moved f g goes_on turn one others w in
      let pair : (u : World (run_of input out course.reads start.sources now.sources.items start.outlet course.outlet) ladder (turns_at now) now.lanes.items course.playlists.items waiting) × (u.events ≡ w.events) =
      subst (λ (xs : List X). (u : World (run_of input out course.reads start.sources xs start.outlet course.outlet) ladder (turns_at now) now.lanes.items course.playlists.items waiting) × (u.events ≡ w.events)) (sym sources)
      (subst (λ (ls : List Lane). (u : World (run_of input out course.reads start.sources (set course.sources.items r c) start.outlet course.outlet) ladder (turns_at now) ls course.playlists.items waiting) × (u.events ≡ w.events)) (sym lanes)
      (v.0, v.2)) in
      subst (λ (d : Course X Y). IsOn input out ladder start d shows waiting) (sym same)
      (on-with start course then shows waiting waiting on pair.0 pair.1 refl refl refl
      (ap length turns ∙ (counts-length course.turns.items r (turns_at course r + 1) ∙ on.counted))
      (λ k. elim (cases_eq k r) as (λ _. turns_at now k ≤ course.reads) [
        | inl q ↦ subst (λ (j : ℕ). turns_at now j ≤ course.reads) (sym q) (omega (arith, one, below))
        | inr q ↦ omega (arith, others k q, on.turns k)
      ])
      (left-read input r course then c moved sources lanes refl one others left on.left))

  -- want of memory stopped the run in a turn of rendition r
  pub on-unread : (start : Start X Y) (r : ℕ) (course now : Course X Y) (shows : Known) (waiting : ℕ → List SegmentPlan) (b c : X) (lane : Lane) (piece : List ℕ)
      → slice_get course.sources.items r ≡ Some b → slice_get course.lanes.items r ≡ Some lane → lane.stop ≡ None → IsRead input b c piece → input.failures c ≡ input.failures b
      → ((s more : List ℕ) → IsBeginning (closed_of r ladder.cut s) (closed_of r ladder.cut (s ++ more)))
      → now.sources.items ≡ set course.sources.items r c → now ≡ record course { sources = now.sources; lanes = now.lanes } → turns_at course r < course.reads
      → IsOn input out ladder start course shows waiting → IsStopped input out ladder start now shows NoMemory
  on-unread start r course now shows waiting b c lane piece f g goes_on read unfailed grow sources same below on =
      let w = on.world in
      let u = world-unread X Y input out course.reads ladder (turns_at course) r start.sources course.sources.items course.lanes.items course.playlists.items waiting start.outlet course.outlet b c lane piece
      f g goes_on read unfailed grow below on.turns on.allowed w in
      subst (λ (d : Course X Y). IsStopped input out ladder start d shows NoMemory) (sym same) (record {
        cut = rw sources (record {
          cut = u.0.cut;
          shows = record { front = w.events; back = []; all = u.1 ∙ sym (append-nil _); few = omega arith; shown = on.list; whole = u.0.given };
        });
        says = w.puts.unfailed;
        board = on.board;
        limit = on.limit;
      })
