-- How a run ends that was given and shown behind some start.
use Rattle.std.proofs.Common.{◌≡◌, ◌∙◌, ◌⊎◌, inl, inr, ℕ, zero, suc, ◌<◌, ◌≤◌, ◌^◌, Bool, true, false, List, [], ◌∷◌, ◌++◌, length, map, replicate, Option, Some, None, refl, ap, sym, subst, arith}
use Rattle.std.specs.List.{slice_get, slice_index_or}
use Rattle.std.proofs.lemmas.List.{append-nil, length-replicate}
use Rattle.std.proofs.lemmas.Option.{get_or_from_slice_get}
use Rattle.live_board.specs.Snapshots.{Known}
use Rattle.live_board.specs.Counts.{counts_shown}
use Rattle.ingest.specs.declared.lane.Lane.{Lane}
use Rattle.ingest.specs.declared.lane.Stop.{Stop}
use Rattle.item_io.specs.Views.{OutletView, SourceView}
use Rattle.ingest.specs.Lanes.{IsFirst}
use Rattle.ingest.specs.Streams.{closed_of}
use Rattle.ladder_items.specs.declared.fault.PackFault.{PackFault}
use Rattle.ladder_items.specs.declared.fault.PackFault.TheVariants.{NoMemory, Settings as SettingsFault}
use Rattle.ladder_items.specs.declared.report.Report.{Report}
use Rattle.ladder_items.specs.Ladder.{Ladder, IsAllowed}
use Rattle.ladder_items.specs.Items.{no_part, count, shown_all}
use Rattle.ladder_items.specs.Weave.{Event, none_of, after_all, blocks}
use Rattle.ladder_items.specs.Runs.{run_of}
use Rattle.ladder_items.specs.World.{World, NothingDue, HaveRoom}
use Rattle.ladder_items.specs.Packed.{told_of}
use Rattle.ladder_items.proofs.Elsewhere.{some-at}
use Rattle.ladder_items.proofs.Puts.{all_none}
use Rattle.ladder_items.proofs.Worlds.{parts-of, nothing-given, world-first, at-default}
use Rattle.ladder_items.proofs.Endings.{says-as, halted-said, world-halted, world-packed}
use Rattle.rounds.specs.declared.run.course.Course.{Course}
use Rattle.rounds.specs.Showing.{shown_by, ends_of}
use Rattle.rounds.specs.Courses.{Start, AreLeft, IsLeftInTime, IsOn, IsStopped, IsCutShown, IsAllGiven, of_sudden, SaysSudden, turns_at}
use Rattle.rounds.specs.declared.run.books.Books.{Books}
use Rattle.rounds.specs.Begun.{IsTold}
use Rattle.rounds.specs.Shown.{Fits, IsPackedShown, IsTurnedAway, FaultSaysShown, of_shown}
use Rattle.rounds.proofs.Running.{stopped-here}
use Rattle.rounds.proofs.Steps.{counts-are}
use Rattle.rounds.proofs.Closing.{ended-at}

-- no rendition has ended, and none has a segment
ends-none : (n : ℕ) → ends_of (replicate n no_part) ≡ replicate n false
ends-none zero = refl
ends-none (suc n) = ap (λ (l : List Bool). false ∷ l) (ends-none n)

counts-none : (n : ℕ) → map count (replicate n no_part) ≡ replicate n 0
counts-none zero = refl
counts-none (suc n) = ap (λ (l : List ℕ). 0 ∷ l) (counts-none n)

module _ (X Y : Type 0) (input : SourceView X) (out : OutletView Y) (ladder : Ladder) where
  -- a run begins
  pub on-first : (start : Start X Y) (course : Course X Y) → course.sources.items ≡ start.sources → course.outlet ≡ start.outlet → course.turns.items ≡ replicate (length ladder.renditions) 0
      → length start.sources ≡ length ladder.renditions → length course.lanes.items ≡ length ladder.renditions
      → ((k : ℕ) (lane : Lane) → slice_get course.lanes.items k ≡ Some lane → IsFirst k ladder.cut lane) → course.playlists.items ≡ shown_all ladder (none_of ladder)
      → ((k : ℕ) → closed_of k ladder.cut [] ≡ []) → course.ended.items ≡ replicate (length ladder.renditions) false
      → course.reads ≡ start.reads → counts_shown start.shows.list ≡ replicate (length ladder.renditions) 0 → IsAllowed ladder → 1 ≤ course.reads → course.reads ≤ 2 ^ 40 → HaveRoom input course.reads start.sources → out.failures start.outlet < 2 ^ 63
      → IsOn input out ladder start course start.shows (λ k. [])
  unfolding after_all shown_by
  on-first start course sources outlet turns same each first shown none ended limit counts allowed least most room failures =
      let n = length ladder.renditions in
      let unturned : (k : ℕ) → turns_at course k ≡ 0 = λ k. ap (λ (l : List ℕ). slice_index_or l k 0) turns ∙ at-default (length ladder.renditions) k 0 in
      let w = world-first X Y input out course.reads ladder (turns_at course) start.sources course.lanes.items course.playlists.items start.outlet same each first shown none (λ k below. unturned k) in
      let pair : (u : World (run_of input out course.reads start.sources course.sources.items start.outlet course.outlet) ladder (turns_at course) course.lanes.items course.playlists.items (λ k. [])) × (u.events ≡ []) =
      subst (λ (xs : List X). (u : World (run_of input out course.reads start.sources xs start.outlet course.outlet) ladder (turns_at course) course.lanes.items course.playlists.items (λ k. [])) × (u.events ≡ [])) (sym sources)
      (subst (λ (y : Y). (u : World (run_of input out course.reads start.sources start.sources start.outlet y) ladder (turns_at course) course.lanes.items course.playlists.items (λ k. [])) × (u.events ≡ [])) (sym outlet) w) in
      let then : parts-of ladder pair.0.events ≡ none_of ladder = ap (parts-of ladder) pair.1 in
      record {
        world = pair.0;
        ends = ended ∙ (sym (ends-none n) ∙ ap ends_of (sym then));
        list = sym (append-nil start.shows.list) ∙ ap (λ (l : List Event). start.shows.list ++ shown_by ladder (none_of ladder) l) (sym pair.1);
        counts = counts ∙ (sym (counts-none n) ∙ sym (counts-are ladder (none_of ladder) course.playlists.items (length-replicate n no_part) shown));
        board = refl;
        allowed = allowed;
        limit = limit;
        counted = ap length turns ∙ length-replicate (length ladder.renditions) 0;
        turns = λ k. omega (arith, unturned k);
        most = most;
        left = λ k lane source at there. record {
          stops = λ stopped. absurd (stopped (first k lane at).stop);
          rests = λ all. absurd (omega (arith, unturned k, all, least));
          goes_on = λ going some more. absurd (omega (arith, unturned k, some));
        };
        room = room;
        failures = failures;
      }

  -- nothing was read, put or shown, for want of memory
  pub unbegun : (start : Start X Y) (workers reads : ℕ) → ((k : ℕ) → closed_of k ladder.cut [] ≡ [])
      → (fault : PackFault) → SaysSudden fault (out.failures start.outlet) (out.failures start.outlet)
      → FaultSaysShown (run_of input out reads start.sources start.sources start.outlet start.outlet) ladder workers start.shows.list start.shows.list fault
  unfolding shown_by blocks
  unbegun start workers reads none fault says =
      let c = nothing-given X Y input out reads ladder start.sources start.outlet none in
      let run = run_of input out reads start.sources start.sources start.outlet start.outlet in
      let cut : IsCutShown run ladder start.shows.list start.shows.list = record { cut = c.0.cut; shows = record { front = []; back = []; all = c.1; few = omega arith; shown = sym (append-nil start.shows.list); whole = c.0.given } } in
      says-as (of_sudden (out.failures start.outlet) (out.failures start.outlet)) (of_shown run ladder workers start.shows.list start.shows.list) fault
      (λ no. absurd no) (λ r stop no. absurd no) (λ one. (cut, one)) (λ same. (cut, same)) (λ r n is same. (cut, same)) says

  -- it doesn't fit, or fits and memory was wanting
  abbrev TurnedAway : Start X Y → ℕ → PackFault → Type 0
  TurnedAway start workers fault =
      ((fault ≡ SettingsFault) × (Fits ladder (length start.sources) workers (counts_shown start.shows.list) → ⊥)) ⊎ ((fault ≡ NoMemory) × Fits ladder (length start.sources) workers (counts_shown start.shows.list))

  pub unbegun-said : (start : Start X Y) (workers reads : ℕ) → ((k : ℕ) → closed_of k ladder.cut [] ≡ []) → (fault : PackFault) → TurnedAway start workers fault
      → FaultSaysShown (run_of input out reads start.sources start.sources start.outlet start.outlet) ladder workers start.shows.list start.shows.list fault
  unbegun-said start workers reads none fault (inl x) =
      subst (FaultSaysShown (run_of input out reads start.sources start.sources start.outlet start.outlet) ladder workers start.shows.list start.shows.list) (sym x.0)
      (record { unfit = x.1; unread = refl; unput = all_none out start.outlet; unshown = refl })
  unbegun-said start workers reads none fault (inr e) =
      subst (FaultSaysShown (run_of input out reads start.sources start.sources start.outlet start.outlet) ladder workers start.shows.list start.shows.list) (sym e.0)
      (unbegun start workers reads none NoMemory refl)

  -- where it doesn't fit, nothing is read, put or shown
  pub turned-away : (start : Start X Y) (workers reads : ℕ) (fault : PackFault) → TurnedAway start workers fault
      → IsTurnedAway (run_of input out reads start.sources start.sources start.outlet start.outlet) ladder workers start.shows.list start.shows.list fault
  turned-away start workers reads fault (inl x) = λ unfit. (x.0, refl, all_none out start.outlet, refl)
  turned-away start workers reads fault (inr e) = λ unfit. absurd (unfit e.1)

  -- it was stopped at once
  pub stopped-shown : (start : Start X Y) (course : Course X Y) (shows : Known) (workers : ℕ) (fault : PackFault) → IsStopped input out ladder start course shows fault
      → FaultSaysShown (run_of input out start.reads start.sources course.sources.items start.outlet course.outlet) ladder workers start.shows.list shows.list fault
  stopped-shown start course shows workers fault stopped =
      subst (λ (n : ℕ). FaultSaysShown (run_of input out n start.sources course.sources.items start.outlet course.outlet) ladder workers start.shows.list shows.list fault) stopped.limit
      (says-as (of_sudden (out.failures start.outlet) (out.failures course.outlet))
      (of_shown (run_of input out course.reads start.sources course.sources.items start.outlet course.outlet) ladder workers start.shows.list shows.list) fault
      (λ no. absurd no) (λ r stop no. absurd no) (λ one. (stopped.cut, one)) (λ same. (stopped.cut, same)) (λ r n is same. (stopped.cut, same)) stopped.says)

  stopped-left : (reads turns : ℕ) (stop : Option Stop) (source : X) → IsLeftInTime input reads turns stop source → (stop ≡ None → reads ≤ turns) → input.is_left source ≡ true
  stopped-left reads turns None source left rests = left.rests (rests refl)
  stopped-left reads turns (Some stop) source left rests = left.stops (λ e. cc)

  module _ (start : Start X Y) (course : Course X Y) (shows : Known) (on : IsOn input out ladder start course shows (λ k. [])) (all : IsAllGiven course) where
    -- each source was left
    pub all-left : AreLeft input course.sources.items
    all-left k d below =
        let s = some-at course.sources.items k below in
        let l = some-at course.lanes.items k (omega (arith, below, on.world.same_now, on.world.same_lanes)) in
        subst (λ (x : X). input.is_left x ≡ true) (sym (get_or_from_slice_get course.sources.items k s.0 d s.1))
        (stopped-left course.reads (turns_at course k) l.0.stop s.0 (on.left k l.0 s.0 l.1 s.1) (all.rests k l.0 l.1))

    -- all that is closed was given
    abbrev nothing-due : NothingDue (run_of input out course.reads start.sources course.sources.items start.outlet course.outlet) ladder (turns_at course) course.lanes.items course.playlists.items
    nothing-due = record {
      world = on.world;
      filled = all.filled;
      ended = λ k lane at. sym (ended-at (parts-of ladder on.world.events) k) ∙ (ap (λ (l : List Bool). slice_index_or l k false) (sym on.ends) ∙ all.ended k lane at);
    }

    abbrev limit : (k : ℕ) (lane : Lane) → slice_get course.lanes.items k ≡ Some lane → lane.stop ≡ None → turns_at course k ≡ course.reads
    limit k lane at going = omega (arith, all.rests k lane at going, on.turns k)

    halted-shown : (workers r : ℕ) (lane : Lane) (fault : PackFault) → slice_get course.lanes.items r ≡ Some lane
        → ((k : ℕ) (earlier : Lane) → k < r → slice_get course.lanes.items k ≡ Some earlier → told_of k earlier.stop ≡ None) → told_of r lane.stop ≡ Some fault
        → FaultSaysShown (run_of input out course.reads start.sources course.sources.items start.outlet course.outlet) ladder workers start.shows.list shows.list fault
    halted-shown workers r lane fault at first told =
        let h = world-halted X Y input out course.reads ladder (turns_at course) start.sources course.sources.items course.lanes.items course.playlists.items start.outlet course.outlet r lane at first limit on.turns on.allowed nothing-due in
        halted-said (of_shown (run_of input out course.reads start.sources course.sources.items start.outlet course.outlet) ladder workers start.shows.list shows.list) r lane.stop fault told
        (record { halted = h.0; shown = on.list ∙ ap (λ (l : List Event). start.shows.list ++ shown_by ladder (none_of ladder) l) (sym h.1) })

    -- a rendition had a fault, or had all its reads; or memory was wanting for the report
    pub told-shown : (workers : ℕ) (fault : PackFault)
        → (fault ≡ NoMemory) ⊎ ((r : ℕ) × (lane : Lane) × (slice_get course.lanes.items r ≡ Some lane) × (told_of r lane.stop ≡ Some fault)
        × ((k : ℕ) (earlier : Lane) → k < r → slice_get course.lanes.items k ≡ Some earlier → told_of k earlier.stop ≡ None))
        → FaultSaysShown (run_of input out start.reads start.sources course.sources.items start.outlet course.outlet) ladder workers start.shows.list shows.list fault
    told-shown workers fault (inl e) =
        subst (FaultSaysShown (run_of input out start.reads start.sources course.sources.items start.outlet course.outlet) ladder workers start.shows.list shows.list) (sym e)
        (stopped-shown start course shows workers NoMemory (stopped-here X Y input out ladder start course shows (λ k. []) NoMemory refl on))
    told-shown workers fault (inr x) =
        subst (λ (n : ℕ). FaultSaysShown (run_of input out n start.sources course.sources.items start.outlet course.outlet) ladder workers start.shows.list shows.list fault) on.limit
        (halted-shown workers x.0 x.1 fault x.2 x.4 x.3)

    -- each rendition came to its good end
    pub packed-shown : (workers : ℕ) (books : Books) (report : Report) → length books.workers.items ≡ workers → IsTold course.playlists.items course.lanes.items books report
        → IsPackedShown (run_of input out start.reads start.sources course.sources.items start.outlet course.outlet) ladder workers start.shows.list shows.list report
    packed-shown workers books report each told =
        let p = world-packed X Y input out course.reads ladder (turns_at course) start.sources course.sources.items course.lanes.items course.playlists.items start.outlet course.outlet report told.good told.numbers on.turns nothing-due in
        subst (λ (n : ℕ). IsPackedShown (run_of input out n start.sources course.sources.items start.outlet course.outlet) ladder workers start.shows.list shows.list report) on.limit
        (record {
          packed = p.0;
          shown = on.list ∙ ap (λ (l : List Event). start.shows.list ++ shown_by ladder (none_of ladder) l) (sym p.1);
          each = ap length told.workers ∙ each;
          total = told.total;
          own = omega (arith, told.own);
        })
