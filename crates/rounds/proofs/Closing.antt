-- Between two rounds: ends are given, and full spools are turned out.
use Rattle.std.proofs.Common.{◌≡◌, ◌∙◌, inl, inr, Option, ℕ, zero, suc, ◌<◌, ◌≤◌, Bool, true, false, List, [], ◌∷◌, ◌++◌, length, Some, refl, ap, sym, subst, arith}
use Rattle.std.specs.List.{slice_get, slice_index_or}
use Rattle.std.proofs.Math.Bool.{beq}
use Rattle.std.proofs.Math.ListN.{set}
use Rattle.std.proofs.lemmas.Bool.{cases_eq}
use Rattle.std.proofs.lemmas.List.{append-nil, nil_from_length, get_or-set_same}
use Rattle.std.proofs.lemmas.Option.{same_Some, slice_get_within}
use Rattle.cutter.specs.Plans.{SegmentPlan}
use Rattle.live_board.specs.Snapshots.{Known}
use Rattle.ingest.specs.declared.lane.Lane.{Lane}
use Rattle.ingest.specs.declared.lane.Stop.{Stop}
use Rattle.item_io.specs.Views.{OutletView, SourceView}
use Rattle.ingest.specs.Lanes.{is_good, made_of}
use Rattle.ingest.specs.Streams.{Taken}
use Rattle.ladder_items.specs.Ladder.{Ladder}
use Rattle.ladder_items.specs.Items.{Part, no_part, part_at}
use Rattle.ladder_items.specs.Weave.{End, AreLegal, after, after_all, closed_part, blocks}
use Rattle.ladder_items.specs.Lanes.{BeginsMade}
use Rattle.ladder_items.specs.Runs.{run_of}
use Rattle.ladder_items.specs.World.{World, Stage, stream_at}
use Rattle.ladder_items.proofs.Elsewhere.{set-elsewhere, set-here}
use Rattle.ladder_items.proofs.Puts.{all_none}
use Rattle.ladder_items.proofs.Worlds.{IsMoved, parts-of, parts-length, world-gave}
use Rattle.rounds.specs.declared.run.course.Course.{Course}
use Rattle.rounds.specs.Courses.{Start, IsLeftInTime, IsOn, turns_at}
use Rattle.rounds.specs.Showing.{ends_of}
use Rattle.rounds.specs.Rounds.{unfed_of}
use Rattle.rounds.proofs.Running.{stage-of}
use Rattle.rounds.proofs.Turning.{on-with}

just-first : (a b : Bool) → (b ≡ true → a ≡ true) → (a ≡ b → ⊥) → (a ≡ true) × (b ≡ false)
just-first true true f g = absurd (g refl)
just-first true false f g = (refl, refl)
just-first false true f g = absurd (g (f refl))
just-first false false f g = absurd (g refl)

pub beq-same : (a b : Bool) → beq a b ≡ true → a ≡ b
beq-same true true e = refl
beq-same true false e = cc
beq-same false true e = cc
beq-same false false e = refl

pub beq-apart : (a b : Bool) → beq a b ≡ false → a ≡ b → ⊥
beq-apart true true e same = cc
beq-apart true false e same = cc
beq-apart false true e same = cc
beq-apart false false e same = cc

-- where one of two that differ is true, the other isn't
pub not-ended : (a b : Bool) → a ≡ true → (a ≡ b → ⊥) → b ≡ false
not-ended a true good apart = absurd (apart good)
not-ended a false good apart = refl

-- one list of plans more
pub unfed-last : (full : List (List SegmentPlan)) (x : List SegmentPlan) → unfed_of (full ++ x ∷ []) (length full) ≡ x
unfed-last [] x = refl
unfed-last (y ∷ full) x = unfed-last full x

pub unfed-other : (full : List (List SegmentPlan)) (x : List SegmentPlan) (k : ℕ) → (k ≡ length full → ⊥) → unfed_of (full ++ x ∷ []) k ≡ unfed_of full k
unfed-other [] x zero other = absurd (other refl)
unfed-other [] x (suc k) other = refl
unfed-other (y ∷ full) x zero other = refl
unfed-other (y ∷ full) x (suc k) other = unfed-other full x k (λ e. other (ap suc e))

-- past the last of them there is none
pub none-of-none : (full : List (List SegmentPlan)) → unfed_of full (length full) ≡ []
none-of-none [] = refl
none-of-none (y ∷ full) = none-of-none full

pub ended-at : (parts : List Part) (k : ℕ) → slice_index_or (ends_of parts) k false ≡ (part_at parts k).ended
ended-at [] k = refl
ended-at (p ∷ parts) zero = refl
ended-at (p ∷ parts) (suc k) = ended-at parts k

module _ (X Y : Type 0) (input : SourceView X) (out : OutletView Y) (ladder : Ladder) (start : Start X Y) (course : Course X Y) (shows : Known) where
  -- an end that is due
  module _ (on : IsOn input out ladder start course shows (λ k. [])) (r : ℕ) (below : r < length ladder.renditions) where
    pub end-at : slice_index_or course.ended.items r false ≡ (part_at (parts-of ladder on.world.events) r).ended
    end-at = ap (λ (l : List Bool). slice_index_or l r false) on.ends ∙ ended-at (parts-of ladder on.world.events) r

    pub end-due : (lane : Lane) → slice_get course.lanes.items r ≡ Some lane → length lane.intake.filled ≤ 0 → (is_good lane.stop ≡ slice_index_or course.ended.items r false → ⊥)
        → ((part_at (parts-of ladder on.world.events) r).ended ≡ false)
        × (is_good (stage-of X Y input out ladder start course shows (λ k. []) on r below).2.stop ≡ true)
        × ((stage-of X Y input out ladder start course shows (λ k. []) on r below).2.intake.filled ≡ [])
        × (is_good lane.stop ≡ true)
    end-due lane at empty differs =
        let s = stage-of X Y input out ladder start course shows (λ k. []) on r below in
        let same : lane ≡ s.2 = same_Some lane s.2 (sym at ∙ s.3) in
        let both = just-first (is_good lane.stop) (part_at (parts-of ladder on.world.events) r).ended
        (λ e. ap (λ (l : Lane). is_good l.stop) same ∙ (s.4.ended e).0) (λ e. differs (e ∙ sym end-at)) in (
          both.1,
          ap (λ (l : Lane). is_good l.stop) (sym same) ∙ both.0,
          ap (λ (l : Lane). l.intake.filled) (sym same) ∙ nil_from_length lane.intake.filled (omega (arith, empty)),
          both.0,
        )

    closed-at : part_at (after (parts-of ladder on.world.events) (End r)) r ≡ closed_part (part_at (parts-of ladder on.world.events) r)
    closed-at =
        let parts = parts-of ladder on.world.events in
        get_or-set_same parts r (closed_part (part_at parts r)) no_part (omega (arith, parts-length ladder on.world.events, below))

    pub end-moved : is_good (stage-of X Y input out ladder start course shows (λ k. []) on r below).2.stop ≡ true
        → (stage-of X Y input out ladder start course shows (λ k. []) on r below).2.intake.filled ≡ []
        → IsMoved (stage-of X Y input out ladder start course shows (λ k. []) on r below).2 (stage-of X Y input out ladder start course shows (λ k. []) on r below).2 []
        (part_at (after (parts-of ladder on.world.events) (End r)) r)
    end-moved good filled =
        let s = stage-of X Y input out ladder start course shows (λ k. []) on r below in
        record { stop = refl; intake = refl; same = refl; gap = ap (λ (q : Part). q.plans ++ []) closed-at ∙ s.4.gap; ended = λ e. (good, refl, filled) }

    pub end-begins : is_good (stage-of X Y input out ladder start course shows (λ k. []) on r below).2.stop ≡ true
        → (stage-of X Y input out ladder start course shows (λ k. []) on r below).2.intake.filled ≡ []
        → BeginsMade (stage-of X Y input out ladder start course shows (λ k. []) on r below).2.stop ladder r (stream_at on.world.streams r) (part_at (after (parts-of ladder on.world.events) (End r)) r)
    end-begins good filled =
        let s = stage-of X Y input out ladder start course shows (λ k. []) on r below in
        let moved = end-moved good filled in
        let part = part_at (after (parts-of ladder on.world.events) (End r)) r in
        let whole : part.plans ≡ made_of s.2.stop r ladder.cut (stream_at on.world.streams r) =
        sym (append-nil part.plans)
        ∙ (moved.gap ∙ (sym (append-nil s.2.intake.turned) ∙ (ap (λ (l : List SegmentPlan). s.2.intake.turned ++ l) (sym filled) ∙ s.4.is_at.made))) in
        record { plans = ([], sym whole ∙ sym (append-nil part.plans)); ended = λ e. (good, whole) }

  -- a full spool of which nothing waited was turned out
  pub on-turned : (r : ℕ) (now : Course X Y) (waiting still : ℕ → List SegmentPlan) (lane moved : Lane)
      → slice_get course.lanes.items r ≡ Some lane → now.lanes.items ≡ set course.lanes.items r moved → now ≡ record course { lanes = now.lanes }
      → moved.stop ≡ lane.stop → moved.intake ≡ record lane.intake { turned = lane.intake.turned ++ lane.intake.filled; filled = [] }
      → waiting r ≡ [] → still r ≡ lane.intake.filled → ((k : ℕ) → (k ≡ r → ⊥) → still k ≡ waiting k)
      → IsOn input out ladder start course shows waiting → IsOn input out ladder start now shows still
  unfolding after_all blocks AreLegal
  on-turned r now waiting still lane moved at lanes same stop intake none full others on =
      let w = on.world in
      let parts = parts-of ladder w.events in
      let p = part_at parts r in
      let s = stage-of X Y input out ladder start course shows waiting on r (omega (arith, slice_get_within course.lanes.items r lane at, w.same_lanes)) in
      let stage = subst (λ (l : Lane). Stage input ladder r (turns_at course r) s.0 s.1 l (stream_at w.streams r) (waiting r) p) (same_Some s.2 lane (sym s.3 ∙ at)) s.4 in
      let turned : moved.intake.turned ≡ lane.intake.turned ++ lane.intake.filled = ap (λ (t : Taken). t.turned) intake in
      let emptied : moved.intake.filled ≡ [] = ap (λ (t : Taken). t.filled) intake in
      let all : p.plans ≡ lane.intake.turned = sym (append-nil p.plans) ∙ (ap (λ (l : List SegmentPlan). p.plans ++ l) (sym none) ∙ stage.gap) in
      let m : IsMoved lane moved (still r) p =
      record {
        stop = stop;
        intake = intake ∙ (λ j. record lane.intake { turned = sym turned j; filled = sym emptied j });
        same = ap (λ (t : Taken). t.turned ++ t.filled) intake ∙ append-nil _;
        gap = ap (λ (l : List SegmentPlan). p.plans ++ l) full ∙ (ap (λ (l : List SegmentPlan). l ++ lane.intake.filled) all ∙ sym turned);
        ended = λ e. let x = stage.ended e in (ap is_good stop ∙ x.0, full ∙ x.2, emptied);
      } in
      let v = world-gave X Y input out course.reads ladder (turns_at course) r start.sources course.sources.items course.lanes.items course.playlists.items course.playlists.items waiting still
      start.outlet course.outlet course.outlet lane moved [] w at (record { of_r = λ k d below. absurd (omega (arith, below)); legal = tt }) (all_none out course.outlet) w.shown_are m others in
      let pair : (u : World (run_of input out course.reads start.sources course.sources.items start.outlet course.outlet) ladder (turns_at course) now.lanes.items course.playlists.items still) × (u.events ≡ w.events ++ []) =
      subst (λ (ls : List Lane). (u : World (run_of input out course.reads start.sources course.sources.items start.outlet course.outlet) ladder (turns_at course) ls course.playlists.items still) × (u.events ≡ w.events ++ []))
      (sym lanes) v in
      subst (λ (d : Course X Y). IsOn input out ladder start d shows still) (sym same)
      (on-with X Y input out ladder start course (record course { lanes = now.lanes }) shows waiting still on pair.0 (pair.1 ∙ append-nil _) refl refl refl on.counted on.turns
      (λ k l source is there.
      let lane_at : slice_get (set course.lanes.items r moved) k ≡ Some l = ap (λ (ls : List Lane). slice_get ls k) (sym lanes) ∙ is in
      elim (cases_eq k r) as (λ _. IsLeftInTime input course.reads (turns_at course k) l.stop source) [
        | inl q ↦
            let same_lane : moved ≡ l = set-here course.lanes.items r moved l (subst (λ (j : ℕ). slice_get (set course.lanes.items r moved) j ≡ Some l) q lane_at) in
            subst (λ (told : Option Stop). IsLeftInTime input course.reads (turns_at course k) told source) (sym stop ∙ ap (λ (m : Lane). m.stop) same_lane)
            (on.left k lane source (ap (λ (j : ℕ). slice_get course.lanes.items j) q ∙ at) there)
        | inr q ↦ on.left k l source (sym (set-elsewhere course.lanes.items r k moved q) ∙ lane_at) there
      ]))

  -- it wasn't, for want of memory
  pub on-unturned : (now : Course X Y) (waiting : ℕ → List SegmentPlan) → now.lanes.items ≡ course.lanes.items → now ≡ record course { lanes = now.lanes }
      → IsOn input out ladder start course shows waiting → IsOn input out ladder start now shows waiting
  on-unturned now waiting lanes same on =
      let w = on.world in
      let pair : (u : World (run_of input out course.reads start.sources course.sources.items start.outlet course.outlet) ladder (turns_at course) now.lanes.items course.playlists.items waiting) × (u.events ≡ w.events) =
      subst (λ (ls : List Lane). (u : World (run_of input out course.reads start.sources course.sources.items start.outlet course.outlet) ladder (turns_at course) ls course.playlists.items waiting) × (u.events ≡ w.events))
      (sym lanes) (w, refl) in
      subst (λ (d : Course X Y). IsOn input out ladder start d shows waiting) (sym same)
      (on-with X Y input out ladder start course (record course { lanes = now.lanes }) shows waiting waiting on pair.0 pair.1 refl refl refl on.counted on.turns
      (λ k lane source at there. on.left k lane source (ap (λ (ls : List Lane). slice_get ls k) (sym lanes) ∙ at) there))
