-- A turn of one rendition: one read, and all that is due is given.
use Rattle.std.proofs.Common.{◌≡◌, ◌∙◌, inl, inr, ℕ, zero, suc, ◌+◌, ◌<◌, ◌≤◌, true, false, List, [], Option, ◌∷◌, ◌++◌, length, Some, None, refl, ap, sym, subst, arith}
use Rattle.std.specs.List.{slice_get}
use Rattle.std.proofs.Math.ListN.{set}
use Rattle.std.proofs.lemmas.List.{append-nil}
use Rattle.std.proofs.lemmas.Option.{slice_get_within}
use Rattle.std.proofs.lemmas.Bool.{cases_eq}
use Rattle.ghost_list.specs.Lists.{IsBeginning}
use Rattle.cutter.specs.Plans.{SegmentPlan}
use Rattle.cutter.specs.Ordered.{IsPlan}
use Rattle.cutter.specs.declared.settings.CutSettings.{CutSettings}
use Rattle.ingest.specs.declared.lane.Lane.{Lane}
use Rattle.ingest.specs.declared.lane.Stop.{Stop}
use Rattle.ingest.specs.declared.lane.Stop.TheVariants.{Good, Cut, Read}
use Rattle.ingest.specs.Streams.{Taken, AreNext, closed_of}
use Rattle.item_io.specs.Views.{OutletView, SourceView}
use Rattle.ingest.specs.Inputs.{BringsWant, IsRead, SourceSays}
use Rattle.ingest.specs.Lanes.{made_of, is_good, IsFirst, IsOpen, IsTurned}
use Rattle.ladder_items.specs.Ladder.{Ladder, IsAllowed}
use Rattle.ladder_items.specs.Shown.{Shown}
use Rattle.ladder_items.specs.Items.{Part, no_part, part_at, shown_all}
use Rattle.ladder_items.specs.Weave.{after_all, blocks, none_of}
use Rattle.ladder_items.specs.Giving.{AreNextPlans}
use Rattle.ladder_items.specs.Runs.{run_of}
use Rattle.ladder_items.specs.Putting.{PutAll, PutSome}
use Rattle.ladder_items.specs.World.{NothingDue, World, stream_at, turns_of}
use Rattle.ladder_items.proofs.Elsewhere.{set-here, set-elsewhere, set-there, all-other}
use Rattle.ladder_items.proofs.Rows.{after_all-append}
use Rattle.ladder_items.proofs.Stages.{same-fails, turns-now, turns-then, turns-other, turns-all, turns-none, turns-more, turns-most}
use Rattle.ladder_items.proofs.Worlds.{InOrder, parts-of, parts-length, stage-at, world-read, world-gave, world-unread, world-ungiven, world-skip, world-round, world-first, at-default}
use Rattle.serial_run.specs.Dues.{due}
use Rattle.serial_run.specs.OneThread.{IsCutAtOnce, taken_behind}
use Rattle.serial_run.proofs.Dues.{next-behind, due-are-of, due-part}
use Rattle.serial_run.proofs.AtOnce.{cut-at-once, was-due}

pub set-twice : {A : Type 0} (xs : List A) (r : ℕ) (x y : A) → set (set xs r x) r y ≡ set xs r y
set-twice [] r x y = refl
set-twice (z ∷ xs) zero x y = refl
set-twice (z ∷ xs) (suc r) x y = ap (λ l. z ∷ l) (set-twice xs r x y)

module _ (X Y : Type 0) (input : SourceView X) (out : OutletView Y) (most_reads : ℕ) (ladder : Ladder) where
  -- rendition r has read, and not given yet
  pub record HasRead (rounds r : ℕ) (before now : List X) (lanes : List Lane) (shown : List Shown) (x y : Y) (c : X) (moved : Lane) (d : NothingDue (run_of input out most_reads before now x y) ladder (turns_of rounds r) lanes shown) (piece : List ℕ) : Type 1 where
    pub world : World (run_of input out most_reads before (set now r c) x y) ladder (turns_of rounds (r + 1)) (set lanes r moved) shown (λ k. [])
    pub streams_are : world.streams ≡ set d.world.streams r (stream_at d.world.streams r ++ piece)
    pub events_are : world.events ≡ d.world.events
    pub within : r < length lanes
    pub next : AreNextPlans ladder r (parts-of ladder world.events) shown moved.intake.filled
    pub gap : (part_at (parts-of ladder world.events) r).plans ≡ moved.intake.turned
    pub made : moved.intake.turned ++ moved.intake.filled ≡ made_of moved.stop r ladder.cut (stream_at world.streams r)

  pub has-read : (rounds r : ℕ) (before now : List X) (lanes : List Lane) (shown : List Shown) (x y : Y) (b c : X) (lane moved : Lane)
      → slice_get now r ≡ Some b → slice_get lanes r ≡ Some lane → lane.stop ≡ None → (turn : IsTurned input b c lane moved) → InOrder ladder
      → (d : NothingDue (run_of input out most_reads before now x y) ladder (turns_of rounds r) lanes shown) → HasRead rounds r before now lanes shown x y c moved d turn.piece
  has-read rounds r before now lanes shown x y b c lane moved f g goes_on turn order d =
      let v = world-read X Y input out most_reads ladder (turns_of rounds r) (turns_of rounds (r + 1)) r before now lanes shown _ x y b c lane moved f g goes_on turn
      (turns-then rounds r ∙ ap (λ n. n + 1) (sym (turns-now rounds r))) (turns-other rounds r) d.world in
      let w = v.0 in
      let within : r < length lanes = slice_get_within lanes r lane g in
      let below : r < length now = slice_get_within now r b f in
      let s = stage-at X Y input out most_reads ladder (turns_of rounds (r + 1)) before (set now r c) (set lanes r moved) shown _ x y w r c moved (set-there now r c below) (set-there lanes r moved within) in
      let gap = sym (append-nil _) ∙ s.2.gap in
      let each = parts-length ladder w.events in
      let going : (part_at (parts-of ladder w.events) r).ended ≡ false =
      ap (λ l. (part_at (parts-of ladder l) r).ended) v.2 ∙ (d.ended r lane g ∙ ap is_good goes_on) in
      record {
        world = w;
        streams_are = v.1;
        events_are = v.2;
        within = within;
        next = record {
          goes_on = record { shown_are = w.shown_are; each = each; within = omega (arith, each, within, d.world.same_lanes); going = going };
          plans_are = subst (λ (n : ℕ). AreNext r ladder.cut n moved.intake.filled) (omega (arith, ap length gap))
              (next-behind r ladder.cut 0 moved.intake.turned moved.intake.filled (λ k plan at.
              subst (λ (n : ℕ). IsPlan r ladder.cut n plan) (omega arith) (order moved.stop r (stream_at w.streams r) k plan (ap (λ (l : List SegmentPlan). slice_get l k) (sym s.2.is_at.made) ∙ at))));
        };
        gap = gap;
        made = s.2.is_at.made;
      }

  -- all that was due was given
  pub due-step : (rounds r : ℕ) (before now : List X) (lanes : List Lane) (shown then : List Shown) (x y z : Y) (c : X) (lane moved gave : Lane)
      → slice_get lanes r ≡ Some lane → (d : NothingDue (run_of input out most_reads before now x y) ladder (turns_of rounds r) lanes shown) (piece : List ℕ)
      → HasRead rounds r before now lanes shown x y c moved d piece
      → ((parts : List Part) → AreNextPlans ladder r parts shown moved.intake.filled → PutAll out y z (blocks ladder parts (due r moved)) × (then ≡ shown_all ladder (after_all parts (due r moved))))
      → gave.stop ≡ moved.stop → gave.intake ≡ record moved.intake { turned = moved.intake.turned ++ moved.intake.filled; filled = [] }
      → NothingDue (run_of input out most_reads before (set now r c) x z) ladder (turns_of rounds (r + 1)) (set lanes r gave) then
  due-step rounds r before now lanes shown then x y z c lane moved gave g d piece h given stop intake =
      let w = h.world in
      let parts = parts-of ladder w.events in
      let puts = given parts h.next in
      let part = due-part ladder r parts shown moved h.next.goes_on in
      let of_r = due-are-of ladder r parts shown moved h.next.goes_on in
      let turned = ap (λ (t : Taken). t.turned) intake in
      let filled = ap (λ (t : Taken). t.filled) intake in
      let v = world-gave X Y input out most_reads ladder (turns_of rounds (r + 1)) r before (set now r c) (set lanes r moved) shown then (λ k. []) (λ k. []) x y z moved gave (due r moved) w
      (set-there lanes r moved h.within) of_r puts.0 puts.1 (record {
        stop = stop;
        intake = intake ∙ ap (λ (t : Taken). record moved.intake { turned = t.turned; filled = t.filled }) (sym intake);
        same = ap (λ (t : Taken). t.turned ++ t.filled) intake ∙ append-nil _;
        gap = append-nil _ ∙ (ap (λ (p : Part). p.plans) part ∙ (ap (λ (l : List SegmentPlan). l ++ moved.intake.filled) h.gap ∙ sym turned));
        ended = λ e. (ap is_good stop ∙ (sym (ap (λ (p : Part). p.ended) part) ∙ e), refl, filled);
      }) (λ k other. refl) in
      let twice = set-twice lanes r moved gave in
      let all : parts-of ladder v.0.events ≡ after_all parts (due r moved) = ap (parts-of ladder) v.1 ∙ after_all-append (none_of ladder) w.events (due r moved) in
      subst (λ (ls : List Lane). NothingDue (run_of input out most_reads before (set now r c) x z) ladder (turns_of rounds (r + 1)) ls then) twice (record {
        world = v.0;
        filled = λ k l at.
            elim (cases_eq k r) as (λ _. l.intake.filled ≡ []) [
              | inl q ↦ let mine = set-here (set lanes r moved) r gave l (ap (slice_get (set (set lanes r moved) r gave)) (sym q) ∙ at) in ap (λ (m : Lane). m.intake.filled) (sym mine) ∙ filled
              | inr q ↦ d.filled k l (sym (set-elsewhere (set lanes r moved) r k gave q ∙ set-elsewhere lanes r k moved q) ∙ at)
            ];
        ended = λ k l at.
            elim (cases_eq k r) as (λ _. (part_at (parts-of ladder v.0.events) k).ended ≡ is_good l.stop) [
              | inl q ↦
                  let mine = set-here (set lanes r moved) r gave l (ap (slice_get (set (set lanes r moved) r gave)) (sym q) ∙ at) in
                  ap (λ (j : ℕ). (part_at (parts-of ladder v.0.events) j).ended) q
                  ∙ (ap (λ (ps : List Part). (part_at ps r).ended) all
                  ∙ (ap (λ (p : Part). p.ended) part ∙ (ap is_good (sym stop) ∙ ap (λ (m : Lane). is_good m.stop) mine)))
              | inr q ↦
                  ap (λ (ps : List Part). (part_at ps k).ended) all
                  ∙ (ap (λ (p : Part). p.ended) (all-other r k parts (due r moved) of_r.of_r q)
                  ∙ (ap (λ events. (part_at (parts-of ladder events) k).ended) h.events_are
                  ∙ d.ended k l (sym (set-elsewhere (set lanes r moved) r k gave q ∙ set-elsewhere lanes r k moved q) ∙ at)))
            ];
      })

  -- no read of rendition r failed before its turn, nor in it
  unfailed-yet : (rounds r : ℕ) (before now : List X) (lanes : List Lane) (shown : List Shown) (x y : Y) (b c : X) (lane : Lane)
      → slice_get now r ≡ Some b → slice_get lanes r ≡ Some lane → lane.stop ≡ None → input.failures c ≡ input.failures b
      → NothingDue (run_of input out most_reads before now x y) ladder (turns_of rounds r) lanes shown
      → (a e : X) → slice_get before r ≡ Some a → slice_get (set now r c) r ≡ Some e → input.failures e ≡ input.failures a
  unfailed-yet rounds r before now lanes shown x y b c lane f g goes_on unfailed d a e at_a at_e =
      sym (ap input.failures (set-here now r c e at_e))
      ∙ (unfailed ∙ same-fails X input ladder r _ a b lane _ _ _ goes_on (d.world.each r a b lane at_a f g))

  -- where a read failed nothing is due
  unfailed-by : (r : ℕ) (s : CutSettings) (stream : List ℕ) (stop : Option Stop) (b c : X) (filled : List SegmentPlan)
      → SourceSays input r s stream stop b c → (stop ≡ Some Read → filled ≡ []) → (filled ≡ [] → is_good stop ≡ false → ⊥) → input.failures c ≡ input.failures b
  unfailed-by r s stream None b c filled says unread owing = says
  unfailed-by r s stream (Some (Good gone)) b c filled says unread owing = says.0
  unfailed-by r s stream (Some (Cut told)) b c filled says unread owing = says.0
  unfailed-by r s stream (Some Read) b c filled says unread owing = absurd (owing (unread refl) refl)

  unfailed-turn : (b c : X) (lane moved : Lane) → IsTurned input b c lane moved → lane.intake.filled ≡ []
      → (moved.stop ≡ Some Read → moved.intake ≡ record lane.intake { ended = true }) → (moved.intake.filled ≡ [] → is_good moved.stop ≡ false → ⊥) → input.failures c ≡ input.failures b
  unfailed-turn b c lane moved turn filled unread owing =
      unfailed-by lane.intake.rendition lane.intake.settings _ moved.stop b c moved.intake.filled turn.says (λ failed. ap (λ (t : Taken). t.filled) (unread failed) ∙ filled) owing

  -- a rendition that goes on took what was read
  open-at : (rounds r : ℕ) (before now : List X) (lanes : List Lane) (shown : List Shown) (x y : Y) (b : X) (lane : Lane)
      → slice_get now r ≡ Some b → slice_get lanes r ≡ Some lane → lane.stop ≡ None
      → (d : NothingDue (run_of input out most_reads before now x y) ladder (turns_of rounds r) lanes shown) → IsOpen r ladder.cut (stream_at d.world.streams r) lane.intake
  open-at rounds r before now lanes shown x y b lane f g goes_on d =
      let s = stage-at X Y input out most_reads ladder (turns_of rounds r) before now lanes shown _ x y d.world r b lane f g in
      s.2.is_at.goes_on goes_on

  taken-at : (rounds r : ℕ) (before now : List X) (lanes : List Lane) (shown : List Shown) (x y : Y) (b : X) (lane : Lane)
      → slice_get now r ≡ Some b → slice_get lanes r ≡ Some lane → lane.stop ≡ None
      → (d : NothingDue (run_of input out most_reads before now x y) ladder (turns_of rounds r) lanes shown) → lane.intake ≡ taken_behind ladder r (stream_at d.world.streams r)
  taken-at rounds r before now lanes shown x y b lane f g goes_on d =
      let s = stage-at X Y input out most_reads ladder (turns_of rounds r) before now lanes shown _ x y d.world r b lane f g in
      let ready = s.2.is_at.goes_on goes_on in
      let stream = stream_at d.world.streams r in
      let filled = d.filled r lane g in
      let turned : lane.intake.turned ≡ closed_of r ladder.cut stream =
      sym (append-nil _) ∙ (ap (λ (l : List SegmentPlan). lane.intake.turned ++ l) (sym filled) ∙ (s.2.is_at.made ∙ ap (λ (o : Option Stop). made_of o r ladder.cut stream) goes_on)) in
      λ i. record { rendition = ready.rendition i; settings = ready.settings i; stream = ready.stream i; ended = ready.going i; turned = turned i; filled = filled i }

  -- what was due was given in part
  pub due-cut : (rounds r : ℕ) (before now : List X) (lanes : List Lane) (shown : List Shown) (x y z : Y) (b c : X) (lane moved : Lane)
      → slice_get now r ≡ Some b → slice_get lanes r ≡ Some lane → lane.stop ≡ None → (turn : IsTurned input b c lane moved)
      → (moved.stop ≡ Some Read → moved.intake ≡ record lane.intake { ended = true }) → (moved.intake.filled ≡ [] → is_good moved.stop ≡ false → ⊥)
      → (d : NothingDue (run_of input out most_reads before now x y) ladder (turns_of rounds r) lanes shown)
      → HasRead rounds r before now lanes shown x y c moved d turn.piece
      → ((parts : List Part) → AreNextPlans ladder r parts shown moved.intake.filled → PutSome out y z (blocks ladder parts (due r moved)))
      → rounds < most_reads → IsAllowed ladder
      → IsCutAtOnce (run_of input out most_reads before (set now r c) x z) ladder
  due-cut rounds r before now lanes shown x y z b c lane moved f g goes_on turn unread owing d h given below allowed =
      let w = h.world in
      let parts = parts-of ladder w.events in
      let part = due-part ladder r parts shown moved h.next.goes_on in
      let whole = ap (λ (p : Part). p.plans) part ∙ (ap (λ (l : List SegmentPlan). l ++ moved.intake.filled) h.gap ∙ h.made) in
      let cut = (world-ungiven X Y input out most_reads ladder (turns_of rounds (r + 1)) r before (set now r c) (set lanes r moved) shown _ x y z moved (due r moved)
      (set-there lanes r moved h.within) (λ k. omega (arith, turns-most rounds (r + 1) k, below)) allowed w (due-are-of ladder r parts shown moved h.next.goes_on) (given parts h.next)
      (record { plans = ([], sym (append-nil _ ∙ whole)); ended = λ e. (sym (ap (λ (p : Part). p.ended) part) ∙ e, whole) })).0 in
      cut-at-once X Y input out most_reads ladder rounds r r before now (set now r c) lanes shown x y z turn.piece d (omega (arith, h.within, d.world.same_lanes)) turn.read.short
      (unfailed-yet rounds r before now lanes shown x y b c lane f g goes_on (unfailed-turn b c lane moved turn (d.filled r lane g) unread owing) d) (
        c,
        set-there now r c (slice_get_within now r b f),
        inr (was-due X input ladder r (stream_at d.world.streams r) b c lane moved turn
            (open-at rounds r before now lanes shown x y b lane f g goes_on d) (d.filled r lane g) owing),
      )
      (record {
        cut = cut.cut;
        streams_are = cut.streams_are ∙ h.streams_are;
        given = (cut.given.0, cut.given.1 ∙ ap (λ events. blocks ladder (none_of ladder) events ++ cut.given.0) h.events_are);
      })

  -- want of memory stopped the run when it had read
  pub read-cut : (rounds r : ℕ) (before now : List X) (lanes : List Lane) (shown : List Shown) (x y : Y) (b c : X) (lane : Lane) (piece : List ℕ)
      → slice_get now r ≡ Some b → slice_get lanes r ≡ Some lane → lane.stop ≡ None → IsRead input b c piece → BringsWant input c lane.intake piece
      → input.failures c ≡ input.failures b → ((s more : List ℕ) → IsBeginning (closed_of r ladder.cut s) (closed_of r ladder.cut (s ++ more)))
      → rounds < most_reads → IsAllowed ladder
      → NothingDue (run_of input out most_reads before now x y) ladder (turns_of rounds r) lanes shown
      → IsCutAtOnce (run_of input out most_reads before (set now r c) x y) ladder
  read-cut rounds r before now lanes shown x y b c lane piece f g goes_on read wants unfailed grow below allowed d =
      cut-at-once X Y input out most_reads ladder rounds r r before now (set now r c) lanes shown x y y piece d (omega (arith, slice_get_within lanes r lane g, d.world.same_lanes)) read.short
      (unfailed-yet rounds r before now lanes shown x y b c lane f g goes_on unfailed d)
      (c, set-there now r c (slice_get_within now r b f), inl (subst (λ (t : Taken). BringsWant input c t piece) (taken-at rounds r before now lanes shown x y b lane f g goes_on d) wants))
      (world-unread X Y input out most_reads ladder (turns_of rounds r) r before now lanes shown _ x y b c lane piece f g goes_on read unfailed grow
      (omega (arith, turns-now rounds r, below)) (λ k. omega (arith, turns-most rounds r k, below)) allowed d.world).0

  -- rendition r had stopped
  pub due-skip : (rounds r : ℕ) (before now : List X) (lanes : List Lane) (shown : List Shown) (x y : Y) (lane : Lane)
      → slice_get lanes r ≡ Some lane → (lane.stop ≡ None → ⊥)
      → NothingDue (run_of input out most_reads before now x y) ladder (turns_of rounds r) lanes shown → NothingDue (run_of input out most_reads before now x y) ladder (turns_of rounds (r + 1)) lanes shown
  due-skip rounds r before now lanes shown x y lane g stopped d =
      let v = world-skip X Y input out most_reads ladder (turns_of rounds r) (turns_of rounds (r + 1)) r before now lanes shown _ x y lane g stopped (turns-more rounds r) (turns-other rounds r) d.world in
      record { world = v.0; filled = d.filled; ended = λ k l at. ap (λ events. (part_at (parts-of ladder events) k).ended) v.1 ∙ d.ended k l at }

  -- each rendition had its turn
  pub due-round : (rounds n : ℕ) (before now : List X) (lanes : List Lane) (shown : List Shown) (x y : Y) → length ladder.renditions ≤ n
      → NothingDue (run_of input out most_reads before now x y) ladder (turns_of rounds n) lanes shown → NothingDue (run_of input out most_reads before now x y) ladder (turns_of (rounds + 1) 0) lanes shown
  due-round rounds n before now lanes shown x y all d =
      let v = world-round X Y input out most_reads ladder (turns_of rounds n) (turns_of (rounds + 1) 0) before now lanes shown _ x y (λ k below. turns-all rounds n k (omega (arith, below, all))) d.world in
      record { world = v.0; filled = d.filled; ended = λ k l at. ap (λ events. (part_at (parts-of ladder events) k).ended) v.1 ∙ d.ended k l at }

  -- before the first turn
  pub due-first : (before : List X) (lanes : List Lane) (shown : List Shown) (x : Y) → length before ≡ length ladder.renditions → length lanes ≡ length ladder.renditions
      → ((k : ℕ) (lane : Lane) → slice_get lanes k ≡ Some lane → IsFirst k ladder.cut lane) → shown ≡ shown_all ladder (none_of ladder)
      → ((k : ℕ) → closed_of k ladder.cut [] ≡ [])
      → NothingDue (run_of input out most_reads before before x x) ladder (turns_of 0 0) lanes shown
  unfolding after_all
  due-first before lanes shown x same each first is none =
      let v = world-first X Y input out most_reads ladder (turns_of 0 0) before lanes shown x same each first is none (λ k below. turns-none 0 k) in
      record {
        world = v.0;
        filled = λ k lane at. ap (λ (t : Taken). t.filled) (first k lane at).intake;
        ended = λ k lane at.
            ap (λ events. (part_at (parts-of ladder events) k).ended) v.1
            ∙ (ap (λ (p : Part). p.ended) (at-default (length ladder.renditions) k no_part) ∙ ap is_good (sym (first k lane at).stop));
      }
