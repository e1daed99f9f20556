-- A run that is stopped at once.
use Rattle.std.specs.Io.KnownBytes.{IsAtEnd}
use Rattle.std.proofs.Common.{◌≡◌, ◌∙◌, ◌⊎◌, inl, inr, ℕ, ◌<◌, ◌≤◌, Bool, true, false, List, [], ◌∷◌, ◌++◌, length, replicate, Option, Some, None, slice_get, refl, ap, sym, subst, arith}
use Rattle.std.proofs.Math.ListN.{set}
use Rattle.std.proofs.lemmas.List.{append-nil, length-append, get_or-set_same, get_or-set_other}
use Rattle.std.proofs.lemmas.Option.{same_Some, slice_get_within}
use Rattle.cutter.specs.Plans.{SegmentPlan}
use Rattle.cutter.specs.declared.settings.CutSettings.{CutSettings}
use Rattle.ingest.specs.declared.lane.Lane.{Lane}
use Rattle.ingest.specs.declared.lane.Stop.{Stop}
use Rattle.ingest.specs.declared.lane.Stop.TheVariants.{Good, Cut, Read as ReadFailed}
use Rattle.ingest.specs.declared.fault.StreamFault.TheVariants.{NoProgram as HasNoProgram, NoStart as HasNoStart, LongSegment as IsLong, BigSegment as IsBig, Limit as PassesLimit}
use Rattle.item_io.specs.Views.{OutletView, SourceView}
use Rattle.ingest.specs.Inputs.{BringsWant, SourceSays}
use Rattle.ingest.specs.Lanes.{StopsBy, IsOpen, IsTurned, is_good, made_of}
use Rattle.ingest.specs.Streams.{closed_of, fault_of}
use Rattle.ladder_items.specs.declared.fault.PackFault.{PackFault}
use Rattle.ladder_items.specs.declared.fault.PackFault.TheVariants.{NoMemory, Outlet as OutletFault}
use Rattle.ladder_items.specs.Ladder.{Ladder, IsAllowed}
use Rattle.ladder_items.specs.Shown.{Shown}
use Rattle.ladder_items.specs.Items.{Part, no_part, part_at}
use Rattle.ladder_items.specs.Weave.{AreLegal, after_all, blocks, none_of}
use Rattle.ladder_items.specs.Giving.{rows}
use Rattle.ladder_items.specs.Runs.{run_of}
use Rattle.ladder_items.specs.Lanes.{IsClosed, HasGiven}
use Rattle.ladder_items.specs.World.{NothingDue, stream_at, turns_of}
use Rattle.ladder_items.specs.Packed.{told_of}
use Rattle.ladder_items.proofs.Elsewhere.{some-at}
use Rattle.ladder_items.proofs.Stages.{stage-given, turns-none}
use Rattle.ladder_items.proofs.Worlds.{CutBehind, parts-of, at-default, world-stop, nothing-given}
use Rattle.ladder_items.specs.Standing.{NoneStands}
use Rattle.serial_run.specs.Dues.{ends}
use Rattle.serial_run.specs.OneThread.{IsCutAtOnce, WasDue, taken_behind}

-- no end of a rendition is told by a fault that stops a run at once
told-lasting : (k : ℕ) (stop : Option Stop) (e d : PackFault) → told_of k stop ≡ Some e → e ≡ d → told_of k stop ≡ Some d
told-lasting k stop e d told is = told ∙ ap (λ (f : PackFault). Some f) is

told-no_memory : (k : ℕ) (stop : Option Stop) → told_of k stop ≡ Some NoMemory → ⊥
told-no_memory k None told = cc
told-no_memory k (Some (Good gone)) told = cc
told-no_memory k (Some ReadFailed) told = cc
told-no_memory k (Some (Cut HasNoProgram)) told = cc
told-no_memory k (Some (Cut HasNoStart)) told = cc
told-no_memory k (Some (Cut (IsLong m))) told = cc
told-no_memory k (Some (Cut (IsBig m))) told = cc
told-no_memory k (Some (Cut PassesLimit)) told = cc

told-no_outlet : (k : ℕ) (stop : Option Stop) → told_of k stop ≡ Some OutletFault → ⊥
told-no_outlet k None told = cc
told-no_outlet k (Some (Good gone)) told = cc
told-no_outlet k (Some ReadFailed) told = cc
told-no_outlet k (Some (Cut HasNoProgram)) told = cc
told-no_outlet k (Some (Cut HasNoStart)) told = cc
told-no_outlet k (Some (Cut (IsLong m))) told = cc
told-no_outlet k (Some (Cut (IsBig m))) told = cc
told-no_outlet k (Some (Cut PassesLimit)) told = cc

pub told-unsudden : (k : ℕ) (stop : Option Stop) (e : PackFault) → told_of k stop ≡ Some e → (e ≡ OutletFault) ⊎ (e ≡ NoMemory) → ⊥
told-unsudden k stop e told (inl outlet) = told-no_outlet k stop (told-lasting k stop e OutletFault told outlet)
told-unsudden k stop e told (inr scarce) = told-no_memory k stop (told-lasting k stop e NoMemory told scarce)

-- at a good end no byte is left, and the stream has no fault
good-end : {X : Type 0} (input : SourceView X) (k : ℕ) (s : CutSettings) (stream : List ℕ) (stop : Option Stop) (a b : X)
    → told_of k stop ≡ None → StopsBy stop k s stream → SourceSays input k s stream stop a b → (fault_of k s stream ≡ None) × IsAtEnd (input.left b)
good-end input k s stream None a b good stops says = cc
good-end input k s stream (Some (Good gone)) a b good stops says = (stops.0, says.1)
good-end input k s stream (Some (Cut told)) a b good stops says = cc
good-end input k s stream (Some ReadFailed) a b good stops says = cc

good-left : {X : Type 0} (input : SourceView X) (k : ℕ) (s : CutSettings) (stream : List ℕ) (stop : Option Stop) (a b : X)
    → SourceSays input k s stream stop a b → is_good stop ≡ true → IsAtEnd (input.left b)
good-left input k s stream None a b says good = cc
good-left input k s stream (Some (Good gone)) a b says good = says.1
good-left input k s stream (Some (Cut told)) a b says good = cc
good-left input k s stream (Some ReadFailed) a b says good = cc

no-more : {A : Type 0} (xs ys : List A) → xs ≡ xs ++ ys → ys ≡ []
no-more xs [] same = refl
no-more xs (y ∷ ys) same = absurd (omega (arith, ap length same, length-append xs (y ∷ ys)))

-- where nothing is due no segment is, and no end
pub due-none : (r : ℕ) (plans : List SegmentPlan) (good : Bool) → rows r plans ++ ends r good ≡ [] → (plans ≡ []) × (good ≡ false)
due-none r [] true none = cc
due-none r [] false none = (refl, refl)
due-none r (p ∷ plans) good none = cc

-- what was due of a rendition behind its turn
module _ (X : Type 0) (input : SourceView X) (ladder : Ladder) where
  abbrev Moved : Option Stop → List SegmentPlan → ℕ → CutSettings → List ℕ → List ℕ → Type 0
  Moved stop plans r s stream piece = StopsBy stop r s (stream ++ piece) × (made_of stop r s (stream ++ piece) ≡ closed_of r s stream ++ plans)

  pub was-due : (r : ℕ) (stream : List ℕ) (b c : X) (lane moved : Lane) (turn : IsTurned input b c lane moved) → IsOpen r ladder.cut stream lane.intake
      → lane.intake.filled ≡ [] → (moved.intake.filled ≡ [] → is_good moved.stop ≡ false → ⊥) → WasDue input c ladder r stream turn.piece
  was-due r stream b c lane moved turn ready filled owing =
      let t = turn.takes in
      let at : Moved moved.stop t.plans lane.intake.rendition lane.intake.settings lane.intake.stream turn.piece = (t.stops, t.made) in
      let by_rendition = subst (λ (k : ℕ). Moved moved.stop t.plans k lane.intake.settings lane.intake.stream turn.piece) ready.rendition at in
      let by_settings = subst (λ (s : CutSettings). Moved moved.stop t.plans r s lane.intake.stream turn.piece) ready.settings by_rendition in
      let here = subst (λ (l : List ℕ). Moved moved.stop t.plans r ladder.cut l turn.piece) ready.stream by_settings in
      record {
        stop = moved.stop;
        stops = here.0;
        good = good-left input lane.intake.rendition lane.intake.settings _ moved.stop b c turn.says;
        some = λ both.
            let none = no-more (closed_of r ladder.cut stream) t.plans (sym both.0 ∙ here.1) in
            owing (t.filled ∙ (ap (λ (l : List SegmentPlan). l ++ t.plans) filled ∙ none)) both.1;
      }

-- no read of a rendition failed that came to its good end
good-unfailed : {X : Type 0} (input : SourceView X) (k r : ℕ) (s : CutSettings) (stream : List ℕ) (stop : Option Stop) (a b : X)
    → told_of k stop ≡ None → SourceSays input r s stream stop a b → input.failures b ≡ input.failures a
good-unfailed input k r s stream None a b good says = cc
good-unfailed input k r s stream (Some (Good gone)) a b good says = says.0
good-unfailed input k r s stream (Some (Cut told)) a b good says = says.0
good-unfailed input k r s stream (Some ReadFailed) a b good says = cc

module _ (X Y : Type 0) (input : SourceView X) (out : OutletView Y) (most_reads : ℕ) (ladder : Ladder) where
  -- what a rendition had given
  given-at : (rounds next : ℕ) (before now : List X) (lanes : List Lane) (shown : List Shown) (x y : Y)
      (d : NothingDue (run_of input out most_reads before now x y) ladder (turns_of rounds next) lanes shown) (k : ℕ) → k < length ladder.renditions
      → (stop : Option Stop) × HasGiven stop ladder k (stream_at d.world.streams k) (part_at (parts-of ladder d.world.events) k)
  given-at rounds next before now lanes shown x y d k within =
      let w = d.world in
      let a = some-at before k (omega (arith, within, w.same_before)) in
      let b = some-at now k (omega (arith, within, w.same_now)) in
      let m = some-at lanes k (omega (arith, within, w.same_lanes)) in
      (m.0.stop, stage-given X input ladder k _ a.0 b.0 m.0 _ _ (d.filled k m.0 m.1) (d.ended k m.0 m.1) (w.each k a.0 b.0 m.0 a.1 b.1 m.1))

  -- a turn of rendition r was cut off, in which it had read this piece
  pub cut-at-once : (rounds next r : ℕ) (before now after : List X) (lanes : List Lane) (shown : List Shown) (x y z : Y) (piece : List ℕ)
      (d : NothingDue (run_of input out most_reads before now x y) ladder (turns_of rounds next) lanes shown) → r < length ladder.renditions → length piece ≤ 18800
      → ((a b : X) → slice_get before r ≡ Some a → slice_get after r ≡ Some b → input.failures b ≡ input.failures a)
      → (e : X) × (slice_get after r ≡ Some e) × (BringsWant input e (taken_behind ladder r (stream_at d.world.streams r)) piece ⊎ WasDue input e ladder r (stream_at d.world.streams r) piece)
      → CutBehind (run_of input out most_reads before after x z) ladder (set d.world.streams r (stream_at d.world.streams r ++ piece)) (blocks ladder (none_of ladder) d.world.events)
      → IsCutAtOnce (run_of input out most_reads before after x z) ladder
  cut-at-once rounds next r before now after lanes shown x y z piece d within short unfailed why c =
      let w = d.world in
      let stream = stream_at w.streams r ++ piece in
      let here : r < length w.streams = omega (arith, within, w.same_streams) in
      record {
        cut = c.cut;
        in_turn = r;
        within = some-at before r (omega (arith, within, w.same_before));
        at_once = record {
          earlier = w.streams;
          events = w.events;
          legal = w.legal;
          given_before = c.given;
          each = λ k within. given-at rounds next before now lanes shown x y d k within;
          piece = (piece, short, ap (λ (l : List (List ℕ)). stream_at l r) c.streams_are ∙ get_or-set_same w.streams r stream [] here);
          others = λ k q. ap (λ (l : List (List ℕ)). stream_at l k) c.streams_are ∙ get_or-set_other w.streams r k stream [] q;
        };
        why = inl why;
        unfailed = unfailed;
      }

  -- the run was stopped behind the good ends of all renditions
  pub stop-at-once : (rounds : ℕ) (before now : List X) (lanes : List Lane) (shown : List Shown) (x y : Y) → rounds ≤ most_reads
      → IsAllowed ladder → NoneStands lanes → NothingDue (run_of input out most_reads before now x y) ladder (turns_of rounds 0) lanes shown → IsCutAtOnce (run_of input out most_reads before now x y) ladder
  stop-at-once rounds before now lanes shown x y few allowed good d =
      let w = d.world in
      let c = (world-stop X Y input out most_reads ladder (turns_of rounds 0) before now lanes shown _ x y (λ k. omega (arith, turns-none rounds k, few)) allowed w).0 in
      record {
        cut = c.cut;
        in_turn = 0;
        within = some-at before 0 (omega (arith, allowed.within.renditions.0, w.same_before));
        at_once = record {
          earlier = w.streams;
          events = w.events;
          legal = w.legal;
          given_before = c.given;
          each = λ k within. given-at rounds 0 before now lanes shown x y d k within;
          piece = ([], omega arith, ap (λ (l : List (List ℕ)). stream_at l 0) c.streams_are ∙ sym (append-nil _));
          others = λ k q. ap (λ (l : List (List ℕ)). stream_at l k) c.streams_are;
        };
        why = inr (inr (λ k within.
            let a = some-at before k (omega (arith, within, w.same_before)) in
            let m = some-at lanes k (omega (arith, within, w.same_lanes)) in
            let ends = λ (b : X) (at_b : slice_get now k ≡ Some b).
            let u = w.each k a.0 b m.0 a.1 at_b m.1 in
            good-end input k ladder.cut (stream_at w.streams k) m.0.stop a.0 b (good k m.0 m.1) u.is_at.stops u.says in
            let b = some-at now k (omega (arith, within, w.same_now)) in
            (ap (λ (l : List (List ℕ)). fault_of k ladder.cut (stream_at l k)) c.streams_are ∙ (ends b.0 b.1).0, λ e at_e. (ends e at_e).1)));
        unfailed = λ a b at_a at_b.
            let m = some-at lanes 0 (omega (arith, slice_get_within before 0 a at_a, w.same_before, w.same_lanes)) in
            good-unfailed input 0 0 ladder.cut _ m.0.stop a b (good 0 m.0 m.1) (w.each 0 a b m.0 at_a at_b m.1).says;
      }

  -- nothing was read or given
  pub none-at-once : (before : List X) (x : Y) → 0 < length before → ((k : ℕ) → closed_of k ladder.cut [] ≡ [])
      → IsCutAtOnce (run_of input out most_reads before before x x) ladder
  unfolding after_all blocks AreLegal
  none-at-once before x some none =
      let n = length ladder.renditions in
      let c = (nothing-given X Y input out most_reads ladder before x none).0 in
      record {
        cut = c.cut;
        in_turn = 0;
        within = some-at before 0 some;
        at_once = record {
          earlier = replicate n [];
          events = [];
          legal = tt;
          given_before = c.given;
          each = λ k within. (
            None,
            subst (λ (l : List ℕ). IsClosed ladder k l (part_at (none_of ladder) k)) (sym (at-default n k []))
                (subst (λ (p : Part). IsClosed ladder k [] p) (sym (at-default n k no_part)) (record { plans = sym (none k); ended = refl })),
          );
          piece = ([], omega arith, ap (λ (l : List (List ℕ)). stream_at l 0) c.streams_are ∙ sym (append-nil _));
          others = λ k q. ap (λ (l : List (List ℕ)). stream_at l k) c.streams_are;
        };
        why = inr (inl (record { unread = refl; unput = refl }));
        unfailed = λ a b at_a at_b. ap input.failures (same_Some b a (sym at_b ∙ at_a));
      }
