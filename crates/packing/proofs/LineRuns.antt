-- A run of one rendition whose outlet writes lines.
use Rattle.std.proofs.Common.{◌≡◌, refl, sym, ap, subst, ◌∙◌, ℕ, ◌+◌, ◌^◌, zero, suc, List, [], ◌∷◌, ◌++◌, inl, inr, ◌⊎◌, length, replicate, get_or}
use Rattle.std.specs.Prelude.{Option, Some, None, slice_get}
use Rattle.std.specs.Io.KnownBytes.{Consumes, Appends}
use Rattle.std.proofs.KnownBytes.{Appends-nil}
use Rattle.item_io.specs.Items.{ItemValue}
use Rattle.item_io.specs.Outlets.{Grows, BreaksOff}
use Rattle.item_io.specs.ItemLines.{LineState, HoldsLines, HoldsBeginning, WritesUpTo, lines_of}
use Rattle.ladder_items.specs.declared.fault.PackFault.{PackFault}
use Rattle.ladder_items.specs.declared.fault.PackFault.TheVariants.{Held, NoMemory, Outlet}
use Rattle.ingest.specs.declared.lane.Stop.{Stop}
use Rattle.ingest.specs.declared.lane.Stop.TheVariants.{Good, Cut, Read as ReadFailed}
use Rattle.ladder_items.specs.declared.report.Report.{Report}
use Rattle.ladder_items.specs.Ladder.{Ladder}
use Rattle.ladder_items.specs.Items.{Part, no_part, part_at}
use Rattle.ladder_items.specs.Weave.{none_of, AreLegal, after_all, blocks}
use Rattle.ingest.specs.Streams.{closed_of}
use Rattle.item_io.specs.Views.{OutletView, SourceView, outlet_view}
use Rattle.ingest.specs.Inputs.{SourceSays}
use Rattle.ladder_items.specs.Runs.{run_of}
use Rattle.ladder_items.specs.Putting.{PutAll}
use Rattle.ladder_items.specs.World.{stream_at}
use Rattle.ladder_items.specs.Packed.{IsPacked, IsCutShort, HasHalted, IsRefused, IsLeft, of_run, FaultSays}
use Rattle.ladder_items.proofs.Endings.{says-as, says-by}
use Rattle.packing.specs.StreamPacking.{WritesPacked, FaultStands, StopsPacking, CutsPackingOff, WantsMemory, FailsToPut, RefusesSettings, of_one, PackingSays, NoneFailed, StopCounts, of_counts, CountsSay}

-- the only element of a list is at its front
only-at : {X : Type 0} (a x : X) (r : ℕ) → slice_get (a ∷ []) r ≡ Some x → r ≡ 0
only-at a x zero is = refl
only-at a x (suc r) is = cc

-- no read failed of the only rendition, where none did of the one in whose turn the run was stopped
pub none-read : {X : Type 0} (input : SourceView X) (a b : X) (r : ℕ) → (e : X) × (slice_get (a ∷ []) r ≡ Some e)
    → ((e f : X) → slice_get (a ∷ []) r ≡ Some e → slice_get (b ∷ []) r ≡ Some f → input.failures f ≡ input.failures e) → input.failures b ≡ input.failures a
none-read input a b r within same =
    let first : r ≡ 0 = only-at a within.0 r within.1 in
    same a b (ap (slice_get (a ∷ [])) first) (ap (slice_get (b ∷ [])) first)

none-at : (n : ℕ) → get_or (replicate n no_part) 0 no_part ≡ no_part
none-at zero = refl
none-at (suc n) = refl

none-consumed : (left : Option (List ℕ)) → Consumes left left []
none-consumed None = tt
none-consumed (Some xs) = refl

-- a run that didn't begin
pub nothing-packed : (ladder : Ladder) (left held : Option (List ℕ)) → WantsMemory ladder left left held held
unfolding AreLegal after_all blocks
nothing-packed ladder left held = record {
  given = [];
  rest = [];
  cut = record {
    stream = [];
    parts = none_of ladder;
    consumed = none-consumed left;
    begun = inr (record { plans = (_, ap (λ (part : Part). part.plans ++ closed_of 0 ladder.cut []) (sym (none-at (length ladder.renditions)))); ended = ap (λ (part : Part). part.ended) (none-at (length ladder.renditions)) });
    weave = record { events = []; legal = tt; parts_are = refl; items_are = refl };
  };
  written = Appends-nil held;
}

-- the one rendition of a run that halted
left-alone : {X Y : Type 0} (input : SourceView X) (out : OutletView Y) (ladder : Ladder) (a b : X) (x y : Y) (r : ℕ) (stop : Option Stop)
    → (h : HasHalted (run_of input out (2 ^ 40) (a ∷ []) (b ∷ []) x y) ladder r stop)
    → (r ≡ 0) × IsLeft input (2 ^ 40) ladder 0 a b stop (stream_at h.streams 0) (part_at h.parts 0)
left-alone input out ladder a b x y r stop h =
    let first : r ≡ 0 = only-at a h.within.0 r h.within.1 in
    let at : h.stops 0 ≡ stop = ap h.stops (sym first) ∙ h.at_r in
    (first, rw at at (h.each 0 a b refl refl))

-- an outlet of lines, whose writer got these bytes
abbrev pub lines_out : {W : Type 0} → (W → Option (List ℕ)) → OutletView (LineState W)
lines_out got = outlet_view (λ o. HoldsLines (got o.writer) o.failures) (λ o. HoldsBeginning (got o.writer)) (λ o. o.failures)

module _ {X W : Type 0} (input : SourceView X) (got : W → Option (List ℕ)) (ladder : Ladder) (a b : X) (x y : LineState W)
    (none_failed : x.failures ≡ 0)
    (whole : (held held_then : Option (List ℕ)) (failures : ℕ) (given : List ItemValue) → Grows (HoldsLines held 0) (HoldsLines held_then failures) given → failures ≡ 0
    → Appends held held_then (lines_of given))
    (broken_off : (held held_then : Option (List ℕ)) (given : List ItemValue) (item : ItemValue) → BreaksOff (HoldsLines held 0) (HoldsBeginning held_then) given item
    → WritesUpTo held held_then given item) where
  written : (given : List ItemValue) → Grows (HoldsLines (got x.writer) x.failures) (HoldsLines (got y.writer) y.failures) given → y.failures ≡ 0
      → Appends (got x.writer) (got y.writer) (lines_of given)
  written given grows none =
      whole (got x.writer) (got y.writer) y.failures given (subst (λ (n : ℕ). Grows (HoldsLines (got x.writer) n) (HoldsLines (got y.writer) y.failures) given) none_failed grows) none

  written-up-to : (given : List ItemValue) (item : ItemValue) → BreaksOff (HoldsLines (got x.writer) x.failures) (HoldsBeginning (got y.writer)) given item
      → WritesUpTo (got x.writer) (got y.writer) given item
  written-up-to given item breaks =
      broken_off (got x.writer) (got y.writer) given item (subst (λ (n : ℕ). BreaksOff (HoldsLines (got x.writer) n) (HoldsBeginning (got y.writer)) given item) none_failed breaks)

  all-written : (given : List ItemValue) → PutAll (lines_out got) x y given → Appends (got x.writer) (got y.writer) (lines_of given)
  all-written given p = written given p.grows (p.unfailed ∙ none_failed)

  pub packed : (report : Report) → IsPacked (run_of input (lines_out got) (2 ^ 40) (a ∷ []) (b ∷ []) x y) ladder report → WritesPacked ladder (input.left a) (input.left b) (got x.writer) (got y.writer)
  packed report p =
      let here = p.each 0 a b refl refl in
      record {
        stream = stream_at p.streams 0;
        parts = p.parts;
        items = p.items;
        read = record { consumed = here.2; at_end = here.3 };
        whole = here.0;
        weave = p.weave;
        written = all-written p.items p.puts;
      }

  cut-off : (p : IsCutShort (run_of input (lines_out got) (2 ^ 40) (a ∷ []) (b ∷ []) x y) ladder) (rest : List ItemValue) → p.some.rest ≡ rest → CutsPackingOff ladder (input.left a) (input.left b) p.some.given rest
  cut-off p rest is =
      let here = p.each 0 a b refl refl in
      record {
        stream = stream_at p.streams 0;
        parts = p.parts;
        consumed = here.2;
        begun = here.0;
        weave = rw (p.some.all ∙ ap (λ items. p.some.given ++ items) is) at p.weave;
      }

  wants-memory : IsCutShort (run_of input (lines_out got) (2 ^ 40) (a ∷ []) (b ∷ []) x y) ladder → y.failures ≡ x.failures → WantsMemory ladder (input.left a) (input.left b) (got x.writer) (got y.writer)
  wants-memory p same = record {
    given = p.some.given;
    rest = p.some.rest;
    cut = cut-off p p.some.rest refl;
    written = written p.some.given p.some.grows (same ∙ none_failed);
  }

  fails-to-put : IsCutShort (run_of input (lines_out got) (2 ^ 40) (a ∷ []) (b ∷ []) x y) ladder → y.failures ≡ x.failures + 1 → FailsToPut ladder (input.left a) (input.left b) (got x.writer) (got y.writer)
  fails-to-put p one =
      let s = p.some.stops none_failed (one ∙ ap (λ n. n + 1) none_failed) in
      record {
        given = p.some.given;
        next = s.item;
        more = s.more;
        cut = cut-off p (s.item ∷ s.more) s.next;
        written = written-up-to p.some.given s.item s.refused;
      }

  stands : (stop : Option Stop) (stream : List ℕ) → SourceSays input 0 ladder.cut stream stop a b → FaultStands stop ladder stream (input.left b)
  stands None stream says = tt
  stands (Some (Good gone)) stream says = says.1
  stands (Some (Cut told)) stream says = says.1
  stands (Some ReadFailed) stream says = tt

  stopped : (r : ℕ) (stop : Option Stop) → HasHalted (run_of input (lines_out got) (2 ^ 40) (a ∷ []) (b ∷ []) x y) ladder r stop
      → (r ≡ 0) × StopsPacking ladder (input.left a) (input.left b) (got x.writer) (got y.writer) stop
  stopped r stop h =
      let alone = left-alone input (lines_out got) ladder a b x y r stop h in
      let here = alone.1 in (
        alone.0,
        record {
          stream = stream_at h.streams 0;
          parts = h.parts;
          items = h.items;
          consumed = here.read;
          stands = stands stop (stream_at h.streams 0) here.says;
          given = here.given;
          weave = h.weave;
          written = all-written h.items h.puts;
        },
      )

  refused : IsRefused (run_of input (lines_out got) (2 ^ 40) (a ∷ []) (b ∷ []) x y) ladder → RefusesSettings ladder (input.left a) (input.left b) (got x.writer) (got y.writer)
  refused p = record {
    refused = λ so. p.refused (so.0, sym so.1);
    unread = ap (λ (xs : List X). input.left (get_or xs 0 a)) p.unread;
    unwritten = all-written [] p.unput;
  }

  pub says : (fault : PackFault) → ((r n : ℕ) → fault ≡ Held r n → ⊥) → FaultSays (run_of input (lines_out got) (2 ^ 40) (a ∷ []) (b ∷ []) x y) ladder fault
      → PackingSays ladder (input.left a) (input.left b) (got x.writer) (got y.writer) fault
  says fault never_held s =
      says-as (of_run (run_of input (lines_out got) (2 ^ 40) (a ∷ []) (b ∷ []) x y) ladder) (of_one ladder (input.left a) (input.left b) (got x.writer) (got y.writer)) fault
      refused stopped (λ p. fails-to-put p.0 p.1) (λ p. wants-memory p.0 p.1) (λ r n is p. never_held r n is) s

module _ {X Y : Type 0} (input : SourceView X) (out : OutletView Y) (ladder : Ladder) (a b : X) (x y : Y)
    (unread : input.reads a ≡ 0) (unfailed : input.failures a ≡ 0) (none_failed : out.failures x ≡ 0) where
  pub packed-counts : (report : Report) → IsPacked (run_of input out (2 ^ 40) (a ∷ []) (b ∷ []) x y) ladder report → NoneFailed (input.failures b) (out.failures y)
  packed-counts report p = record { reads = (p.each 0 a b refl refl).4 ∙ unfailed; puts = p.puts.unfailed ∙ none_failed }

  -- the counts where the rendition stopped this way
  halted : (r : ℕ) (stop : Option Stop) → HasHalted (run_of input out (2 ^ 40) (a ∷ []) (b ∷ []) x y) ladder r stop → StopCounts stop (input.reads b) (input.failures b) (out.failures y)
  halted r None h =
      let here = (left-alone input out ladder a b x y r None h).1 in
      (here.limit refl ∙ ap (λ n. n + 2 ^ 40) unread, record { reads = here.says ∙ unfailed; puts = h.puts.unfailed ∙ none_failed })
  halted r (Some (Good gone)) h =
      record { reads = (left-alone input out ladder a b x y r _ h).1.says.0 ∙ unfailed; puts = h.puts.unfailed ∙ none_failed }
  halted r (Some (Cut told)) h =
      record { reads = (left-alone input out ladder a b x y r _ h).1.says.0 ∙ unfailed; puts = h.puts.unfailed ∙ none_failed }
  halted r (Some ReadFailed) h =
      ((left-alone input out ladder a b x y r _ h).1.says ∙ ap (λ n. n + 1) unfailed, h.puts.unfailed ∙ none_failed)

  untouched : IsRefused (run_of input out (2 ^ 40) (a ∷ []) (b ∷ []) x y) ladder → (input.reads b ≡ 0) × NoneFailed (input.failures b) (out.failures y)
  untouched p =
      let same : b ≡ a = ap (λ (xs : List X). get_or xs 0 a) p.unread in
      (ap input.reads same ∙ unread, record { reads = ap input.failures same ∙ unfailed; puts = p.unput.unfailed ∙ none_failed })

  pub counts : (fault : PackFault) → ((r n : ℕ) → fault ≡ Held r n → ⊥) → ((fault ≡ Outlet) ⊎ (fault ≡ NoMemory) → input.failures b ≡ 0)
      → FaultSays (run_of input out (2 ^ 40) (a ∷ []) (b ∷ []) x y) ladder fault
      → CountsSay (input.reads b) (input.failures b) (out.failures y) fault
  counts fault never_held none_read s =
      says-by (of_run (run_of input out (2 ^ 40) (a ∷ []) (b ∷ []) x y) ladder) (of_counts (input.reads b) (input.failures b) (out.failures y)) fault
      untouched halted (λ is p. (none_read (inl is), p.1 ∙ ap (λ n. n + 1) none_failed))
      (λ is p. record { reads = none_read (inr is); puts = p.1 ∙ none_failed }) (λ r n is p. never_held r n is) s
