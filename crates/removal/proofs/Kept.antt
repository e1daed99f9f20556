-- A run whose outlet puts its items into a folder from which old segments go.
use Rattle.std.specs.Prelude.{Err, IfErr, IfOk, Ok, OnOk, Option, Result}
use Rattle.std.proofs.Common.{◌≡◌, refl, sym, ap, subst, ◌∙◌, ℕ, true, List, [], ◌∷◌, ◌++◌, inl, inr, ◌⊎◌, length, append-nil, append_assoc}
use Rattle.folder.specs.Moves.{Move}
use Rattle.item_io.specs.Blocks.{AreBlocks}
use Rattle.item_io.specs.Items.{ItemValue}
use Rattle.item_io.specs.Views.{SourceView}
use Rattle.live_board.specs.Snapshots.{SnapshotFacts}
use Rattle.live_board.specs.Counts.{counts_shown}
use Rattle.ladder_items.specs.declared.report.Report.{Report}
use Rattle.ladder_items.specs.Ladder.{IsAllowed, Ladder}
use Rattle.ladder_items.specs.Packed.{HasHalted, IsCutShort, IsPacked}
use Rattle.ladder_items.specs.Putting.{PutAll, PutSome}
use Rattle.ladder_items.specs.Items.{Part}
use Rattle.ladder_items.specs.Weave.{AreLegal, Weaves, after_all, blocks, none_of}
use Rattle.ingest.specs.declared.lane.Stop.{Stop}
use Rattle.ladder_items.proofs.WholeBlocks.{weaves-whole}
use Rattle.rounds.specs.Shown.{Fits, IsPackedShown, of_shown}
use Rattle.keeping.specs.Keepings.{AreTold, KeepingValue}
use Rattle.keeping.specs.Holding.{KeepingState, KeptBy, KeptUpTo}
use Rattle.keeping.specs.InPlace.{EachKillLeavesUnlisted, EachLossOfPowerLeavesUnlisted, FramesFollow, NoneIsListed}
use Rattle.keeping.proofs.Left.{held-first, held-of, killed-held, killed-refused, left-more, lost-held, lost-refused}
use Rattle.keeping.proofs.Between.{holds-unlisted}
use Rattle.packing.specs.LadderPacking.{LadderSays, TurnsAway}
use Rattle.packing.specs.declared.destination.Destination.{Destination}
use Rattle.commands.specs.declared.packing_fault.LadderPackingFault.{LadderPackingFault}
use Rattle.commands.specs.declared.packing_fault.LadderPackingFault.TheVariants.{Packing, Unwritten, NoMemory}
use Rattle.packing.proofs.FolderRuns.{says-any}
use Rattle.removal.specs.Removing.{LeavesKept, kept_run, kept_view, new_keeping}
use Rattle.removal.proofs.Following.{weaves-follow}

module _ {X F : Type 0} (input : SourceView X) (made : F → List Move) (ladder : Ladder) (most : ℕ) (before now : List X) (d : Destination F) (renditions : List KeepingValue) (y : KeepingState F)
    (fresh : made d.folder ≡ []) (untold : AreTold renditions []) where
  at-first : KeptBy made (new_keeping d renditions) (held-of d.syncs [])
  at-first = held-first d.syncs (made d.folder) [] renditions fresh refl untold

  abbrev HoldsThen : List ItemValue → Type 0
  HoldsThen given = KeptBy made y (held-of d.syncs given)

  abbrev BreaksThen : List ItemValue → ItemValue → Type 0
  BreaksThen given item = KeptUpTo made y (held-of d.syncs given) item

  -- the items given were put, of items in blocks
  killed-given : (items given rest : List ItemValue) → AreBlocks items → FramesFollow items → items ≡ given ++ rest → HoldsThen given → y.files.failures ≡ 0 → EachKillLeavesUnlisted (made y.files.folder) items y.renditions
  killed-given items given rest whole follow all h well files left may =
      left-more items given rest y.renditions files left all
      (killed-held d.syncs y.files.syncs (made y.files.folder) y.renditions items given rest whole follow all y.files.staged y.files.failures h well files left may)

  lost-given : (items given rest : List ItemValue) → AreBlocks items → FramesFollow items → items ≡ given ++ rest → HoldsThen given → y.files.failures ≡ 0 → d.syncs ≡ true →
      EachLossOfPowerLeavesUnlisted (made y.files.folder) items y.renditions
  lost-given items given rest whole follow all h well synced files left may =
      left-more items given rest y.renditions files left all
      (lost-held d.syncs y.files.syncs (made y.files.folder) y.renditions items given rest whole follow all y.files.staged y.files.failures h well synced files left may)

  -- the next one was refused
  killed-broken : (items given more : List ItemValue) (item : ItemValue) → AreBlocks items → FramesFollow items → items ≡ given ++ item ∷ more → BreaksThen given item →
      EachKillLeavesUnlisted (made y.files.folder) items y.renditions
  killed-broken items given more item whole follow all h files left may =
      left-more items (given ++ item ∷ []) more y.renditions files left (all ∙ sym (append_assoc given (item ∷ []) more))
      (killed-refused d.syncs y.files.syncs (made y.files.folder) y.renditions items given more whole follow item all h files left may)

  lost-broken : (items given more : List ItemValue) (item : ItemValue) → AreBlocks items → FramesFollow items → items ≡ given ++ item ∷ more → BreaksThen given item → d.syncs ≡ true →
      EachLossOfPowerLeavesUnlisted (made y.files.folder) items y.renditions
  lost-broken items given more item whole follow all h synced files left may =
      left-more items (given ++ item ∷ []) more y.renditions files left (all ∙ sym (append_assoc given (item ∷ []) more))
      (lost-refused d.syncs y.files.syncs (made y.files.folder) y.renditions items given more whole follow item all h synced files left may)

  -- all of a weave were put
  kept-all : (parts : List Part) (items : List ItemValue) → Weaves ladder parts items → AreBlocks items → PutAll (kept_view made) (new_keeping d renditions) y items →
      LeavesKept ladder d.syncs (made y.files.folder) y.renditions
  kept-all parts items weave whole p =
      let h : HoldsThen items = p.grows.follows (held-of d.syncs []) at-first in
      record {
        parts = parts;
        items = items;
        weave = weave;
        killed = killed-given items items [] whole (weaves-follow ladder parts items whole weave) (sym (append-nil items)) h p.unfailed;
        lost = λ synced. lost-given items items [] whole (weaves-follow ladder parts items whole weave) (sym (append-nil items)) h p.unfailed synced;
      }

  -- some of them, and how many puts failed: none, or the last
  kept-some : (parts : List Part) (items : List ItemValue) → Weaves ladder parts items → AreBlocks items → (s : PutSome (kept_view made) (new_keeping d renditions) y items) →
      (y.files.failures ≡ 0) ⊎ (y.files.failures ≡ 1) → LeavesKept ladder d.syncs (made y.files.folder) y.renditions
  kept-some parts items weave whole s (inl none) =
      let h : HoldsThen s.given = s.grows.follows (held-of d.syncs []) at-first in
      record {
        parts = parts;
        items = items;
        weave = weave;
        killed = killed-given items s.given s.rest whole (weaves-follow ladder parts items whole weave) s.all h none;
        lost = λ synced. lost-given items s.given s.rest whole (weaves-follow ladder parts items whole weave) s.all h none synced;
      }
  kept-some parts items weave whole s (inr one) =
      let stop = s.stops refl one in
      let all : items ≡ s.given ++ stop.item ∷ stop.more = s.all ∙ ap (λ (l : List ItemValue). s.given ++ l) stop.next in
      let h : BreaksThen s.given stop.item = stop.refused.follows (held-of d.syncs []) at-first in
      record {
        parts = parts;
        items = items;
        weave = weave;
        killed = killed-broken items s.given stop.more stop.item whole (weaves-follow ladder parts items whole weave) all h;
        lost = λ synced. lost-broken items s.given stop.more stop.item whole (weaves-follow ladder parts items whole weave) all h synced;
      }

  kept-packed : (report : Report) → IsAllowed ladder → IsPacked (kept_run input made most before now (new_keeping d renditions) y) ladder report → LeavesKept ladder d.syncs (made y.files.folder) y.renditions
  kept-packed report allowed p = kept-all p.parts p.items p.weave (weaves-whole ladder p.parts p.items allowed p.weave) p.puts

  kept-halted : (r : ℕ) (stop : Option Stop) → HasHalted (kept_run input made most before now (new_keeping d renditions) y) ladder r stop → LeavesKept ladder d.syncs (made y.files.folder) y.renditions
  kept-halted r stop h = kept-all h.parts h.items h.weave (weaves-whole ladder h.parts h.items h.allowed h.weave) h.puts

  blocks-of-cut : (c : IsCutShort (kept_run input made most before now (new_keeping d renditions) y) ladder) → (c.items ≡ []) ⊎ IsAllowed ladder → AreBlocks c.items
  blocks-of-cut c (inl none) = subst (λ (l : List ItemValue). AreBlocks l) (sym none) tt
  blocks-of-cut c (inr allowed) = weaves-whole ladder c.parts c.items allowed c.weave

  kept-cut : IsCutShort (kept_run input made most before now (new_keeping d renditions) y) ladder → (y.files.failures ≡ 0) ⊎ (y.files.failures ≡ 1) → LeavesKept ladder d.syncs (made y.files.folder) y.renditions
  kept-cut c failed = kept-some c.parts c.items c.weave (blocks-of-cut c c.allowed) c.some failed

  -- nothing was given
  kept-none : PutAll (kept_view made) (new_keeping d renditions) y [] → LeavesKept ladder d.syncs (made y.files.folder) y.renditions
  unfolding AreLegal after_all blocks
  kept-none p = kept-all (none_of ladder) [] (record { events = []; legal = tt; parts_are = refl; items_are = refl }) tt p

  kept-fault : (workers : ℕ) (old new : List SnapshotFacts) (held held_then : Option (List ℕ)) (fault : LadderPackingFault) →
      TurnsAway (kept_run input made most before now (new_keeping d renditions) y) ladder workers old new fault →
      LadderSays (kept_run input made most before now (new_keeping d renditions) y) ladder workers old new held held_then fault → LeavesKept ladder d.syncs (made y.files.folder) y.renditions
  kept-fault workers old new held held_then (Packing fault) away says =
      says-any (of_shown (kept_run input made most before now (new_keeping d renditions) y) ladder workers old new) (LeavesKept ladder d.syncs (made y.files.folder) y.renditions)
      (λ u. kept-none u.unput) (λ r stop h. kept-halted r stop h.halted) (λ c. kept-cut c.0.cut (inr c.1)) (λ c. kept-cut c.0.cut (inl c.1)) (λ r n c. kept-cut c.0.cut (inl c.1)) fault says.0
  kept-fault workers old new held held_then Unwritten fits says = kept-packed says.report fits.0 says.packed.packed
  kept-fault workers old new held held_then NoMemory fits says = kept-packed says.report fits.0 says.packed.packed

  -- whatever the answer
  pub leaves-kept : (workers : ℕ) (old new : List SnapshotFacts) (held held_then : Option (List ℕ)) (answer : Result Report LadderPackingFault) →
      IfOk answer (IsPackedShown (kept_run input made most before now (new_keeping d renditions) y) ladder workers old new) → OnOk answer (Fits ladder (length before) workers (counts_shown old)) →
      IfErr answer (TurnsAway (kept_run input made most before now (new_keeping d renditions) y) ladder workers old new) →
      IfErr answer (LadderSays (kept_run input made most before now (new_keeping d renditions) y) ladder workers old new held held_then) → LeavesKept ladder d.syncs (made y.files.folder) y.renditions
  leaves-kept workers old new held held_then (Ok report) packed fits away says = kept-packed report fits.0 packed.packed
  leaves-kept workers old new held held_then (Err fault) packed fits away says = kept-fault workers old new held held_then fault away says

  -- behind a run that ended well
  pub none-listed : (workers : ℕ) (old new : List SnapshotFacts) (answer : Result Report LadderPackingFault) →
      IfOk answer (IsPackedShown (kept_run input made most before now (new_keeping d renditions) y) ladder workers old new) → OnOk answer (Fits ladder (length before) workers (counts_shown old)) →
      OnOk answer (NoneIsListed (made y.files.folder) y.renditions)
  none-listed workers old new (Ok report) shown fits =
      let p = shown.packed in
      let h : HoldsThen p.items = p.puts.grows.follows (held-of d.syncs []) at-first in
      let whole = weaves-whole ladder p.parts p.items fits.0 p.weave in
      holds-unlisted y.files.syncs (made y.files.folder) y.files.staged y.files.failures y.renditions (held-of d.syncs p.items) h p.puts.unfailed
      whole (weaves-follow ladder p.parts p.items whole p.weave)
  none-listed workers old new (Err fault) shown fits = tt
