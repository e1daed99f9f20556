-- A run whose outlet puts its items into a folder.
use Rattle.std.proofs.Common.{◌≡◌, refl, sym, ap, subst, ◌∙◌, ℕ, Bool, true, false, List, [], ◌∷◌, ◌++◌, inl, inr, ◌⊎◌, length, append-nil, append_assoc}
use Rattle.std.specs.Prelude.{Err, IfErr, IfOk, Ok, OnOk, Option, Result}
use Rattle.live_board.specs.Snapshots.{SnapshotFacts}
use Rattle.folder.specs.Moves.{Move}
use Rattle.folder.specs.Syncing.{moves_when}
use Rattle.item_io.specs.Items.{ItemValue}
use Rattle.item_io.specs.Outlets.{BreaksOff, Grows}
use Rattle.item_io.specs.Views.{SourceView}
use Rattle.item_io.specs.FolderMoves.{FolderState, HoldsFiles, HoldsFilesUpTo, new_outlet, puts_of}
use Rattle.item_io.specs.Blocks.{AreBlocks}
use Rattle.item_io.specs.Leaving.{EachKillLeaves, EachLossOfPowerLeaves, LeaveAll, LeaveAllOnDisk}
use Rattle.folder.proofs.Kills.{nothing_more}
use Rattle.item_io.proofs.Leaving.{EachKillLeaves-more, EachLossOfPowerLeaves-more, each-kill-breaks, each-kill-leaves, each-loss-breaks, each-loss-leaves, leave-all, leave-all-on-disk, made-moves}
use Rattle.ingest.specs.declared.lane.Stop.{Stop}
use Rattle.ladder_items.specs.declared.fault.PackFault.{PackFault}
use Rattle.ladder_items.specs.declared.fault.PackFault.TheVariants.{Settings, Read, ReadLimit, NoProgram, NoStart, LongSegment, BigSegment, Limit, Outlet, NoMemory as NoRoom, Held}
use Rattle.ladder_items.specs.Faults.{Says, Sayings}
use Rattle.ladder_items.specs.declared.report.Report.{Report}
use Rattle.ladder_items.specs.Ladder.{IsAllowed, Ladder}
use Rattle.ladder_items.specs.Weave.{AreLegal, after_all, blocks, none_of}
use Rattle.ladder_items.specs.Putting.{PutAll, PutSome}
use Rattle.ladder_items.specs.Packed.{HasHalted, IsCutShort, IsPacked}
use Rattle.ladder_items.proofs.Endings.{says-as}
use Rattle.ladder_items.proofs.WholeBlocks.{weaves-whole}
use Rattle.ladder_laws.specs.Playlists.{HasByteNames}
use Rattle.ladder_laws.specs.Playable.{StaysPlayable, StaysPlayableBehind}
use Rattle.ladder_laws.proofs.Playable.{nothing-behind, nothing-playable, stays-playable, stays-playable-behind}
use Rattle.live_board.specs.Counts.{counts_shown}
use Rattle.rounds.specs.Shown.{Fits, IsPackedShown, of_shown}
use Rattle.packing.specs.LadderPacking.{LadderSays, TurnsAway}
use Rattle.packing.specs.FolderPacking.{AreAllThere, FolderSays, IsCutShortInto, IsHaltedInto, IsPackedInto, LeavesPlayable, LeavesPrefix, folder_run, folder_view, of_folder}
use Rattle.packing.specs.declared.destination.Destination.{Destination}
use Rattle.commands.specs.declared.packing_fault.LadderPackingFault.{LadderPackingFault}
use Rattle.commands.specs.declared.packing_fault.LadderPackingFault.TheVariants.{Packing, Unwritten, NoMemory}

-- what follows from each thing said follows from what a fault says
pub says-any : (s : Sayings) (C : Type 0) → (s.refused → C) → ((r : ℕ) (stop : Option Stop) → s.halted r stop → C) → (s.unput → C) → (s.wanting → C) → ((r n : ℕ) → s.held r n → C) →
    (fault : PackFault) → Says s fault → C
says-any s C refused halted unput wanting held Settings says = refused says
says-any s C refused halted unput wanting held (Read r) says = halted r _ says
says-any s C refused halted unput wanting held (ReadLimit r) says = halted r _ says
says-any s C refused halted unput wanting held (NoProgram r) says = halted r _ says
says-any s C refused halted unput wanting held (NoStart r) says = halted r _ says
says-any s C refused halted unput wanting held (LongSegment r n) says = halted r _ says
says-any s C refused halted unput wanting held (BigSegment r n) says = halted r _ says
says-any s C refused halted unput wanting held (Limit r) says = halted r _ says
says-any s C refused halted unput wanting held Outlet says = unput says
says-any s C refused halted unput wanting held NoRoom says = wanting says
says-any s C refused halted unput wanting held (Held r n) says = held r n says

no-moves : (syncs : Bool) → moves_when syncs (puts_of []) ≡ []
no-moves true = refl
no-moves false = refl

module _ {X F : Type 0} (input : SourceView X) (made : F → List Move) (ladder : Ladder) (most : ℕ) (before now : List X) (d : Destination F) (y : FolderState F)
    (fresh : made d.folder ≡ []) where
  as-synced : (items : List ItemValue) → d.syncs ≡ true → Grows (HoldsFiles d.syncs (made d.folder) [] 0) (HoldsFiles y.syncs (made y.folder) y.staged y.failures) items →
      Grows (HoldsFiles true (made d.folder) [] 0) (HoldsFiles y.syncs (made y.folder) y.staged y.failures) items
  as-synced items synced grows = subst (λ (b : Bool). Grows (HoldsFiles b (made d.folder) [] 0) (HoldsFiles y.syncs (made y.folder) y.staged y.failures) items) synced grows

  killed-all : (items : List ItemValue) → AreBlocks items → PutAll (folder_view made) (new_outlet d.syncs d.folder) y items → EachKillLeaves (made y.folder) items
  killed-all items whole p = each-kill-leaves d.syncs y.syncs (made d.folder) (made y.folder) [] y.staged y.failures items items [] fresh refl p.grows p.unfailed whole (sym (append-nil items))

  all-there : (items : List ItemValue) → AreBlocks items → PutAll (folder_view made) (new_outlet d.syncs d.folder) y items → LeaveAll (made y.folder) items
  all-there items whole p = leave-all d.syncs y.syncs (made d.folder) (made y.folder) [] y.staged y.failures items fresh refl p.grows p.unfailed whole

  lost-all : (items : List ItemValue) → AreBlocks items → PutAll (folder_view made) (new_outlet d.syncs d.folder) y items → d.syncs ≡ true → EachLossOfPowerLeaves (made y.folder) items
  lost-all items whole p synced =
      each-loss-leaves y.syncs (made d.folder) (made y.folder) [] y.staged y.failures items items [] fresh refl (as-synced items synced p.grows) p.unfailed whole (sym (append-nil items))

  on-disk : (items : List ItemValue) → AreBlocks items → PutAll (folder_view made) (new_outlet d.syncs d.folder) y items → d.syncs ≡ true → LeaveAllOnDisk (made y.folder) items
  on-disk items whole p synced = leave-all-on-disk y.syncs (made d.folder) (made y.folder) [] y.staged y.failures items fresh refl (as-synced items synced p.grows) p.unfailed whole

  all-left : (items : List ItemValue) → AreBlocks items → PutAll (folder_view made) (new_outlet d.syncs d.folder) y items → AreAllThere d.syncs (made y.folder) items
  all-left items whole p = record { killed = killed-all items whole p; there = all-there items whole p; lost = lost-all items whole p; on_disk = on-disk items whole p }

  nothing-done : PutAll (folder_view made) (new_outlet d.syncs d.folder) y [] → made y.folder ≡ []
  nothing-done p = made-moves d.syncs y.syncs (made d.folder) (made y.folder) [] y.staged y.failures [] fresh refl p.grows p.unfailed ∙ no-moves d.syncs

  -- how many puts failed: none, or the last
  killed-some : (items : List ItemValue) → AreBlocks items → (s : PutSome (folder_view made) (new_outlet d.syncs d.folder) y items) → (y.failures ≡ 0) ⊎ (y.failures ≡ 1) → EachKillLeaves (made y.folder) items
  killed-some items whole s (inl none) =
      EachKillLeaves-more (made y.folder) items s.given s.rest s.all
      (each-kill-leaves d.syncs y.syncs (made d.folder) (made y.folder) [] y.staged y.failures items s.given s.rest fresh refl s.grows none whole s.all)
  killed-some items whole s (inr one) =
      let stop = s.stops refl one in
      let all : items ≡ s.given ++ stop.item ∷ stop.more = s.all ∙ ap (λ (l : List ItemValue). s.given ++ l) stop.next in
      EachKillLeaves-more (made y.folder) items (s.given ++ stop.item ∷ []) stop.more (all ∙ sym (append_assoc s.given (stop.item ∷ []) stop.more))
      (each-kill-breaks d.syncs y.syncs (made d.folder) (made y.folder) [] items s.given stop.more stop.item fresh refl stop.refused whole all)

  lost-some : (items : List ItemValue) → AreBlocks items → (s : PutSome (folder_view made) (new_outlet d.syncs d.folder) y items) → (y.failures ≡ 0) ⊎ (y.failures ≡ 1) → d.syncs ≡ true → EachLossOfPowerLeaves (made y.folder) items
  lost-some items whole s (inl none) synced =
      EachLossOfPowerLeaves-more (made y.folder) items s.given s.rest s.all
      (each-loss-leaves y.syncs (made d.folder) (made y.folder) [] y.staged y.failures items s.given s.rest fresh refl (as-synced s.given synced s.grows) none whole s.all)
  lost-some items whole s (inr one) synced =
      let stop = s.stops refl one in
      let all : items ≡ s.given ++ stop.item ∷ stop.more = s.all ∙ ap (λ (l : List ItemValue). s.given ++ l) stop.next in
      let refused = subst (λ (b : Bool). BreaksOff (HoldsFiles b (made d.folder) [] 0) (HoldsFilesUpTo y.syncs (made y.folder)) s.given stop.item) synced stop.refused in
      EachLossOfPowerLeaves-more (made y.folder) items (s.given ++ stop.item ∷ []) stop.more (all ∙ sym (append_assoc s.given (stop.item ∷ []) stop.more))
      (each-loss-breaks y.syncs (made d.folder) (made y.folder) [] items s.given stop.more stop.item fresh refl refused whole all)

  packed-into : (report : Report) → IsAllowed ladder → IsPacked (folder_run input made most before now d y) ladder report → IsPackedInto (folder_run input made most before now d y) ladder d.syncs (made y.folder) report
  packed-into report allowed p =
      let whole = weaves-whole ladder p.parts p.items allowed p.weave in
      record { allowed = allowed; packed = p; there = all-left p.items whole p.puts }

  halted-into : (r : ℕ) (stop : Option Stop) → HasHalted (folder_run input made most before now d y) ladder r stop → IsHaltedInto (folder_run input made most before now d y) ladder d.syncs (made y.folder) r stop
  halted-into r stop h =
      let whole = weaves-whole ladder h.parts h.items h.allowed h.weave in
      record { halted = h; there = all-left h.items whole h.puts }

  blocks-of-cut : (c : IsCutShort (folder_run input made most before now d y) ladder) → (c.items ≡ []) ⊎ IsAllowed ladder → AreBlocks c.items
  blocks-of-cut c (inl none) = subst (λ (l : List ItemValue). AreBlocks l) (sym none) tt
  blocks-of-cut c (inr allowed) = weaves-whole ladder c.parts c.items allowed c.weave

  cut-into : IsCutShort (folder_run input made most before now d y) ladder → (y.failures ≡ 0) ⊎ (y.failures ≡ 1) → IsCutShortInto (folder_run input made most before now d y) ladder d.syncs (made y.folder)
  cut-into c failed =
      let whole = blocks-of-cut c c.allowed in
      record { cut = c; killed = killed-some c.items whole c.some failed; lost = lost-some c.items whole c.some failed }

  folder-says : (workers : ℕ) (old new : List SnapshotFacts) (held held_then : Option (List ℕ)) (fault : LadderPackingFault) →
      TurnsAway (folder_run input made most before now d y) ladder workers old new fault → LadderSays (folder_run input made most before now d y) ladder workers old new held held_then fault → FolderSays (folder_run input made most before now d y) ladder d.syncs (made y.folder) fault
  folder-says workers old new held held_then (Packing fault) away says =
      says-as (of_shown (folder_run input made most before now d y) ladder workers old new) (of_folder (folder_run input made most before now d y) ladder d.syncs (made y.folder)) fault
      (λ u. nothing-done u.unput) (λ r stop h. halted-into r stop h.halted) (λ c. cut-into c.0.cut (inr c.1)) (λ c. cut-into c.0.cut (inl c.1))
      (λ r n is c. cut-into c.0.cut (inl c.1)) says.0
  folder-says workers old new held held_then Unwritten fits says = (says.report, packed-into says.report fits.0 says.packed.packed)
  folder-says workers old new held held_then NoMemory fits says = (says.report, packed-into says.report fits.0 says.packed.packed)

  -- what each kill leaves of a weave can be played
  playable-of : HasByteNames ladder → (p : LeavesPrefix ladder d.syncs (made y.folder)) → (p.items ≡ []) ⊎ IsAllowed ladder → LeavesPlayable ladder d.syncs (made y.folder)
  playable-of bytes p (inl none) = record {
    leaves = p;
    playable = λ _. subst (λ (l : List ItemValue). StaysPlayable (made y.folder) l) (sym none)
        (nothing-playable (made y.folder) (subst (λ (l : List ItemValue). EachKillLeaves (made y.folder) l) none p.killed));
    behind = subst (λ (l : List ItemValue). StaysPlayableBehind ladder (made y.folder) l) (sym none)
        (nothing-behind ladder (made y.folder) (subst (λ (l : List ItemValue). EachKillLeaves (made y.folder) l) none p.killed));
  }
  playable-of bytes p (inr allowed) = record {
    leaves = p;
    playable = λ fresh. stays-playable ladder p.parts p.items (made y.folder) allowed bytes fresh p.weave p.killed;
    behind = stays-playable-behind ladder p.parts p.items (made y.folder) allowed bytes p.weave p.killed;
  }

  playable-of-packed : HasByteNames ladder → (report : Report) → IsPackedInto (folder_run input made most before now d y) ladder d.syncs (made y.folder) report → LeavesPlayable ladder d.syncs (made y.folder)
  playable-of-packed bytes report p =
      playable-of bytes (record { parts = p.packed.parts; items = p.packed.items; weave = p.packed.weave; killed = p.there.killed; lost = p.there.lost }) (inr p.allowed)

  -- nothing was given
  playable-of-none : HasByteNames ladder → made y.folder ≡ [] → LeavesPlayable ladder d.syncs (made y.folder)
  unfolding AreLegal after_all blocks
  playable-of-none bytes none = playable-of bytes
      (record {
        parts = none_of ladder;
        items = [];
        weave = record { events = []; legal = tt; parts_are = refl; items_are = refl };
        killed = subst (λ (l : List Move). EachKillLeaves l []) (sym none) (λ files left same. nothing_more files [] left (λ name shown. same name));
        lost = λ _. subst (λ (l : List Move). EachLossOfPowerLeaves l []) (sym none) (λ files left same. nothing_more files [] left (λ name shown. sym (same name)));
      })
      (inl refl)

  playable-of-halted : HasByteNames ladder → (r : ℕ) (stop : Option Stop) → IsHaltedInto (folder_run input made most before now d y) ladder d.syncs (made y.folder) r stop → LeavesPlayable ladder d.syncs (made y.folder)
  playable-of-halted bytes r stop h =
      playable-of bytes (record { parts = h.halted.parts; items = h.halted.items; weave = h.halted.weave; killed = h.there.killed; lost = h.there.lost }) (inr h.halted.allowed)

  playable-of-cut : HasByteNames ladder → IsCutShortInto (folder_run input made most before now d y) ladder d.syncs (made y.folder) → LeavesPlayable ladder d.syncs (made y.folder)
  playable-of-cut bytes c =
      playable-of bytes (record { parts = c.cut.parts; items = c.cut.items; weave = c.cut.weave; killed = c.killed; lost = c.lost }) c.cut.allowed

  playable-of-fault : HasByteNames ladder → (fault : LadderPackingFault) → FolderSays (folder_run input made most before now d y) ladder d.syncs (made y.folder) fault → LeavesPlayable ladder d.syncs (made y.folder)
  playable-of-fault bytes (Packing fault) says =
      says-any (of_folder (folder_run input made most before now d y) ladder d.syncs (made y.folder)) (LeavesPlayable ladder d.syncs (made y.folder)) (playable-of-none bytes) (playable-of-halted bytes) (playable-of-cut bytes) (playable-of-cut bytes) (λ r n. playable-of-cut bytes) fault says
  playable-of-fault bytes Unwritten says = playable-of-packed bytes says.0 says.1
  playable-of-fault bytes NoMemory says = playable-of-packed bytes says.0 says.1

  -- whatever the answer
  pub leaves-playable : HasByteNames ladder → (answer : Result Report LadderPackingFault) → IfOk answer (IsPackedInto (folder_run input made most before now d y) ladder d.syncs (made y.folder)) → IfErr answer (FolderSays (folder_run input made most before now d y) ladder d.syncs (made y.folder)) → LeavesPlayable ladder d.syncs (made y.folder)
  leaves-playable bytes (Ok report) packed says = playable-of-packed bytes report packed
  leaves-playable bytes (Err fault) packed says = playable-of-fault bytes fault says

  pub there-of : (workers : ℕ) (old new : List SnapshotFacts) (answer : Result Report LadderPackingFault) → IfOk answer (IsPackedShown (folder_run input made most before now d y) ladder workers old new) →
      OnOk answer (Fits ladder (length before) workers (counts_shown old)) → IfOk answer (IsPackedInto (folder_run input made most before now d y) ladder d.syncs (made y.folder))
  there-of workers old new (Ok report) packed fits = packed-into report fits.0 packed.packed
  there-of workers old new (Err fault) packed fits = tt

  pub left-of : (workers : ℕ) (old new : List SnapshotFacts) (held held_then : Option (List ℕ)) (answer : Result Report LadderPackingFault) →
      IfErr answer (TurnsAway (folder_run input made most before now d y) ladder workers old new) → IfErr answer (LadderSays (folder_run input made most before now d y) ladder workers old new held held_then) → IfErr answer (FolderSays (folder_run input made most before now d y) ladder d.syncs (made y.folder))
  left-of workers old new held held_then (Ok report) away says = tt
  left-of workers old new held held_then (Err fault) away says = folder-says workers old new held held_then fault away says
