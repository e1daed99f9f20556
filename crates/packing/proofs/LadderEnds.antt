-- How a run of `pack` ends behind a ladder that was packed.
use Rattle.std.proofs.Common.{◌≡◌, ◌⊎◌, inl, inr, ℕ, List, Option, Result, length, sym, subst}
use Rattle.std.specs.Prelude.{IfErr}
use Rattle.std.specs.Io.KnownBytes.{Keeps}
use Rattle.std.proofs.lemmas.Result.{IfErr-weaker}
use Rattle.live_board.specs.Snapshots.{SnapshotFacts}
use Rattle.ladder_items.specs.declared.fault.PackFault.{PackFault}
use Rattle.ladder_items.specs.declared.report.Report.{Report}
use Rattle.ladder_items.specs.Ladder.{Ladder}
use Rattle.ladder_items.specs.Runs.{Run}
use Rattle.live_board.specs.Counts.{counts_shown}
use Rattle.rounds.specs.Shown.{Fits, IsPackedShown}
use Rattle.packing.specs.LadderPacking.{BeginsSummary, IsHeard, IsNeverHeld, LadderSays, TurnsAway}
use Rattle.commands.specs.declared.packing_fault.LadderPackingFault.{LadderPackingFault}
use Rattle.commands.specs.declared.packing_fault.LadderPackingFault.TheVariants.{NoMemory, Unwritten}

module _ {X Y : Type 0} (run : Run X Y) (ladder : Ladder) (workers : ℕ) (old new : List SnapshotFacts) (held held_then : Option (List ℕ)) (report : Report)
    (packed : IsPackedShown run ladder workers old new report) where
  unwritten : (fault : LadderPackingFault) → ((fault ≡ Unwritten) × BeginsSummary ladder report held held_then) ⊎ ((fault ≡ NoMemory) × Keeps held held_then)
      → LadderSays run ladder workers old new held held_then fault
  unwritten fault (inl x) = subst (LadderSays run ladder workers old new held held_then) (sym x.0) (record { report = report; packed = packed; begun = x.1 })
  unwritten fault (inr x) = subst (LadderSays run ladder workers old new held held_then) (sym x.0) (record { report = report; packed = packed; unwritten = x.1 })

  -- a summary that wasn't written tells that all was packed
  pub summary-unwritten : (r : Result Report LadderPackingFault) → IfErr r (λ fault. ((fault ≡ Unwritten) × BeginsSummary ladder report held held_then) ⊎ ((fault ≡ NoMemory) × Keeps held held_then))
      → IfErr r (LadderSays run ladder workers old new held held_then)
  summary-unwritten r all = IfErr-weaker r (λ fault. ((fault ≡ Unwritten) × BeginsSummary ladder report held held_then) ⊎ ((fault ≡ NoMemory) × Keeps held held_then)) (LadderSays run ladder workers old new held held_then) unwritten all

module _ {X Y : Type 0} (run : Run X Y) (ladder : Ladder) (workers : ℕ) (old new : List SnapshotFacts) (held held_then : Option (List ℕ)) (report : Report)
    (fits : Fits ladder (length run.before) workers (counts_shown old)) where
  fitting : (fault : LadderPackingFault) → ((fault ≡ Unwritten) × BeginsSummary ladder report held held_then) ⊎ ((fault ≡ NoMemory) × Keeps held held_then)
      → TurnsAway run ladder workers old new fault
  fitting fault (inl x) = subst (TurnsAway run ladder workers old new) (sym x.0) fits
  fitting fault (inr x) = subst (TurnsAway run ladder workers old new) (sym x.0) fits

  -- a summary is begun only where the ladder fits
  pub summary-fits : (r : Result Report LadderPackingFault) → IfErr r (λ fault. ((fault ≡ Unwritten) × BeginsSummary ladder report held held_then) ⊎ ((fault ≡ NoMemory) × Keeps held held_then))
      → IfErr r (TurnsAway run ladder workers old new)
  summary-fits r all = IfErr-weaker r (λ fault. ((fault ≡ Unwritten) × BeginsSummary ladder report held held_then) ⊎ ((fault ≡ NoMemory) × Keeps held held_then)) (TurnsAway run ladder workers old new) fitting all

-- a summary says nothing of the gate
module _ (ladder : Ladder) (held held_then : Option (List ℕ)) (report : Report) where
  unheld : (fault : LadderPackingFault) → ((fault ≡ Unwritten) × BeginsSummary ladder report held held_then) ⊎ ((fault ≡ NoMemory) × Keeps held held_then)
      → IsNeverHeld fault
  unheld fault (inl x) = subst IsNeverHeld (sym x.0) tt
  unheld fault (inr x) = subst IsNeverHeld (sym x.0) tt

  pub summary-unheld : (r : Result Report LadderPackingFault) → IfErr r (λ fault. ((fault ≡ Unwritten) × BeginsSummary ladder report held held_then) ⊎ ((fault ≡ NoMemory) × Keeps held held_then))
      → IfErr r IsNeverHeld
  summary-unheld r all = IfErr-weaker r (λ fault. ((fault ≡ Unwritten) × BeginsSummary ladder report held held_then) ⊎ ((fault ≡ NoMemory) × Keeps held held_then)) IsNeverHeld unheld all

-- a summary stops no rendition
module _ (was_told : PackFault → Type 0) (ladder : Ladder) (held held_then : Option (List ℕ)) (report : Report) where
  unstopped : (fault : LadderPackingFault) → ((fault ≡ Unwritten) × BeginsSummary ladder report held held_then) ⊎ ((fault ≡ NoMemory) × Keeps held held_then)
      → IsHeard was_told fault
  unstopped fault (inl x) = subst (IsHeard was_told) (sym x.0) tt
  unstopped fault (inr x) = subst (IsHeard was_told) (sym x.0) tt

  pub summary-heard : (r : Result Report LadderPackingFault) → IfErr r (λ fault. ((fault ≡ Unwritten) × BeginsSummary ladder report held held_then) ⊎ ((fault ≡ NoMemory) × Keeps held held_then))
      → IfErr r (IsHeard was_told)
  summary-heard r all = IfErr-weaker r (λ fault. ((fault ≡ Unwritten) × BeginsSummary ladder report held held_then) ⊎ ((fault ≡ NoMemory) × Keeps held held_then)) (IsHeard was_told) unstopped all
