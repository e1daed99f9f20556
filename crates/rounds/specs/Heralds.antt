-- What a herald is told: faults when they stand, and how many segments are complete.
use Rattle.std.specs.Prelude.{◌≡◌, ◌≢◌, ℕ, ◌+◌, ◌<◌, List, Bool, length, sum_by, false, true, Option, None, Some, slice_get, slice_index_or}
use Rattle.cutter.specs.Plans.{SegmentPlan}
use Rattle.ingest.specs.declared.lane.Lane.{Lane}
use Rattle.ingest.specs.declared.lane.Stop.{Stop}
use Rattle.ladder_items.specs.declared.fault.PackFault.{PackFault}
use Rattle.ladder_items.specs.Packed.{told_of}
use Rattle.ladder_items.specs.Shown.{Shown}

-- how many segments are complete as a round begins: those that are shown, and those whose plans some full spools hold
abbrev pub complete_in : List Shown → List (List SegmentPlan) → ℕ
complete_in shown spools = sum_by (λ (s : Shown). length s.rows) shown + sum_by (λ (plans : List SegmentPlan). length plans) spools

-- the fault by which a rendition stopped: one that goes on has none
abbrev pub fault_of : ℕ → Option Stop → Option PackFault
fault_of r None = None
fault_of r (Some stop) = told_of r (Some stop)

-- rendition r stopped by this fault, and it wasn't told
pub record Untold (told : List Bool) (r : ℕ) (stop : Option Stop) (fault : PackFault) : Type 0 where
  pub stands : fault_of r stop ≡ Some fault
  pub new : slice_index_or told r true ≡ false

-- rendition r counts as told from now on if it stopped by a fault, and each other one as before; a fault that wasn't told was told now
pub record TellsOne (was_told : PackFault → Type 0) (told : List Bool) (r : ℕ) (stop : Option Stop) (told_now : List Bool) : Type 0 where
  pub tells : (fault : PackFault) → Untold told r stop fault → was_told fault
  pub stands : (fault : PackFault) → fault_of r stop ≡ Some fault → slice_index_or told_now r true ≡ true
  pub none : fault_of r stop ≡ None → told_now ≡ told
  pub others : (k : ℕ) → k ≢ r → slice_index_or told_now k true ≡ slice_index_or told k true

-- one of the first n renditions stopped by a fault
abbrev pub HasFault : ℕ → List Lane → ℕ → Type 0
HasFault n lanes k = (lane : Lane) × (fault : PackFault) × (k < n) × (slice_get lanes k ≡ Some lane) × (fault_of k lane.stop ≡ Some fault)

-- of the first n renditions, those that stopped by a fault count as told from now on, and all others as before; each fault that wasn't
-- told was told now
pub record TellsAll (was_told : PackFault → Type 0) (n : ℕ) (told : List Bool) (lanes : List Lane) (told_now : List Bool) : Type 0 where
  pub tells : (k : ℕ) (lane : Lane) (fault : PackFault) → k < n → slice_get lanes k ≡ Some lane → Untold told k lane.stop fault → was_told fault
  pub stands : (k : ℕ) → HasFault n lanes k → slice_index_or told_now k true ≡ true
  pub others : (k : ℕ) → (HasFault n lanes k → ⊥) → slice_index_or told_now k true ≡ slice_index_or told k true

-- each of the first n renditions that stopped by a fault counts as told
abbrev pub AllTold : ℕ → List Bool → List Lane → Type 0
AllTold n told lanes = (k : ℕ) → HasFault n lanes k → slice_index_or told k true ≡ true

-- rendition k stopped by a fault that was told
pub record IsHeard (was_told : PackFault → Type 0) (k : ℕ) (stop : Option Stop) : Type 0 where
  pub fault : PackFault
  pub stands : fault_of k stop ≡ Some fault
  pub heard : was_told fault

-- of the first n renditions, those that count as told stopped by faults that were told
abbrev pub AreHeard : (PackFault → Type 0) → ℕ → List Bool → List Lane → Type 0
AreHeard was_told n told lanes = (k : ℕ) (lane : Lane) → k < n → slice_get lanes k ≡ Some lane → slice_index_or told k true ≡ true → IsHeard was_told k lane.stop

-- each rendition that stopped by a fault has told it
abbrev pub AllHeard : (PackFault → Type 0) → List Lane → Type 0
AllHeard was_told lanes = (k : ℕ) (lane : Lane) (fault : PackFault) → slice_get lanes k ≡ Some lane → fault_of k lane.stop ≡ Some fault → was_told fault

-- if it is the fault by which some rendition stopped, it was told
abbrev pub IsHeardOf : (PackFault → Type 0) → PackFault → Type 0
IsHeardOf was_told fault = (k : ℕ) (stop : Stop) → fault_of k (Some stop) ≡ Some fault → was_told fault
