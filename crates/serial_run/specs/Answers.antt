-- What a run on one thread answers, when no rendition goes on or one has had all its reads.
use Rattle.std.specs.Prelude.{◌≡◌, ◌⊎◌, List, map}
use Rattle.ingest.specs.declared.lane.Lane.{Lane}
use Rattle.ladder_items.specs.declared.fault.PackFault.{PackFault}
use Rattle.ladder_items.specs.declared.fault.PackFault.TheVariants.{NoMemory}
use Rattle.ladder_items.specs.declared.report.Report.{Report}
use Rattle.ladder_items.specs.Shown.{Shown}
use Rattle.ladder_items.specs.Packed.{IsReport, IsAlone, gone_of}
use Rattle.ladder_items.specs.Standing.{IsFirstStanding, NoneStands}

-- none stands, and the report tells the numbers of what the renditions show
pub record IsAnswer (lanes : List Lane) (shown : List Shown) (report : Report) : Type 0 where
  pub good : NoneStands lanes
  pub numbers : IsReport shown (map (λ (lane : Lane). gone_of lane.stop) lanes) report
  pub alone : IsAlone report

-- the first fault that stands, and want of memory alone where none does
abbrev pub IsAnswered : List Lane → PackFault → Type 0
IsAnswered lanes fault = IsFirstStanding lanes fault ⊎ ((fault ≡ NoMemory) × NoneStands lanes)
