-- A ladder that goes on in its folder.
use Rattle.std.specs.Prelude.{◌≡◌, ◌⊎◌, ℕ, ◌+◌, Option, Some, None, List, [], ◌∷◌, ◌++◌, filter, nat_lt, if◌then◌else◌}
use Rattle.ladder_items.specs.Ladder.{Ladder}
use Rattle.resume.specs.Evening.{lags}
use Rattle.resume.specs.Restoring.{RestoredValue}
use Rattle.channel_folder.specs.LetGo.{removing, IsRemovedInPart}
use Rattle.channel_folder.specs.Reopened.{ReopenedValue}
use Rattle.channel_folder.specs.Scans.{ScanValue, IsScan, numbers_at}
use Rattle.channel.specs.Views.{FolderView}
use Rattle.channel.specs.GoingOn.{ladder_behind, AllGo}
use Rattle.channel.specs.Reading.{names_of, IsReadBack, IsReadFault, IsPast}
use Rattle.channel.specs.Rolling.{RollsEach, RollingStops, IsOnlyRolled}
use Rattle.channel.specs.declared.fault.ResumingFault.{ResumingFault}
use Rattle.channel.specs.declared.fault.ResumingFault.TheVariants.{Unread, Outlet, NoMemory, Not, OtherKeys}

-- The number of the first segment that a rendition's playlists list; 0 where it has none, or begins its list anew: how long its
-- playlists lasted isn't known any more then, so none of its segments is old enough to go in this run.
abbrev pub base_of : Option ℕ → Option RestoredValue → ℕ
base_of most None = 0
base_of most (Some r) = if lags most r then 0 else r.gone.rows

-- the numbers of the segments of a rendition that are there and come before those
abbrev pub older_at : ScanValue → Option ℕ → ℕ → Option RestoredValue → List ℕ
older_at scan most r one = filter (λ n. nat_lt n (base_of most one)) (numbers_at scan r)

-- those of each rendition, from rendition r on
abbrev pub older_from : ScanValue → Option ℕ → ℕ → List (Option RestoredValue) → List (List ℕ)
older_from scan most r [] = []
older_from scan most r (one ∷ found) = older_at scan most r one ∷ older_from scan most (r + 1) found

-- A ladder goes on in a folder. The folder was looked at once. The block that a kill cut off, of each rendition, was rolled forward.
-- By what the folder held then, each rendition was reopened, and the keys open what is listed. The settings are those of the ladder
-- behind what was found of each rendition; the older numbers are those of the segments that are there and come before those listed.
-- At last the unfinished files were removed.
pub record IsResumed {F : Type 0} (folder : FolderView F) (ladder : Ladder) (before now : F) (settings : Ladder) (older : List (List ℕ)) : Type 0 where
  pub scan : ScanValue
  pub scanned : IsScan (folder.lists before) (names_of ladder.renditions) scan
  pub mid : F
  pub rolls : RollsEach folder (names_of ladder.renditions) before mid
  pub reopened : ReopenedValue
  pub back : IsReadBack folder mid ladder scan reopened
  pub go_within : AllGo reopened.found reopened.most
  pub settings_are : settings ≡ ladder_behind ladder reopened
  pub older_are : older ≡ older_from scan reopened.most 0 reopened.found
  pub removed : folder.made now ≡ folder.made mid ++ removing scan.unfinished

-- it was looked at, and each block that was cut off was rolled forward; then this stands against it
pub record IsRefused {F : Type 0} (folder : FolderView F) (ladder : Ladder) (before now : F) (fault : ResumingFault) : Type 0 where
  pub scan : ScanValue
  pub scanned : IsScan (folder.lists before) (names_of ladder.renditions) scan
  pub rolls : RollsEach folder (names_of ladder.renditions) before now
  pub why : IsReadFault folder now ladder scan fault ⊎ IsPast folder now ladder scan fault

-- nothing stood against it, and some unfinished files were removed: another couldn't be
pub record RemovingStops {F : Type 0} (folder : FolderView F) (ladder : Ladder) (before now : F) : Type 0 where
  pub scan : ScanValue
  pub scanned : IsScan (folder.lists before) (names_of ladder.renditions) scan
  pub mid : F
  pub rolls : RollsEach folder (names_of ladder.renditions) before mid
  pub reopened : ReopenedValue
  pub back : IsReadBack folder mid ladder scan reopened
  pub removed : IsRemovedInPart (folder.made mid) (folder.made now) scan.unfinished

-- Why it doesn't go on, and what was done to the folder: but for Outlet nothing more than that blocks were rolled forward.
abbrev pub IsNotResumed : {F : Type 0} → FolderView F → Ladder → F → F → ResumingFault → Type 0
IsNotResumed folder ladder before now Unread = IsOnlyRolled folder (names_of ladder.renditions) before now × folder.refuses now
IsNotResumed folder ladder before now NoMemory = IsOnlyRolled folder (names_of ladder.renditions) before now
IsNotResumed folder ladder before now Outlet =
    RollingStops folder (names_of ladder.renditions) before now Outlet ⊎ RemovingStops folder ladder before now
IsNotResumed folder ladder before now (Not r why) = IsRefused folder ladder before now (Not r why)
IsNotResumed folder ladder before now (OtherKeys r key) = IsRefused folder ladder before now (OtherKeys r key)
