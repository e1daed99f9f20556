-- The blocks that a kill cut off are rolled forward, rendition after rendition.
use Rattle.std.specs.Prelude.{◌≡◌, ℕ, Option, Some, None, List, [], ◌∷◌, ◌++◌}
use Rattle.folder.specs.Puts.{Names}
use Rattle.folder.specs.Rolling.{IsRolled, IsRolledInPart}
use Rattle.channel_folder.specs.CutOff.{IsCutOff}
use Rattle.channel.specs.Views.{FolderView}
use Rattle.channel.specs.declared.fault.ResumingFault.{ResumingFault}
use Rattle.channel.specs.declared.fault.ResumingFault.TheVariants.{Unread, Outlet, NoMemory, Not, OtherKeys}

-- all that was done between: this block was rolled forward, or nothing was
abbrev pub RollsBlock : {F : Type 0} → FolderView F → F → F → Option (List Names) → Type 0
RollsBlock folder before now None = now ≡ before
RollsBlock folder before now (Some names) = IsRolled (folder.made before) (folder.made now) names

-- the block of a rendition that was cut off, by what stood in the folder
pub record RollsOne {F : Type 0} (folder : FolderView F) (name : List ℕ) (before now : F) : Type 0 where
  pub due : Option (List Names)
  pub is : IsCutOff (folder.gives before) (folder.lacks before) name due
  pub rolls : RollsBlock folder before now due

-- that of each of these renditions, one after another
abbrev pub RollsEach : {F : Type 0} → FolderView F → List (List ℕ) → F → F → Type 0
RollsEach folder [] before now = now ≡ before
RollsEach {F} folder (name ∷ names) before now = (mid : F) × RollsOne folder name before mid × RollsEach folder names mid now

-- a file of such a block couldn't be looked for or placed: those before it were
pub record RollsInPart {F : Type 0} (folder : FolderView F) (name : List ℕ) (before now : F) : Type 0 where
  pub due : List Names
  pub is : IsCutOff (folder.gives before) (folder.lacks before) name (Some due)
  pub rolls : IsRolledInPart (folder.made before) (folder.made now) due

-- why the block of a rendition isn't rolled forward
abbrev pub IsRollFault : {F : Type 0} → FolderView F → List ℕ → F → F → ResumingFault → Type 0
IsRollFault folder name before now Unread = (now ≡ before) × folder.refuses before
IsRollFault folder name before now Outlet = RollsInPart folder name before now
IsRollFault folder name before now NoMemory = now ≡ before
IsRollFault folder name before now (Not r why) = ⊥
IsRollFault folder name before now (OtherKeys r key) = ⊥

-- those of the first renditions were, and that of the next one isn't for this reason
pub record RollingStops {F : Type 0} (folder : FolderView F) (names : List (List ℕ)) (before now : F) (fault : ResumingFault) : Type 0 where
  pub done : List (List ℕ)
  pub next : List ℕ
  pub rest : List (List ℕ)
  pub all : names ≡ done ++ next ∷ rest
  pub mid : F
  pub rolls : RollsEach folder done before mid
  pub stops : IsRollFault folder next mid now fault

-- nothing was done to the folder but that the blocks of the first of these renditions, or of all, were rolled forward
pub record IsOnlyRolled {F : Type 0} (folder : FolderView F) (names : List (List ℕ)) (before now : F) : Type 0 where
  pub done : List (List ℕ)
  pub rest : List (List ℕ)
  pub all : names ≡ done ++ rest
  pub rolls : RollsEach folder done before now
