-- What is left of a folder that items are put into.
use Rattle.std.specs.Prelude.{List}
use Rattle.folder.specs.Moves.{Files, Move, Same, Shows, standing}
use Rattle.folder.specs.Kills.{KillMayLeave}
use Rattle.folder.specs.PowerLoss.{PowerLossMayLeave, disk_after}
use Rattle.folder.specs.Puts.{after_puts}
use Rattle.folder.specs.Prefixes.{HasPrefix}
use Rattle.item_io.specs.Items.{ItemValue}
use Rattle.item_io.specs.FolderMoves.{puts_of}

-- Whatever stood in the folder before these moves: a kill at any moment of them leaves a prefix of these items.
abbrev pub EachKillLeaves : List Move → List ItemValue → Type 0
EachKillLeaves made items = (files : Files) (left : Files) → KillMayLeave files made left → HasPrefix files (puts_of items) left

-- Behind these moves all of these items are in place, and no other file was changed but hidden ones.
abbrev pub LeaveAll : List Move → List ItemValue → Type 0
LeaveAll made items = (files : Files) → Shows (standing files made) (after_puts files (puts_of items))

-- Whatever stood in the folder before these moves, and was on the disk: a loss of power at any moment of them leaves a prefix of these
-- items.
abbrev pub EachLossOfPowerLeaves : List Move → List ItemValue → Type 0
EachLossOfPowerLeaves made items =
    (files : Files) (left : Files) → PowerLossMayLeave files (Same files) made left → HasPrefix files (puts_of items) left

-- Behind these moves all of these items are on the disk, and no other file was changed there but hidden ones.
abbrev pub LeaveAllOnDisk : List Move → List ItemValue → Type 0
LeaveAllOnDisk made items =
    (files : Files) (left : Files) → disk_after files (Same files) made left → Shows left (after_puts files (puts_of items))
