-- Files that are put into a folder that is synced, or into one that isn't.
use Rattle.std.specs.Prelude.{Bool, true, false, List}
use Rattle.folder.specs.Moves.{Move}
use Rattle.folder.specs.Puts.{Put, moves_of, placings}
use Rattle.folder.specs.PowerLoss.{synced_moves_of, synced_placings}

-- the moves of files that are put one behind another; whether they are synced comes first
abbrev pub moves_when : Bool → List Put → List Move
moves_when true puts = synced_moves_of puts
moves_when false puts = moves_of puts

-- the moves by which a file places its block, where it is the last of it
abbrev pub placings_when : Bool → Bool → List Put → Put → List Move
placings_when true ends staged p = synced_placings ends staged p
placings_when false ends staged p = placings ends staged p
