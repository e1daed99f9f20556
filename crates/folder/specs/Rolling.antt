-- A block that was cut off is rolled forward.
use Rattle.std.specs.Prelude.{◌≡◌, ◌⊎◌, ◌++◌, Bool, true, false, List, [], ◌∷◌, map, length}
use Rattle.folder.specs.Moves.{Files, Move, Looked, Rename}
use Rattle.folder.specs.Looks.{LooksAreTrue}
use Rattle.folder.specs.Puts.{Names, Put, put_names}

-- the moves of a process that looks which files of a block stand under their part names, and places those
abbrev pub rolling_moves : List Names → List Bool → List Move
rolling_moves [] seen = []
rolling_moves (n ∷ names) [] = []
rolling_moves (n ∷ names) (true ∷ seen) = Looked n.0 true ∷ Rename n.0 n.1 ∷ rolling_moves names seen
rolling_moves (n ∷ names) (false ∷ seen) = Looked n.0 false ∷ rolling_moves names seen

-- one look a file of the block, and each saw what stood there
pub record AreSeen (left : Files) (block : List Put) (seen : List Bool) : Type 0 where
  pub each : length seen ≡ length block
  pub true_looks : LooksAreTrue left (rolling_moves (map put_names block) seen)

-- all that was done between the two lists: a block of these names was rolled forward
pub record IsRolled (before now : List Move) (names : List Names) : Type 0 where
  pub seen : List Bool
  pub each : length seen ≡ length names
  pub made : now ≡ before ++ rolling_moves names seen

-- nothing was done, or it was seen that the file is there
abbrev pub IsLook : Names → List Move → Type 0
IsLook n looked = (looked ≡ []) ⊎ (looked ≡ Looked n.0 true ∷ [])

-- all that was done between the two lists: some of the block were rolled forward, and the next file perhaps looked for
pub record IsRolledInPart (before now : List Move) (names : List Names) : Type 0 where
  pub rolled : List Names
  pub next : Names
  pub rest : List Names
  pub all : names ≡ rolled ++ next ∷ rest
  pub seen : List Bool
  pub each : length seen ≡ length rolled
  pub looked : List Move
  pub look : IsLook next looked
  pub made : now ≡ before ++ rolling_moves rolled seen ++ looked
