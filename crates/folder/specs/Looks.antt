-- What a process saw in a folder.
use Rattle.std.specs.Prelude.{◌≡◌, List, [], ◌∷◌, is_some}
use Rattle.folder.specs.Moves.{Files, Move, Write, Rename, Remove, Looked, Sync, moved}

-- each look saw what stood there
abbrev pub LooksAreTrue : Files → List Move → Type 0
LooksAreTrue files [] = Unit {0}
LooksAreTrue files (Looked name there ∷ moves) = (there ≡ is_some (files name)) × LooksAreTrue files moves
LooksAreTrue files (Write name bytes ∷ moves) = LooksAreTrue (moved files (Write name bytes)) moves
LooksAreTrue files (Rename old new ∷ moves) = LooksAreTrue (moved files (Rename old new)) moves
LooksAreTrue files (Remove name ∷ moves) = LooksAreTrue (moved files (Remove name)) moves
LooksAreTrue files (Sync ∷ moves) = LooksAreTrue files moves
