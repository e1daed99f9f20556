-- What a kill of a process leaves of the folder that it changes.
use Rattle.std.specs.Prelude.{◌≡◌, ◌⊎◌, ℕ, ◌++◌, Some, None, List, [], ◌∷◌}
use Rattle.folder.specs.Moves.{Files, Move, Write, Rename, Remove, Looked, Sync, with_file, moved, Same}

-- What a kill in the middle of a move leaves: of a file that is written a prefix of its bytes, or no file. A file is renamed and
-- removed in one step.
abbrev pub CutOff : Files → Move → Files → Type 0
CutOff files (Write name bytes) left =
    ((front : List ℕ) × (rest : List ℕ) × (bytes ≡ front ++ rest) × Same left (with_file files name (Some front))) ⊎ Same left (with_file files name None)
CutOff files (Rename old new) left = ⊥
CutOff files (Remove name) left = ⊥
CutOff files (Looked name there) left = ⊥
CutOff files Sync left = ⊥

-- What a kill at any moment leaves: some of the moves are done, in order and none skipped, and the next one perhaps in part.
abbrev pub KillMayLeave : Files → List Move → Files → Type 0
KillMayLeave files [] left = Same left files
KillMayLeave files (m ∷ moves) left = Same left files ⊎ CutOff files m left ⊎ KillMayLeave (moved files m) moves left

-- What a write that failed did: nothing, or the file is gone, or a prefix of its bytes was written, and perhaps removed again.
abbrev pub IsFailedWrite : List ℕ → List ℕ → List Move → Type 0
IsFailedWrite name bytes more =
    (more ≡ []) ⊎ (more ≡ Remove name ∷ [])
    ⊎ ((front : List ℕ) × (rest : List ℕ) × (bytes ≡ front ++ rest) × ((more ≡ Write name front ∷ []) ⊎ (more ≡ Write name front ∷ Remove name ∷ [])))
