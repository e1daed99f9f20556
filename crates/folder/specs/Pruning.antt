-- A folder from which old files are taken away, besides what else is done to it.
use Rattle.std.specs.Prelude.{◌≡◌, ◌⊎◌, ℕ, ◌+◌, ◌++◌, Bool, true, false, not, None, List, [], ◌∷◌}
use Rattle.folder.specs.Moves.{Files, Move, Write, Rename, Remove, Looked, Sync, Same, is_hidden, standing}
use Rattle.folder.specs.Kills.{CutOff}
use Rattle.folder.specs.PowerLoss.{disk_after}

-- a file that is served is removed
abbrev pub is_pruning : Move → Bool
is_pruning (Write name bytes) = false
is_pruning (Rename old new) = false
is_pruning (Remove name) = not (is_hidden name)
is_pruning (Looked name there) = false
is_pruning Sync = false

abbrev pub unless_pruning : Bool → Move → List Move → List Move
unless_pruning true m moves = moves
unless_pruning false m moves = m ∷ moves

-- all moves but for those
abbrev pub other_moves : List Move → List Move
other_moves [] = []
other_moves (m ∷ moves) = unless_pruning (is_pruning m) m (other_moves moves)

-- a file of this name, which is served, was removed by one of these moves
abbrev pub WasPruned : List Move → List ℕ → Type 0
WasPruned [] name = ⊥
WasPruned (Remove gone ∷ moves) name = ((gone ≡ name) × (is_hidden gone ≡ false)) ⊎ WasPruned moves name
WasPruned (m ∷ moves) name = WasPruned moves name

abbrev pub unless_hidden : Bool → List ℕ → List (List ℕ) → List (List ℕ)
unless_hidden true name names = names
unless_hidden false name names = name ∷ names

-- the names of those files, in order
abbrev pub pruned_names : List Move → List (List ℕ)
pruned_names [] = []
pruned_names (Remove name ∷ moves) = unless_hidden (is_hidden name) name (pruned_names moves)
pruned_names (m ∷ moves) = pruned_names moves

-- a hidden file that is removed counts as another move, and one that is served stands with the count
abbrev pub counted : Bool → ℕ → ℕ
counted true count = count + 1
counted false count = count

abbrev pub with_pruning : Bool → ℕ → List ℕ → List (ℕ × List ℕ) → List (ℕ × List ℕ)
with_pruning true count name rest = rest
with_pruning false count name rest = (count, name) ∷ rest

-- the files that are served and that these moves removed, each behind how many of the other moves
abbrev pub prunings_from : ℕ → List Move → List (ℕ × List ℕ)
prunings_from count [] = []
prunings_from count (Remove name ∷ moves) = with_pruning (is_hidden name) count name (prunings_from (counted (is_hidden name) count) moves)
prunings_from count (m ∷ moves) = prunings_from (count + 1) moves

abbrev pub prunings : List Move → List (ℕ × List ℕ)
prunings moves = prunings_from 0 moves

-- each file is renamed from a hidden name, as one that is put
abbrev pub AreFromHidden : List Move → Type 0
AreFromHidden [] = Unit {0}
AreFromHidden (Rename old new ∷ moves) = (is_hidden old ≡ true) × AreFromHidden moves
AreFromHidden (m ∷ moves) = AreFromHidden moves

-- the same files, but that some of these may be missing
abbrev pub SameBut : (List ℕ → Type 0) → Files → Files → Type 0
SameBut Gone left whole = (name : List ℕ) → (left name ≡ whole name) ⊎ (Gone name × (left name ≡ None))

-- behind these moves, or in the midst of the next one
abbrev pub AreAt : Files → List Move → List Move → Files → Type 0
AreAt files front [] left = Same left (standing files front)
AreAt files front (m ∷ rest) left = Same left (standing files front) ⊎ CutOff (standing files front) m left

-- At some moment of these moves: what is left is what the other moves would have left at that moment, but that files which were taken
-- away before may be missing.
pub record IsPrunedAt (files : Files) (moves : List Move) (left : Files) : Type 0 where
  pub front : List Move
  pub rest : List Move
  pub all : moves ≡ front ++ rest
  pub whole : Files
  pub at : AreAt files (other_moves front) (other_moves rest) whole
  pub but : SameBut (WasPruned front) left whole

-- The same of a loss of power: what is left is what the other moves might have left on the disk at that moment, but for those files.
pub record IsPrunedAtLoss (files : Files) (moves : List Move) (left : Files) : Type 0 where
  pub front : List Move
  pub rest : List Move
  pub all : moves ≡ front ++ rest
  pub whole : Files
  pub at : disk_after files (Same files) (other_moves front) whole
  pub but : SameBut (WasPruned front) left whole
