-- Unfinished files are removed.
use Rattle.std.specs.Prelude.{◌≡◌, ℕ, List, ◌++◌, ◌∷◌, map}
use Rattle.folder.specs.Moves.{Move, Remove}

-- one after another
abbrev pub removing : List (List ℕ) → List Move
removing names = map Remove names

-- some of them, and not those behind: at least one is left
pub record IsRemovedInPart (before now : List Move) (names : List (List ℕ)) : Type 0 where
  pub removed : List (List ℕ)
  pub rest : List (List ℕ)
  pub next : List ℕ
  pub all : names ≡ removed ++ next ∷ rest
  pub made : now ≡ before ++ removing removed
