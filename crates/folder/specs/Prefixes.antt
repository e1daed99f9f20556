-- A folder that holds a prefix of the files that were put into it.
use Rattle.std.specs.Prelude.{◌≡◌, ◌⊎◌, ◌++◌, true, Some, None, List, [], ◌∷◌}
use Rattle.folder.specs.Moves.{Files, Move, is_hidden, Shows}
use Rattle.folder.specs.Kills.{IsFailedWrite}
use Rattle.folder.specs.Puts.{Put, HasOwnPart, IsServed, after_puts, staged_after, writing}

-- each stands whole under its part name
abbrev pub AreStaged : Files → List Put → Type 0
AreStaged files [] = Unit {0}
AreStaged files (p ∷ puts) = IsServed p × (files p.part ≡ Some p.bytes) × HasOwnPart p puts × AreStaged files puts

-- none stands under its part name
abbrev pub AreUnstaged : Files → List Put → Type 0
AreUnstaged files [] = Unit {0}
AreUnstaged files (p ∷ puts) = (files p.part ≡ None) × AreUnstaged files puts

-- each of these has a hidden part name that is none of the others'
abbrev pub HaveOwnParts : List Put → List Put → Type 0
HaveOwnParts [] others = Unit {0}
HaveOwnParts (p ∷ puts) others = (is_hidden p.part ≡ true) × HasOwnPart p others × HaveOwnParts puts others

-- What is left shows the folder with a prefix of the files in place: whole blocks, and of the next block those that are placed.
-- Where some of a block are placed, the others are due: they stand whole under their part names.
pub record HasPrefix (files : Files) (puts : List Put) (left : Files) : Type 0 where
  pub blocks : List Put
  pub placed : List Put
  pub due : List Put
  pub rest : List Put
  pub all : puts ≡ blocks ++ (placed ++ due) ++ rest
  pub shows : Shows left (after_puts files (blocks ++ placed))
  pub gone : AreUnstaged left placed
  pub beside : AreStaged left due
  pub apart : HaveOwnParts placed due
  pub whole : staged_after [] blocks ≡ []
  pub whole_then : staged_after [] (blocks ++ (placed ++ due)) ≡ []

-- What a put that failed did: of its write a part, or all of it and some of the files placed.
abbrev pub IsFailedPut : List Move → Put → List Move → Type 0
IsFailedPut placed p more =
    IsFailedWrite p.part p.bytes more ⊎ ((front : List Move) × (rest : List Move) × (placed ≡ front ++ rest) × (more ≡ writing p ∷ front))
