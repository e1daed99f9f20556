-- Files that are put into a folder block by block: each is written under a name of its own, its part name, and renamed once all of
-- its block are written.
use Rattle.std.specs.Prelude.{◌≡◌, ◌≢◌, ℕ, ◌++◌, Bool, true, false, Some, List, [], ◌∷◌, map}
use Rattle.folder.specs.Moves.{Files, Move, Write, Rename, with_file, is_hidden}

-- a file: its name, its part name, its bytes, and whether it is the last of its block
pub record Put : Type 0 where
  pub name : List ℕ
  pub part : List ℕ
  pub bytes : List ℕ
  pub ends : Bool

-- the part name of a file, and its name
abbrev pub Names : Type 0
Names = List ℕ × List ℕ

abbrev pub put_names : Put → Names
put_names p = (p.part, p.name)

-- it is written under its part name
abbrev pub writing : Put → Move
writing p = Write p.part p.bytes

-- and then placed
abbrev pub placing : Put → Move
placing p = Rename p.part p.name

-- the files that are written and not placed, behind one more
abbrev pub staged_with : Bool → List Put → Put → List Put
staged_with true staged p = []
staged_with false staged p = staged ++ p ∷ []

abbrev pub staged_after : List Put → List Put → List Put
staged_after staged [] = staged
staged_after staged (p ∷ puts) = staged_after (staged_with p.ends staged p) puts

-- the last file of a block places the whole block, in order
abbrev pub placings : Bool → List Put → Put → List Move
placings true staged p = map placing (staged ++ p ∷ [])
placings false staged p = []

-- the moves of files that are put one behind another, where some are staged already
abbrev pub moves_behind : List Put → List Put → List Move
moves_behind staged [] = []
moves_behind staged (p ∷ puts) = writing p ∷ (placings p.ends staged p ++ moves_behind (staged_with p.ends staged p) puts)

-- the moves of files that are put one behind another
abbrev pub moves_of : List Put → List Move
moves_of puts = moves_behind [] puts

-- the folder with all of them in place, later ones over earlier ones
abbrev pub after_puts : Files → List Put → Files
after_puts files [] = files
after_puts files (p ∷ puts) = after_puts (with_file files p.name (Some p.bytes)) puts

-- hidden until it is whole, and then not
pub record IsServed (p : Put) : Type 0 where
  pub hidden : is_hidden p.part ≡ true
  pub shown : is_hidden p.name ≡ false

-- its part name is that of none of these
abbrev pub HasOwnPart : Put → List Put → Type 0
HasOwnPart p [] = Unit {0}
HasOwnPart p (q ∷ puts) = (p.part ≢ q.part) × (q.part ≢ p.part) × HasOwnPart p puts

-- files that may be put behind those that are staged: all are served, and within a block each has a part name of its own
abbrev pub MayBePut : List Put → List Put → Type 0
MayBePut staged [] = Unit {0}
MayBePut staged (p ∷ puts) = IsServed p × HasOwnPart p staged × MayBePut (staged_with p.ends staged p) puts
