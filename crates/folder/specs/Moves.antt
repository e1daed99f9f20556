-- A folder, and what a process does to it.
use Rattle.std.specs.Prelude.{◌≡◌, ◌==◌, ℕ, if◌then◌else◌, Bool, false, Option, Some, None, List, [], ◌∷◌}
use Rattle.std.specs.Str.{bytes_eq}

-- the bytes of the file of each name, if there is one
abbrev pub Files : Type 0
Files = List ℕ → Option (List ℕ)

-- an empty folder
abbrev pub no_files : Files
no_files name = None

-- the same files, but for what stands under one name
abbrev pub with_file : Files → List ℕ → Option (List ℕ) → Files
with_file files name bytes other = if bytes_eq name other then bytes else files other

-- What a process does to a folder. It writes a file anew; gives a file another name, in place of a file that has it, in one step
-- (POSIX rename(2)); removes one (unlink(2)); looks whether there is one; or waits until all that it did is on the disk (fsync(2)
-- of the files that it wrote, and then of the folder).
pub data Move : Type 0 where
  Write : List ℕ → List ℕ → Move
  Rename : List ℕ → List ℕ → Move
  Remove : List ℕ → Move
  Looked : List ℕ → Bool → Move
  Sync : Move

-- the files behind a move
abbrev pub moved : Files → Move → Files
moved files (Write name bytes) = with_file files name (Some bytes)
moved files (Rename old new) = with_file (with_file files old None) new (files old)
moved files (Remove name) = with_file files name None
moved files (Looked name there) = files
moved files Sync = files

-- the files behind all moves
abbrev pub standing : Files → List Move → Files
standing files [] = files
standing files (m ∷ moves) = standing (moved files m) moves

-- the same files
abbrev pub Same : Files → Files → Type 0
Same left files = (name : List ℕ) → left name ≡ files name

-- the name of a file that nobody is served: it begins with a point
abbrev pub is_hidden : List ℕ → Bool
is_hidden [] = false
is_hidden (b ∷ rest) = b == 46

-- the same files but for hidden ones
abbrev pub Shows : Files → Files → Type 0
Shows left files = (name : List ℕ) → is_hidden name ≡ false → left name ≡ files name
