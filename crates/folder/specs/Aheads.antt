-- Files that stand ready before their turn.
use Rattle.std.specs.Prelude.{ℕ, Bool, List, codes}
use Rattle.std.specs.Path.{path_join}

-- a file that stands ready: its path, what it holds, and whether it was synced
pub record StandsAhead : Type 0 where
  pub path : List ℕ
  pub bytes : List ℕ
  pub synced : Bool

-- the hidden folder of a folder, in which such files stand
abbrev pub hidden_path : List ℕ → List ℕ
hidden_path folder = path_join folder (codes ".tshls-ahead")
