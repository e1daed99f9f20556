-- Where a file is written before it takes another one's place.
use Rattle.std.specs.Prelude.{◌≡◌, ◌⊎◌, ℕ, ◌==◌, List, [], ◌++◌, codes}
use Rattle.std.specs.Str.{NoCharPasses}

-- A hidden file in the same folder, by the name of the file that is meant, which stands behind the last slash of its path.
pub record IsPartPath (path part : List ℕ) : Type 0 where
  pub folder : List ℕ
  pub name : List ℕ
  pub whole : path ≡ folder ++ name
  pub no_slash : NoCharPasses (λ c. c == 47) name
  pub ends : (folder ≡ []) ⊎ ((front : List ℕ) × (folder ≡ front ++ codes "/"))
  pub part_is : part ≡ folder ++ (codes "." ++ (name ++ codes ".part"))
