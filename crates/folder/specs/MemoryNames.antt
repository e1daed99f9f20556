-- The names of the files of a folder in memory.
use Rattle.std.specs.Prelude.{◌≡◌, ℕ, Bool, true, false, Option, Some, None, List, [], ◌∷◌, ◌++◌, is_some}
use Rattle.std.specs.List.{list_any}
use Rattle.std.specs.Str.{bytes_eq}
use Rattle.folder.specs.Moves.{Files}

-- whether a name is among these
abbrev pub has_name : List (List ℕ) → List ℕ → Bool
has_name names name = list_any (λ one. bytes_eq one name) names

-- no two of these are the same
abbrev pub AreApart : List (List ℕ) → Type 0
AreApart [] = Unit {0}
AreApart (name ∷ names) = (has_name names name ≡ false) × AreApart names

-- there is a file
abbrev pub HasFiles : Files → Type 0
HasFiles files = (name : List ℕ) × (is_some (files name) ≡ true)

-- there is a file of this name, and it isn't among these
abbrev pub IsNew : Files → List (List ℕ) → Option (List ℕ) → Type 0
IsNew files names None = ⊥
IsNew files names (Some name) = (is_some (files name) ≡ true) × (has_name names name ≡ false)

-- behind one more, if there is a file of that name and it isn't among these
abbrev pub with_new : Bool → Bool → List (List ℕ) → List ℕ → List (List ℕ)
with_new true false names name = names ++ name ∷ []
with_new true true names name = names
with_new false has names name = names

abbrev pub with_name : Files → List (List ℕ) → Option (List ℕ) → List (List ℕ)
with_name files names None = names
with_name files names (Some name) = with_new (is_some (files name)) (has_name names name) names name

-- the names of these files, each once
pub record AreNames (files : Files) (names : List (List ℕ)) : Type 0 where
  pub each : (name : List ℕ) → has_name names name ≡ is_some (files name)
  pub once : AreApart names
