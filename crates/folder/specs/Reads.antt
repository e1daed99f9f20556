-- What is read of a folder.
use Rattle.std.specs.Prelude.{◌≡◌, ℕ, List, length}

-- a file that may have these bytes may have this size
abbrev pub MayHaveSize : (List ℕ → List ℕ → Type 0) → List ℕ → ℕ → Type 0
MayHaveSize gives name size = (bytes : List ℕ) × gives name bytes × (length bytes ≡ size)
