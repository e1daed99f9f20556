-- What contracts see of a channel's folder.
use Rattle.std.specs.Prelude.{ℕ, List}
use Rattle.folder.specs.Moves.{Move}

-- the names of its files, the bytes that they have, that there is none of a name, that reading fails, and of which file it does, and all
-- that was done to it
pub record FolderView (F : Type 0) : Type 1 where
  pub lists : F → List (List ℕ) → Type 0
  pub gives : F → List ℕ → List ℕ → Type 0
  pub lacks : F → List ℕ → Type 0
  pub refuses : F → Type 0
  pub shuts : F → List ℕ → Type 0
  pub made : F → List Move

abbrev pub view_by_name : {F : Type 0} → (F → List (List ℕ) → Type 0) → (F → List ℕ → List ℕ → Type 0) → (F → List ℕ → Type 0) →
    (F → Type 0) → (F → List ℕ → Type 0) → (F → List Move) → FolderView F
view_by_name l g k r s m = record { lists = l; gives = g; lacks = k; refuses = r; shuts = s; made = m }

-- the same, where it isn't told of which file reading fails
abbrev pub folder_view : {F : Type 0} → (F → List (List ℕ) → Type 0) → (F → List ℕ → List ℕ → Type 0) → (F → List ℕ → Type 0) →
    (F → Type 0) → (F → List Move) → FolderView F
folder_view l g k r m = view_by_name l g k r (λ f _. r f) m
