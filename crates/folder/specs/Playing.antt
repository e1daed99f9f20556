-- A folder whose files list other files, as playlists do.
use Rattle.std.specs.Prelude.{◌≡◌, ◌⊎◌, ℕ, ◌++◌, Bool, true, false, Some, List, [], ◌∷◌}
use Rattle.folder.specs.Moves.{Files, is_hidden}
use Rattle.folder.specs.Puts.{Put}

-- Whether a file lists another: by its name, its bytes and the other's name.
abbrev pub Lists : Type 0
Lists = List ℕ → List ℕ → List ℕ → Bool

abbrev pub IsAmong : Put → List Put → Type 0
IsAmong p [] = ⊥
IsAmong p (q ∷ puts) = (p ≡ q) ⊎ IsAmong p puts

-- each file that one of them lists is put before it
abbrev pub AreListedInTurn : Lists → List Put → Type 0
AreListedInTurn lists puts = (before : List Put) (p : Put) (behind : List Put) → puts ≡ before ++ p ∷ behind →
    (name : List ℕ) → lists p.name p.bytes name ≡ true → (s : Put) × IsAmong s before × (s.name ≡ name) × (is_hidden s.name ≡ false)

-- All that is served was put, and each file that a file in place lists is in place too, with bytes that were put.
pub record IsPlayable (lists : Lists) (puts : List Put) (left : Files) : Type 0 where
  pub put : (name bytes : List ℕ) → is_hidden name ≡ false → left name ≡ Some bytes → (p : Put) × IsAmong p puts × (p.name ≡ name) × (p.bytes ≡ bytes)
  pub listed : (name bytes other : List ℕ) → is_hidden name ≡ false → left name ≡ Some bytes → lists name bytes other ≡ true →
      (s : Put) × IsAmong s puts × (s.name ≡ other) × (left other ≡ Some s.bytes)

-- some prefix of these puts makes it playable
pub record IsPlayablePrefix (lists : Lists) (puts : List Put) (left : Files) : Type 0 where
  pub given : List Put
  pub rest : List Put
  pub all : puts ≡ given ++ rest
  pub playable : IsPlayable lists given left
