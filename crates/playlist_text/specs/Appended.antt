-- Texts to which not all could be appended.
use Rattle.std.specs.Prelude.{◌≡◌, ℕ, List, ◌++◌}

-- a prefix of what was to come was appended to a text, and nothing else
pub record AppendsPart (old more new : List ℕ) : Type 0 where
  pub front : List ℕ
  pub rest : List ℕ
  pub split : more ≡ front ++ rest
  pub appended : new ≡ old ++ front
