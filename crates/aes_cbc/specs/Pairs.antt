-- Two blocks side by side.
use Rattle.std.specs.Prelude.{◌≡◌, ℕ, List, ◌++◌, take, drop}

-- the bytes p are those of block a and then those of block b
pub record ArePair (p a b : List ℕ) : Type 0 where
  pub both : p ≡ a ++ b
  pub first : take 16 p ≡ a
  pub second : drop 16 p ≡ b
