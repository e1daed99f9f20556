-- Segments that are taken away one after another.
use Rattle.std.specs.Prelude.{◌≡◌, ℕ, ◌+◌, ◌≤◌, List, ◌++◌, length, take, drop}
use Rattle.folder.specs.Moves.{Move}
use Rattle.keeping.specs.Keepings.{removals, removals_of}

-- those from one place on were taken away, up to another one at most
pub record HaveGone (name : List ℕ) (base gone gone_now until : ℕ) (made made_now : List Move) : Type 0 where
  pub count : ℕ
  pub now : gone_now ≡ gone + count
  pub within : gone_now ≤ until
  pub made_are : made_now ≡ made ++ removals name (base + gone) count

-- some of these numbers were taken away, behind those that went before, and no more than 64
pub record Swept (name numbers : List ℕ) (swept swept_now : ℕ) (made made_now : List Move) : Type 0 where
  pub more : ℕ
  pub now : swept_now ≡ swept + more
  pub within : swept_now ≤ length numbers
  pub few : more ≤ 64
  pub made_are : made_now ≡ made ++ removals_of name (take more (drop swept numbers))
