-- What an outlet holds, and with which renditions and behind how many items it began.
use Rattle.std.specs.Prelude.{◌≡◌, ◌≤◌, ℕ, List, [], ◌∷◌, drop, length, map}
use Rattle.folder.specs.Moves.{Move}
use Rattle.item_io.specs.Items.{ItemValue}
use Rattle.item_io.specs.Outlets.{Held}
use Rattle.item_io.specs.Views.{OutletView, outlet_view}
use Rattle.keeping.specs.Clearing.{AreCleared}
use Rattle.keeping.specs.Keepings.{KeepingValue, Stay}
use Rattle.keeping.specs.Holding.{KeepingState, KeptBy, KeptUpTo}

-- numbers before others, from which both can be told again: a 1 stands before each of them, and a 0 behind the last
abbrev pub mark_numbers : List ℕ → List ℕ → List ℕ
mark_numbers [] rest = 0 ∷ rest
mark_numbers (n ∷ numbers) rest = 1 ∷ n ∷ mark_numbers numbers rest

-- a rendition before numbers
abbrev pub mark_one : KeepingValue → List ℕ → List ℕ
mark_one k rest =
    let behind = mark_numbers k.before (mark_numbers k.older rest) in
    let steps = mark_numbers (map (λ step. step.micros) k.kept.steps) (mark_numbers (map (λ step. step.first) k.kept.steps) behind) in
    k.base ∷ k.gone ∷ k.swept ∷ k.kept.least ∷ mark_numbers k.name steps

-- renditions before numbers
abbrev pub mark_all : List KeepingValue → List ℕ → List ℕ
mark_all [] rest = 0 ∷ rest
mark_all (k ∷ renditions) rest = 1 ∷ mark_one k (mark_all renditions rest)

-- It holds what the outlet does, and before that a mark of the renditions and the count of items with which it began. Each rendition is
-- still the one that it was, and by the items since then each is cleared, but those of which a segment couldn't be removed.
pub record HoldsSince {F : Type 0} (made : F → List Move) (o : KeepingState F) (held : Held) : Type 0 where
  pub first : List KeepingValue
  pub count : ℕ
  pub before : List ℕ
  pub marked : held.before ≡ mark_all first (count ∷ before)
  pub within : count ≤ length held.items
  pub stay : Stay first o.renditions
  pub cleared : o.files.failures ≡ 0 → AreCleared o.missed o.renditions (drop count held.items)
  pub kept : KeptBy made o (record { before = before; items = held.items })

-- the same, but that nothing is said of what went, and some of the moves of the item that was refused
pub record HoldsSinceUpTo {F : Type 0} (made : F → List Move) (o : KeepingState F) (held : Held) (item : ItemValue) : Type 0 where
  pub first : List KeepingValue
  pub count : ℕ
  pub before : List ℕ
  pub marked : held.before ≡ mark_all first (count ∷ before)
  pub stay : Stay first o.renditions
  pub kept : KeptUpTo made o (record { before = before; items = held.items }) item

-- an outlet as a run sees it that is to tell with which renditions it began
abbrev pub since_view : {F : Type 0} → (F → List Move) → OutletView (KeepingState F)
since_view made = outlet_view (HoldsSince made) (HoldsSinceUpTo made) (λ o. o.files.failures)
