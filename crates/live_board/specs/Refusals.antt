-- Why a snapshot is refused.
use Rattle.std.specs.Prelude.{ℕ, List}
use Rattle.live_board.specs.Counts.{NoneFalls, IsBackwards}
use Rattle.live_board.specs.declared.fault.BoardFault.{BoardFault}
use Rattle.live_board.specs.declared.fault.BoardFault.TheVariants.{Backwards, NoMemory, NoPlace}

-- a snapshot with the counts `new` may be refused so where `old` are shown
abbrev pub Refuses : List ℕ → List ℕ → BoardFault → Type 0
Refuses old new (Backwards rendition shown) = IsBackwards old new rendition shown
Refuses old new NoMemory = NoneFalls old new
Refuses old new NoPlace = ⊥
