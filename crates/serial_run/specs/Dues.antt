-- What a rendition has to give, when all that it closed is given at once.
use Rattle.std.specs.Prelude.{ℕ, Bool, true, false, List, [], ◌∷◌, ◌++◌}
use Rattle.ingest.specs.declared.lane.Lane.{Lane}
use Rattle.ingest.specs.Lanes.{is_good}
use Rattle.ladder_items.specs.Weave.{Event, End}
use Rattle.ladder_items.specs.Giving.{rows}

-- its end, where it came to a good one
abbrev pub ends : ℕ → Bool → List Event
ends r true = End r ∷ []
ends r false = []

-- the segments closed in its spool, and its end
abbrev pub due : ℕ → Lane → List Event
due r lane = rows r lane.intake.filled ++ ends r (is_good lane.stop)
