use Rattle.std.proofs.Common.{ℕ, ◌<◌, get_or}
use Rattle.ladder_items.specs.Ladder.{no_rendition}
use Rattle.round_trip.specs.Returning.{IsMade}
use Rattle.round_trip.proofs.made.all_are_made.Given as goal

abbrev pub invariant-loop-rendition : goal.invariant-loop-rendition
invariant-loop-rendition l = (r : ℕ) → r < l.rendition-index → IsMade (get_or l.renditions r no_rendition)
